-- `meet::on_leaves`: where the step lets leaves pass, and nowhere else.
use Rattle.script_records.specs.Steps.{step_of}
use Rattle.paths_fill.proofs.OnLaws.{leaves_none}
use Rattle.paths_fill.proofs.meet.on_leaves.Goals as goal

pub returns : goal.returns
returns c =
    let all = leaves_none c.args.columns.now c.args.parents.now (step_of c.args.step) c.requires.pass
    c.admits_leaf.ensures c.if-admits_leaf.false in
    record { row_marked = all.0; value = all.1 }
