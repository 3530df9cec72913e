use Rattle.std.proofs.Common.{refl, arith}
use Rattle.paths_rows.proofs.RowLaws.{pass_none, pass_asks, pass_step, pass_done}
use Rattle.paths_rows.proofs.rows.mark_row.Goals as goal

pub loop-l-init : goal.loop-l-init
loop-l-init g c =
    pass_none c.requires.row

pub mark-requires : goal.mark-requires
mark-requires g c =
    pass_asks c.requires.row c.loop-l.invariant c.loop-l-test.true _

pub loop-l-preserved : goal.loop-l-preserved
loop-l-preserved g c =
    pass_step c.requires.row c.loop-l.invariant c.loop-l-test.true _ refl c.holds-marked.ensures c.mark.ensures

pub returns : goal.returns
returns g c =
    pass_done c.requires.row c.loop-l.invariant (omega arith)
