use Rattle.paths_rows.proofs.RowLaws.{any_none, any_step, met_by_lem}
use Rattle.paths_rows.proofs.rows.meets.Goals as goal

pub loop-l-init : goal.loop-l-init
loop-l-init c =
    any_none _

pub loop-l-preserved : goal.loop-l-preserved
loop-l-preserved c =
    any_step _ _ c.loop-l.invariant
    (met_by_lem c.args.columns.now c.loop-l.l c.args.table.now c.args.m c.args.k c.from-number.result c.at.ensures c.is_marked.ensures
    c.is_marked-in-loop-l.ensures)
