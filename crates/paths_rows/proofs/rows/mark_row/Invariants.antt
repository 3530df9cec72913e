-- `rows::mark_row` goes column by column.
use Rattle.paths_cells.specs.Pairs.{relation_number}
use Rattle.paths_rows.proofs.RowLaws.{RowTo}
use Rattle.paths_rows.proofs.rows.mark_row.Given as goal

abbrev pub invariant-loop-l : goal.invariant-loop-l
invariant-loop-l g l = RowTo (goal.F-post g l.holds) l.initial.table l.m (relation_number l.relation) l.k l.l l.table l.seen
