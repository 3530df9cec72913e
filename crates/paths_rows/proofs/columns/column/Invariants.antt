-- `columns::column` writes one field after the other. The invariant: those below f are the position's, the other columns as they were.
use Rattle.paths_rows.proofs.ColumnLaws.{ColumnTo}
use Rattle.paths_rows.proofs.columns.column.Given as goal

abbrev pub invariant-loop-f : goal.invariant-loop-f
invariant-loop-f l = ColumnTo l.initial.columns l.l l.fn.q l.f l.columns
