-- `columns::spread` writes one column after the other. The invariant: those below l are their positions'.
use Rattle.paths_rows.proofs.ColumnLaws.{ColumnsTo}
use Rattle.paths_rows.proofs.columns.spread.Given as goal

abbrev pub invariant-loop-l : goal.invariant-loop-l
invariant-loop-l l = ColumnsTo l.positions l.l l.columns
