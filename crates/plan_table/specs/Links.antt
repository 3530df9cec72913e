-- A row or none, as links and stored parents tell it.
use Rattle.std.specs.Prelude as rust
use Rattle.std.specs.Prelude.{ℕ}
use Rattle.std.proofs.Math.Option.{Option, none, some}
use Rattle.plan_table.specs.declared.RowNumber.{RowNumber}

-- the number of a row, where there is one
abbrev pub row_by : rust.Option RowNumber → Option ℕ
row_by rust.None = none
row_by (rust.Some r) = some r.0
