-- `rows::parents` writes, column by column, whether an element can be the parent of both.
use Rattle.std.proofs.Common.{ℕ, ◌<◌, ◌≡◌, length, get_or}
use Rattle.model.specs.Base.{bit}
use Rattle.paths_cells.specs.Pairs.{relation_number}
use Rattle.paths_rows.specs.Rows.{parent_by}
use Rattle.paths_rows.proofs.rows.parents.Given as goal

abbrev pub invariant-loop-l : goal.invariant-loop-l
invariant-loop-l l =
    (length l.parents ≡ length l.initial.parents) ×
    ((j : ℕ) → j < l.l → get_or l.parents j 0 ≡ bit (parent_by l.table l.m l.columns l.i (relation_number l.source) j))
