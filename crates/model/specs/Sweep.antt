-- Document 01, 'Sweep': drops each row that is neither marked nor below a marked row, and renumbers.
use Rattle.std.specs.Prelude.{Bool, false, ◌||◌, cond, List, [], ◌∷◌, map, ℕ, zero, suc, ◌+◌}
use Rattle.std.proofs.Math.Option.{Option, none, some}
use Rattle.model.specs.Base.{bit}
use Rattle.model.specs.Table.{Row, Table, table, row_at, is_marked, with_parent}

-- a property of the parent, false where there is none
abbrev pub through : (ℕ → Bool) → Option ℕ → Bool
through f none = false
through f (some p) = f p

-- marked, or below a marked row; fuel: a row's number plus one, parents being lower
unfoldable pub kept_from : ℕ → Table → (row : ℕ) → Bool
kept_from zero x i = false
kept_from (suc n) x i = is_marked x i || through (kept_from n x) (row_at x i).parent

-- a row that stays
abbrev pub is_kept : Table → (row : ℕ) → Bool
is_kept x i = kept_from (suc i) x i

-- kept rows among the next ones
unfoldable pub kept_before : Table → (from : ℕ) → ℕ → ℕ
kept_before x i zero = 0
kept_before x i (suc n) = bit (is_kept x i) + kept_before x (suc i) n

-- The others are renumbered in rising order
abbrev pub new_number : Table → (row : ℕ) → ℕ
new_number x i = kept_before x 0 i

-- a parent or a mark at its new number
abbrev pub renumbered : Table → Option ℕ → Option ℕ
renumbered x none = none
renumbered x (some i) = some (new_number x i)

-- the rows that stay, with their parents renumbered
unfoldable pub swept_rows : Table → (row : ℕ) → List Row → List Row
swept_rows x i [] = []
swept_rows x i (r ∷ rs) =
    cond (is_kept x i) (with_parent r (renumbered x r.parent) ∷ swept_rows x (suc i) rs) (swept_rows x (suc i) rs)

-- the marks, renumbered
abbrev pub swept_marks : Table → List (Option ℕ) → List (Option ℕ)
swept_marks x ms = map (renumbered x) ms

-- the table swept
abbrev pub swept : Table → Table
swept x = table (swept_rows x 0 x.rows) (swept_marks x x.marks)
