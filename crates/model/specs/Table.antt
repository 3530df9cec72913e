-- Document 01, 'The table': rows, marks, and when a table is well formed.
use Rattle.std.specs.Prelude.{◌≡◌, Bool, true, false, ◌&&◌, not, cond, List, [], ◌∷◌, ◌++◌, ℕ, suc, ◌<◌, ltb, leb, eqb, length, get_or}
use Rattle.std.specs.Prelude.{set, replicate}
use Rattle.std.proofs.Math.Option.{Option, none, some}
use Rattle.model.specs.Base.{is_in, all, any, max_byte}
use Rattle.model.specs.Limits.{max_rows, documents, max_name}

-- A row is an element with a name or a leaf with a value (two's complement in a byte); it has a parent or none
pub record Row : Type 0 where
  pub is_leaf : Bool
  pub tag : ℕ
  pub parent : Option ℕ

-- Row numbers run 0, 1, 2 without a gap; each of eight documents marks at most one row
pub record Table : Type 0 where
  pub rows : List Row
  pub marks : List (Option ℕ)

abbrev pub table : List Row → List (Option ℕ) → Table
table rs ms = record { rows = rs; marks = ms }

-- the plan without rows
abbrev pub empty : Table
empty = table [] (replicate documents none)

-- what stands for a row that is not there
abbrev pub no_row : Row
no_row = record { is_leaf = false; tag = 0; parent = none }

-- the row with a number
abbrev pub row_at : Table → (number : ℕ) → Row
row_at x i = get_or x.rows i no_row

-- how many rows there are
abbrev pub count : Table → ℕ
count x = length x.rows

-- a row of the table that is an element
abbrev pub is_element : Table → (number : ℕ) → Bool
is_element x i = ltb i (count x) && not (row_at x i).is_leaf

-- a parent, not none
abbrev pub has_parent : Option ℕ → Bool
has_parent none = false
has_parent (some p) = true

-- a parent or a mark is this row
abbrev pub is_the : ℕ → Option ℕ → Bool
is_the i none = false
is_the i (some p) = eqb p i

-- some document marks the row
abbrev pub is_marked : Table → (row : ℕ) → Bool
is_marked x i = any (is_the i) x.marks

-- a table with a row more
abbrev pub with_row : Table → Row → Table
with_row x r = table (x.rows ++ (r ∷ [])) x.marks

-- a row with another parent
abbrev pub with_parent : Row → Option ℕ → Row
with_parent r p = record { is_leaf = r.is_leaf; tag = r.tag; parent = p }

-- a table with a row linked to another parent
abbrev pub linked : Table → (row : ℕ) → (parent : Option ℕ) → Table
linked x i p = table (set x.rows i (with_parent (row_at x i) p)) x.marks

-- a table with a mark more
abbrev pub with_mark : Table → (document row : ℕ) → Table
with_mark x d i = table x.rows (set x.marks d (some i))

-- WELL FORMED. A name is 1 to 255
abbrev pub is_name : ℕ → Bool
is_name n = is_in 1 max_name n

-- a value is one byte
abbrev pub tag_fits : Row → Bool
tag_fits r = cond r.is_leaf (leb r.tag max_byte) (is_name r.tag)

-- every parent is an element with a lower number than its child
abbrev pub is_lower_element : Table → (number parent : ℕ) → Bool
is_lower_element x i p = ltb p i && is_element x p

-- a parent fits: none, or a lower element
abbrev pub parent_fits : Table → (number : ℕ) → Option ℕ → Bool
parent_fits x i none = true
parent_fits x i (some p) = is_lower_element x i p

-- row after row
unfoldable pub rows_fit : Table → (number : ℕ) → List Row → Bool
rows_fit x i [] = true
rows_fit x i (r ∷ rs) = tag_fits r && parent_fits x i r.parent && rows_fit x (suc i) rs

-- a marked row is an element without parent
abbrev pub mark_fits : Table → Option ℕ → Bool
mark_fits x none = true
mark_fits x (some i) = is_element x i && not (has_parent (row_at x i).parent)

-- that no other document marks
unfoldable pub none_twice : List (Option ℕ) → Bool
none_twice [] = true
none_twice (none ∷ ms) = none_twice ms
none_twice (some i ∷ ms) = not (any (is_the i) ms) && none_twice ms

-- well formed but for the number of rows and of documents
abbrev pub is_tree : Table → Bool
is_tree x = rows_fit x 0 x.rows && all (mark_fits x) x.marks && none_twice x.marks

-- Well formed: at most 512 rows, eight documents, and the above holds
abbrev pub is_well : Table → Bool
is_well x =
    leb (count x) max_rows && rows_fit x 0 x.rows && eqb (length x.marks) documents && all (mark_fits x) x.marks &&
    none_twice x.marks

-- a parent is an element with a lower number than its child
abbrev pub ParentLower : Table → ℕ → Row → Type 0
ParentLower x i r = (p : ℕ) → r.parent ≡ some p → (p < i) × ((row_at x p).is_leaf ≡ false)

-- a root is an element without parent
abbrev pub IsRoot : Table → ℕ → Type 0
IsRoot x i = (i < count x) × ((row_at x i).is_leaf ≡ false) × ((row_at x i).parent ≡ none)

-- A TREE, rule by rule: tags in range, parents lower, marked rows are roots, no row is marked twice
pub record Tree (x : Table) : Type 0 where
  pub tags : (i : ℕ) → i < count x → tag_fits (row_at x i) ≡ true
  pub parents : (i : ℕ) → ParentLower x i (row_at x i)
  pub roots : (d i : ℕ) → get_or x.marks d none ≡ some i → IsRoot x i
  pub once : (d e i : ℕ) → get_or x.marks d none ≡ some i → get_or x.marks e none ≡ some i → d ≡ e
