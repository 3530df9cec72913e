-- Marks on pairs of positions: each is a byte of the table, one for each relation and pair.
use Rattle.std.specs.Prelude.{◌≡◌, Bool, false, cond, List, map, ℕ, ◌+◌, ◌*◌, ◌%◌, ◌≤◌, ◌<◌, eqb, length, get_or, set}
use Rattle.paths_cells.specs.declared.pairs.Relation.{Relation}
use Rattle.paths_cells.specs.declared.pairs.Relation.TheVariants.{OnElement, Down, Up, OnLeaf}

-- THE RELATIONS of two positions: an element on both, an element down, an element up, a leaf on both
abbrev pub on_element : ℕ
on_element = 0

abbrev pub down : ℕ
down = 1

abbrev pub up : ℕ
up = 2

abbrev pub on_leaf : ℕ
on_leaf = 3

abbrev pub relations : ℕ
relations = 4

-- the number of one
abbrev pub relation_number : Relation → ℕ
relation_number OnElement = on_element
relation_number Down = down
relation_number Up = up
relation_number OnLeaf = on_leaf

-- WHERE the mark of a relation and a pair stands, with so many columns: the second script's positions
abbrev pub place_of : (columns relation k l : ℕ) → ℕ
place_of m r k l = m * (relations * k + r) + l

-- its byte, and whether it is marked
abbrev pub mark_at : (table : List ℕ) → (columns relation k l : ℕ) → ℕ
mark_at t m r k l = get_or t (place_of m r k l) 0

abbrev pub is_marked : (table : List ℕ) → (columns relation k l : ℕ) → Bool
is_marked t m r k l = eqb (mark_at t m r k l % 2) 1

-- room for so many rows: the first script's positions
unfoldable pub HasRows : (table : List ℕ) → (columns rows : ℕ) → Type 0
HasRows t m n = m * (relations * n) ≤ length t

-- CLEAR: nothing is marked
unfoldable pub cleared : (table : List ℕ) → List ℕ
cleared t = map (λ (b : ℕ). 0) t

-- MARK: the byte of a relation and a pair is 1
abbrev pub marked : (table : List ℕ) → (columns relation k l : ℕ) → List ℕ
marked t m r k l = set t (place_of m r k l) 1

-- where it holds; else nothing changes
abbrev pub marked_where : (holds : Bool) → (table : List ℕ) → (columns relation k l : ℕ) → List ℕ
marked_where h t m r k l = cond h (marked t m r k l) t

-- a relation and a pair of the table
pub record PairPre (t : List ℕ) (m r k l : ℕ) : Type 0 where
  pub room : HasRows t m (k + 1)
  pub relation : r < relations
  pub column : l < m

-- to be marked where it holds, else not marked yet
pub record MarkPre (t : List ℕ) (m r k l : ℕ) (holds : Bool) : Type 0 where
  pub pair : PairPre t m r k l
  pub free : holds ≡ false → mark_at t m r k l ≡ 0
