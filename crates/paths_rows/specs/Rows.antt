-- The marks of a row, relation by relation: what each loop marks, from the marks and the columns that it reads.
use Rattle.std.specs.Prelude.{◌≡◌, Bool, ◌&&◌, ◌||◌, not, List, ℕ, ◌+◌, ◌*◌, ◌%◌, ◌≤◌, ◌<◌, eqb, length, get_or}
use Rattle.std.specs.Borrow.{Bor}
use Rattle.model.specs.Base.{bit}
use Rattle.paths_positions.specs.Answer.{any_up_to}
use Rattle.paths_positions.specs.Packed.{root_kind, union_kind}
use Rattle.paths_positions.specs.Steps.{max_positions}
use Rattle.paths_cells.specs.Pairs.{on_element, down, up, on_leaf, relations, mark_at, is_marked, HasRows}
use Rattle.paths_rows.specs.Columns.{column_at, is_set_at, first_field, kind_field, role_field, deep_field, element_field, leaf_field}
use Rattle.paths_rows.specs.Columns.{named_field, low_field, high_field, fields}

-- MARKED, one relation of a row: where a test holds, up to column n; every other mark is as it was
pub record RowMarked (t : List ℕ) (m r k : ℕ) (holds : ℕ → Bool) (n : ℕ) (t' : List ℕ) : Type 0 where
  pub size : length t' ≡ length t
  pub here : (l : ℕ) → l < n → mark_at t' m r k l ≡ bit (holds l)
  pub others : (s i j : ℕ) → s < relations → j < m → (s ≡ r → i ≡ k → j < n → ⊥) → mark_at t' m s i j ≡ mark_at t m s i j

-- ONE RELATION of a row, by a closure of the predicates pre and post, which is asked of the table as marked until then and of a column
abbrev pub Computes : (post : Bor (List ℕ) → ℕ → Bool → Type 0) → (t : List ℕ) → (m r k : ℕ) → (holds : ℕ → Bool) → Type 0
Computes post t m r k holds =
    (x : Bor (List ℕ)) (l : ℕ) (b : Bool) → l < m → RowMarked t m r k holds l x.now → post x l b → b ≡ holds l

abbrev pub CallsPre : (pre : Bor (List ℕ) → ℕ → Type 0) → (t : List ℕ) → (m : ℕ) → Type 0
CallsPre pre t m = (x : Bor (List ℕ)) (l : ℕ) → l < m → length x.now ≡ length t → pre x l

-- it asks for room for the row, not marked yet. Whatever test the closure computes, the row is marked where the test holds, and the answer
-- is whether it holds of any column
pub record MarkRowPre (t : List ℕ) (m r k : ℕ) : Type 0 where
  pub room : HasRows t m (k + 1)
  pub relation : r < relations
  pub clear : (l : ℕ) → l < m → mark_at t m r k l ≡ 0

pub record MarkRowPost (post : Bor (List ℕ) → ℕ → Bool → Type 0) (t : List ℕ) (m r k : ℕ) (t' : List ℕ) (seen : Bool) : Type 0 where
  pub is : (holds : ℕ → Bool) → Computes post t m r k holds → RowMarked t m r k holds m t' × (seen ≡ any_up_to holds m)

-- what a test of column l asks of the columns
pub record TestPre (c : List ℕ) (l : ℕ) : Type 0 where
  pub size : length c ≡ fields * max_positions
  pub column : l < max_positions

-- what a row is marked from: room for it, columns, and the relation not marked yet
pub record PassPre (t : List ℕ) (m r k : ℕ) (c : List ℕ) : Type 0 where
  pub room : HasRows t m (k + 1)
  pub relation : r < relations
  pub few : m ≤ max_positions
  pub size : length c ≡ fields * max_positions
  pub clear : (l : ℕ) → l < m → mark_at t m r k l ≡ 0

-- a byte that says yes
abbrev pub is_yes : ℕ → Bool
is_yes b = eqb (b % 2) 1

-- PARENTS: an element that can be the parent of a node on both, the first a step from i: in a relation with the operand of the second,
-- or down from it where a descendant step leads there
abbrev pub parent_by : (table : List ℕ) → (m : ℕ) → (columns : List ℕ) → (i source l : ℕ) → Bool
parent_by t m c i s l =
    is_marked t m s i (column_at c first_field l) || (is_set_at c deep_field l && is_marked t m down i (column_at c first_field l))

pub record ParentsPre (t : List ℕ) (m : ℕ) (c : List ℕ) (i source : ℕ) (ps : List ℕ) : Type 0 where
  pub room : HasRows t m (i + 1)
  pub relation : source < relations
  pub few : m ≤ max_positions
  pub size : length c ≡ fields * max_positions
  pub space : length ps ≡ max_positions
  pub lower : (l : ℕ) → l < m → column_at c first_field l < m

pub record ParentsPost (t : List ℕ) (m : ℕ) (c : List ℕ) (i source : ℕ) (ps ps' : List ℕ) : Type 0 where
  pub size : length ps' ≡ length ps
  pub is : (l : ℕ) → l < m → get_or ps' l 0 ≡ bit (parent_by t m c i source l)

-- ON BOTH: an element, a leaf, two roots. The names agree where both steps have one
pub record OnPre (t : List ℕ) (m r k : ℕ) (c ps : List ℕ) : Type 0 where
  pub pass : PassPre t m r k c
  pub space : length ps ≡ max_positions

abbrev pub label_is : (columns : List ℕ) → (low high l : ℕ) → Bool
label_is c x y l = eqb (column_at c low_field l) x && eqb (column_at c high_field l) y

abbrev pub element_by : (columns parents : List ℕ) → (named : Bool) → (low high l : ℕ) → Bool
element_by c ps n x y l =
    is_yes (get_or ps l 0) && is_set_at c element_field l && (not (n && is_set_at c named_field l) || label_is c x y l)

abbrev pub leaf_by : (columns parents : List ℕ) → (l : ℕ) → Bool
leaf_by c ps l = is_yes (get_or ps l 0) && is_set_at c leaf_field l

abbrev pub root_by : (columns : List ℕ) → (low high l : ℕ) → Bool
root_by c x y l = eqb (column_at c kind_field l) root_kind && label_is c x y l

-- DOWN, of all but unions
pub record DownPre (t : List ℕ) (m k : ℕ) (c : List ℕ) (i : ℕ) : Type 0 where
  pub pass : PassPre t m down k c
  pub source : HasRows t m (i + 1)

abbrev pub down_by : (table : List ℕ) → (m : ℕ) → (columns : List ℕ) → (i k : ℕ) → (element deep : Bool) → (l : ℕ) → Bool
down_by t m c i k e d l =
    is_marked t m on_element k l ||
    (e && not (eqb (column_at c kind_field l) union_kind) && (is_marked t m down i l || (d && is_marked t m up i l)))

-- UNIONS of the first script: the marks of two rows
pub record UnionPre (t : List ℕ) (m r k a b : ℕ) : Type 0 where
  pub room : HasRows t m (k + 1)
  pub relation : r < relations
  pub first : HasRows t m (a + 1)
  pub second : HasRows t m (b + 1)
  pub clear : (l : ℕ) → l < m → mark_at t m r k l ≡ 0

abbrev pub either_by : (table : List ℕ) → (m r a b l : ℕ) → Bool
either_by t m r a b l = is_marked t m r a l || is_marked t m r b l

-- MEETING: a node on both, the second in a role
pub record MetPre (t : List ℕ) (m k : ℕ) (c : List ℕ) : Type 0 where
  pub room : HasRows t m (k + 1)
  pub few : m ≤ max_positions
  pub size : length c ≡ fields * max_positions

abbrev pub met_by : (table : List ℕ) → (m : ℕ) → (columns : List ℕ) → (k role l : ℕ) → Bool
met_by t m c k x l = eqb (column_at c role_field l) x && (is_marked t m on_element k l || is_marked t m on_leaf k l)
