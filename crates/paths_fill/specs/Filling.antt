-- Contracts of what fills the table of pairs and answers whether two scripts' positions meet.
use Rattle.std.specs.Prelude.{◌≡◌, Bool, false, ◌&&◌, ◌||◌, cond, List, ℕ, ◌+◌, ◌/◌, ◌%◌, ◌≤◌, ◌<◌, eqb, length, get_or}
use Rattle.model.specs.Base.{bit}
use Rattle.model.specs.Script.{Step}
use Rattle.model.specs.Meeting.{Cell, admits_element, admits_leaf, is_named}
use Rattle.paths_positions.specs.Positions.{AreLower}
use Rattle.paths_positions.specs.Answer.{cell_at}
use Rattle.paths_positions.specs.declared.packed.Fields.{Fields as Position}
use Rattle.paths_positions.specs.Packed.{fields_of, entries_by, kept_of, plain_role, union_kind}
use Rattle.paths_positions.specs.Steps.{max_positions}
use Rattle.paths_cells.specs.Pairs.{on_element, down, up, relations, mark_at, is_marked, HasRows}
use Rattle.paths_rows.specs.Columns.{Columns, column_at, kind_field}
use Rattle.paths_rows.specs.Rows.{element_by, leaf_by}

-- few enough positions, each over lower ones
pub record PositionsPre (ws : List ℕ) : Type 0 where
  pub few : length ws ≤ max_positions
  pub lower : AreLower (entries_by ws)

-- whether a relation holds of a cell, and of positions k and l
abbrev pub held_by : (relation : ℕ) → Cell → Bool
held_by r c =
    cond (eqb r on_element) c.on_element (cond (eqb r down) c.down_element (cond (eqb r up) c.up_element c.on_leaf))

abbrev pub holds_at : (ws us : List ℕ) → (relation k l : ℕ) → Bool
holds_at ws us r k l = held_by r (cell_at (entries_by ws) (entries_by us) k l)

-- THE TABLE: filled below row k, clear from there on
pub record Filled (ws us : List ℕ) (k : ℕ) (t : List ℕ) : Type 0 where
  pub room : HasRows t (length us) (length ws)
  pub rows : (r i l : ℕ) → r < relations → i < k → l < length us → mark_at t (length us) r i l ≡ bit (holds_at ws us r i l)
  pub rest : (r i l : ℕ) → r < relations → k ≤ i → i < length ws → l < length us → mark_at t (length us) r i l ≡ 0

-- what the functions of a row are given: the positions of both scripts, the columns of the second's, and which row
pub record FillPre (ws us c : List ℕ) (k : ℕ) : Type 0 where
  pub first : PositionsPre ws
  pub second : PositionsPre us
  pub columns : Columns us c
  pub row : k < length ws

-- A PAIR WITH A UNION, of parts a and b: all its relations
pub record UnionsPre (t : List ℕ) (m k l a b : ℕ) : Type 0 where
  pub room : HasRows t m (k + 1)
  pub column : l < m
  pub first : a < l
  pub second : b < l
  pub clear : (r : ℕ) → r < relations → mark_at t m r k l ≡ 0

pub record UnionsPost (t : List ℕ) (m k l a b : ℕ) (t' : List ℕ) : Type 0 where
  pub size : length t' ≡ length t
  pub here : (r : ℕ) → r < relations → mark_at t' m r k l ≡ bit (is_marked t m r k a || is_marked t m r k b)
  pub others : (s i j : ℕ) → s < relations → j < m → (i ≡ k → j ≡ l → ⊥) → mark_at t' m s i j ≡ mark_at t m s i j

-- THE REST OF A ROW: what is marked of a pair before, all but an element up, and nothing of a union
abbrev pub before_rest : (ws us columns : List ℕ) → (relation k l : ℕ) → Bool
before_rest ws us c r k l = cond (eqb (column_at c kind_field l) union_kind || eqb r up) false (holds_at ws us r k l)

pub record RestPre (ws us c t : List ℕ) (k : ℕ) : Type 0 where
  pub fill : FillPre ws us c k
  pub single : (fields_of (get_or ws k 0)).kind ≡ union_kind → ⊥
  pub room : HasRows t (length us) (length ws)
  pub started : (r l : ℕ) → r < relations → l < length us → mark_at t (length us) r k l ≡ bit (before_rest ws us c r k l)

pub record RestPost (ws us t : List ℕ) (k : ℕ) (t' : List ℕ) : Type 0 where
  pub size : length t' ≡ length t
  pub row : (r l : ℕ) → r < relations → l < length us → mark_at t' (length us) r k l ≡ bit (holds_at ws us r k l)
  pub others : (r i l : ℕ) → r < relations → l < length us → (i ≡ k → ⊥) → mark_at t' (length us) r i l ≡ mark_at t (length us) r i l

-- of one pair, those before it being done
pub record LeftPre (ws us c t : List ℕ) (k l : ℕ) : Type 0 where
  pub fill : FillPre ws us c k
  pub single : (fields_of (get_or ws k 0)).kind ≡ union_kind → ⊥
  pub room : HasRows t (length us) (length ws)
  pub column : l < length us
  pub before : (r j : ℕ) → r < relations → j < l → mark_at t (length us) r k j ≡ bit (holds_at ws us r k j)
  pub here : (r : ℕ) → r < relations → mark_at t (length us) r k l ≡ bit (before_rest ws us c r k l)

pub record LeftPost (ws us t : List ℕ) (k l : ℕ) (t' : List ℕ) : Type 0 where
  pub size : length t' ≡ length t
  pub here : (r : ℕ) → r < relations → mark_at t' (length us) r k l ≡ bit (holds_at ws us r k l)
  pub others : (r i j : ℕ) → r < relations → j < length us → (i ≡ k → j ≡ l → ⊥) →
      mark_at t' (length us) r i j ≡ mark_at t (length us) r i j

-- ON BOTH, of a step that may let none pass
abbrev pub step_elements : Step → (columns parents : List ℕ) → (l : ℕ) → Bool
step_elements s c ps l = admits_element s && element_by c ps (is_named s) (s.name % 256) (s.name / 256) l

abbrev pub step_leaves : Step → (columns parents : List ℕ) → (l : ℕ) → Bool
step_leaves s c ps l = admits_leaf s && leaf_by c ps l

-- the relation that a step's parents are read from
abbrev pub source_by : (deep : Bool) → ℕ
source_by d = cond d up on_element

-- the fields of a position but its role
abbrev pub roleless : Position → Position
roleless p = record p { role = plain_role }

-- A ROW, p being position k but for its role, of a kind; and of any kind, where `live` says which lower rows may have something in
-- common with some
pub record KindRowPre (ws us c t : List ℕ) (k : ℕ) (p : Position) (n : ℕ) : Type 0 where
  pub fill : FillPre ws us c k
  pub filled : Filled ws us k t
  pub position : roleless p ≡ roleless (kept_of (get_or ws k 0))
  pub kind : p.kind ≡ n

abbrev pub Apart : (ws us : List ℕ) → (k : ℕ) → Type 0
Apart ws us k = (r l : ℕ) → r < relations → l < length us → holds_at ws us r k l ≡ false

pub record RowPre (ws us c live t : List ℕ) (k : ℕ) : Type 0 where
  pub fill : FillPre ws us c k
  pub filled : Filled ws us k t
  pub size : length live ≡ max_positions
  pub apart : (i : ℕ) → i < k → get_or live i 0 ≡ 0 → Apart ws us i

pub record RowPost (ws us t : List ℕ) (k : ℕ) (t' : List ℕ) (seen : Bool) : Type 0 where
  pub size : length t' ≡ length t
  pub filled : Filled ws us (k + 1) t'
  pub apart : seen ≡ false → Apart ws us k

-- MEETING, once row k is filled
pub record MeetsPre (ws us c t : List ℕ) (k : ℕ) (seen : Bool) : Type 0 where
  pub fill : FillPre ws us c k
  pub filled : Filled ws us (k + 1) t
  pub apart : seen ≡ false → Apart ws us k

-- ALL: from a clear table
pub record TablePre (ws us t : List ℕ) : Type 0 where
  pub first : PositionsPre ws
  pub second : PositionsPre us
  pub room : HasRows t (length us) (length ws)
  pub clear : (i : ℕ) → get_or t i 0 ≡ 0
