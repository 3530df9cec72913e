-- Columns: what the filling needs of the second script's positions, a byte for each field of each position.
use Rattle.std.specs.Prelude.{◌≡◌, Bool, ◌&&◌, ◌||◌, cond, List, [], ◌∷◌, ℕ, ◌+◌, ◌*◌, ◌/◌, ◌%◌, ◌≤◌, ◌<◌, eqb, length, get_or}
use Rattle.model.specs.Base.{bit}
use Rattle.model.specs.Meeting.{admits_element, admits_leaf, is_named, is_deep}
use Rattle.paths_positions.specs.declared.packed.Fields.{Fields as Position}
use Rattle.paths_positions.specs.Packed.{step_in, fields_of, over_kind, union_kind}
use Rattle.paths_positions.specs.Steps.{max_positions}

-- THE FIELDS by number: the first and the second operand, the kind, the role, whether the step leads past its parent, lets elements
-- pass, lets leaves pass and has a name, and the label's two bytes
abbrev pub first_field : ℕ
first_field = 0

abbrev pub second_field : ℕ
second_field = 1

abbrev pub kind_field : ℕ
kind_field = 2

abbrev pub role_field : ℕ
role_field = 3

abbrev pub deep_field : ℕ
deep_field = 4

abbrev pub element_field : ℕ
element_field = 5

abbrev pub leaf_field : ℕ
leaf_field = 6

abbrev pub named_field : ℕ
named_field = 7

abbrev pub low_field : ℕ
low_field = 8

abbrev pub high_field : ℕ
high_field = 9

abbrev pub fields : ℕ
fields = 10

-- the first operand's number, 0 where there is none
abbrev pub operand_of : Position → ℕ
operand_of q = cond (eqb q.kind over_kind || eqb q.kind union_kind) q.first 0

-- the fields of a position in their order, and one of them
abbrev pub fields_by : Position → List ℕ
fields_by q =
    operand_of q ∷ q.second ∷ q.kind ∷ q.role ∷ bit (is_deep (step_in q)) ∷ bit (eqb q.kind over_kind && admits_element (step_in q)) ∷
    bit (eqb q.kind over_kind && admits_leaf (step_in q)) ∷ bit (is_named (step_in q)) ∷ (q.label % 256) ∷ (q.label / 256) ∷ []

abbrev pub field_by : (field : ℕ) → Position → ℕ
field_by f q = get_or (fields_by q) f 0

-- WHERE it stands: the fields of one number behind one another
abbrev pub column_at : (columns : List ℕ) → (field l : ℕ) → ℕ
column_at c f l = get_or c (max_positions * f + l) 0

-- a field that says yes or no
abbrev pub is_set_at : (columns : List ℕ) → (field l : ℕ) → Bool
is_set_at c f l = eqb (column_at c f l % 2) 1

-- fields that fit a byte
pub record FieldPre (q : Position) : Type 0 where
  pub kind : q.kind < 256
  pub role : q.role < 256
  pub first : q.first < 256
  pub second : q.second < 256
  pub label : q.label < 65536

-- a field of a column
pub record AtPre (c : List ℕ) (f l : ℕ) : Type 0 where
  pub size : length c ≡ fields * max_positions
  pub field : f < fields
  pub column : l < max_positions

-- ONE COLUMN: its fields, and the others' as they were
pub record ColumnPre (c : List ℕ) (l : ℕ) (q : Position) : Type 0 where
  pub size : length c ≡ fields * max_positions
  pub column : l < max_positions
  pub fits : FieldPre q

pub record ColumnPost (c : List ℕ) (l : ℕ) (q : Position) (c' : List ℕ) : Type 0 where
  pub size : length c' ≡ length c
  pub here : (f : ℕ) → f < fields → column_at c' f l ≡ field_by f q
  pub others : (f j : ℕ) → j < max_positions → (j ≡ l → ⊥) → column_at c' f j ≡ column_at c f j

-- ALL COLUMNS of packed positions
pub record ColumnsPre (us c : List ℕ) : Type 0 where
  pub few : length us ≤ max_positions
  pub size : length c ≡ fields * max_positions

pub record Columns (us c : List ℕ) : Type 0 where
  pub size : length c ≡ fields * max_positions
  pub at : (f l : ℕ) → f < fields → l < length us → column_at c f l ≡ field_by f (fields_of (get_or us l 0))
