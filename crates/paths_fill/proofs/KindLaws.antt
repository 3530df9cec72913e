-- The kind of a position by its number, and what the columns say of a position of each kind.
use mathlib.Core.Path.{◌≡◌, refl, ap, sym, ◌∙◌, subst}
use mathlib.Core.Bool.{Bool, true, false, ◌&&◌, ◌||◌, cond}
use mathlib.Core.List.{List}
use Prim.Native.Nat.{ℕ, ◌%◌, ◌/◌, ◌≤◌, ◌<◌}
use native.Mathlib.Omega.{arith}
use lib.Dec.{eqb}
use lib.ListN.{length, get_or, length-map, get_or-map}
use borrow.Author.Tests.{ne_eqb, eq-eqb, eqb-true}
use Rattle.model.specs.Meeting.{admits_element, admits_leaf, is_named, is_deep}
use Rattle.model.proofs.BoolLaws.{eq_cases}
use Rattle.paths_positions.specs.Positions as positions
use Rattle.paths_positions.specs.Positions.{Entry, entry_at, IsLower}
use Rattle.paths_positions.specs.declared.packed.Fields.{Fields as Position}
use Rattle.paths_positions.specs.Packed.{step_in, position_by, fields_of, entry_of, entries_by, cleaned}
use Rattle.paths_positions.specs.Packed.{kept_of, kept_entry, kept_entries_by}
use Rattle.paths_positions.specs.Packed.{root_kind, over_kind}
use Rattle.paths_positions.specs.Packed.{union_kind, kinds}
use Rattle.paths_positions.proofs.PackedLaws.{fields_low}
use Rattle.paths_positions.proofs.CleanMeetLaws.{lower_kept}
use Rattle.paths_cells.proofs.MarkLaws.{bit_set}
use Rattle.paths_rows.specs.Columns.{Columns, column_at, is_set_at, first_field, second_field, kind_field, deep_field, element_field}
use Rattle.paths_rows.specs.Columns.{leaf_field}
use Rattle.paths_rows.specs.Columns.{named_field, low_field, high_field, operand_of}
use Rattle.paths_rows.specs.Rows.{label_is}
use Rattle.paths_fill.specs.Filling.{PositionsPre}

-- KINDS
pub data KindOf (q : Position) : Type 0 where
  is_nowhere : q.kind ≡ 0 → position_by q ≡ positions.nowhere → KindOf q
  is_root : q.kind ≡ root_kind → position_by q ≡ positions.root q.label → KindOf q
  is_over : q.kind ≡ over_kind → position_by q ≡ positions.over (step_in q) q.first → KindOf q
  is_union : q.kind ≡ union_kind → position_by q ≡ positions.union q.first q.second → KindOf q

pub kind_of : (q : Position) → q.kind < kinds → KindOf q
kind_of q h =
    eq_cases q.kind root_kind (λ e. is_root e (rw e))
    (λ e. eq_cases q.kind over_kind (λ f. is_over f (rw f))
    (λ f. eq_cases q.kind union_kind (λ g. is_union g (rw g))
    (λ g. let z : q.kind ≡ 0 = omega (arith, e, f, g) in is_nowhere z (rw z))))

pub kind_low : (w : ℕ) → (fields_of w).kind < kinds
kind_low w = (fields_low w).kind

-- THE POSITION at a number
pub entry_at_lem : (ws : List ℕ) (k : ℕ) → entry_at (entries_by ws) k ≡ entry_of (get_or ws k 0)
entry_at_lem ws k = get_or-map entry_of ws k 0

pub position_at : (ws : List ℕ) (k : ℕ) → (entry_at (entries_by ws) k).position ≡ position_by (fields_of (get_or ws k 0))
position_at ws k = ap (λ (x : Entry). x.position) (entry_at_lem ws k)

pub entries_length : (ws : List ℕ) → length (entries_by ws) ≡ length ws
entries_length ws = length-map ws entry_of

pub lower_at : (ws : List ℕ) → PositionsPre ws → (k : ℕ) → k < length ws → {p : positions.Position} →
    position_by (fields_of (get_or ws k 0)) ≡ p → IsLower k p
lower_at ws pre k h e =
    subst (IsLower k) (position_at ws k ∙ e) (pre.lower k (omega (arith, entries_length ws)))

-- and of the first script's, by the fields that its kind has
pub kept_entry_at_lem : (ws : List ℕ) (k : ℕ) → entry_at (kept_entries_by ws) k ≡ kept_entry (get_or ws k 0)
kept_entry_at_lem ws k = get_or-map kept_entry ws k 0

pub kept_position_at : (ws : List ℕ) (k : ℕ) → (entry_at (kept_entries_by ws) k).position ≡ position_by (kept_of (get_or ws k 0))
kept_position_at ws k = ap (λ (x : Entry). x.position) (kept_entry_at_lem ws k)

pub kept_length : (ws : List ℕ) → length (kept_entries_by ws) ≡ length ws
kept_length ws = length-map ws kept_entry

pub kept_lower_at : (ws : List ℕ) → PositionsPre ws → (k : ℕ) → k < length ws → {p : positions.Position} →
    position_by (kept_of (get_or ws k 0)) ≡ p → IsLower k p
kept_lower_at ws pre k h e =
    subst (IsLower k) (kept_position_at ws k ∙ e) (lower_kept ws pre.lower k (omega (arith, kept_length ws)))

kind_kept : (p : Position) → p.kind < kinds → (cleaned p).kind ≡ p.kind
kind_kept p h =
    eq_cases p.kind 0 (λ e. rw e)
    (λ a. eq_cases p.kind root_kind (λ e. rw e)
    (λ b. eq_cases p.kind over_kind (λ e. rw e) (λ c. let e : p.kind ≡ union_kind = omega (arith, a, b, c, h) in rw e)))

pub kept_kind : (w : ℕ) → (kept_of w).kind ≡ (fields_of w).kind
kept_kind w = kind_kept (fields_of w) (kind_low w)

-- NAMES of two bytes
labels_agree : (x y : ℕ) → (eqb (y % 256) (x % 256) && eqb (y / 256) (x / 256)) ≡ eqb x y
labels_agree x y =
    eq_cases x y
    (λ e. let f : y % 256 ≡ x % 256 = ap (λ (z : ℕ). z % 256) (sym e) in
    let g : y / 256 ≡ x / 256 = ap (λ (z : ℕ). z / 256) (sym e) in
    rw (eq-eqb (y % 256) (x % 256) f, eq-eqb (y / 256) (x / 256) g, eq-eqb x y e))
    (λ n. differ (eqb (y % 256) (x % 256)) (eqb (y / 256) (x / 256)) refl refl n ∙ sym (ne_eqb x y n))
  where
    differ : (a b : Bool) → eqb (y % 256) (x % 256) ≡ a → eqb (y / 256) (x / 256) ≡ b → (x ≡ y → ⊥) → (a && b) ≡ false
    differ true true e f n =
        let g : y % 256 ≡ x % 256 = eqb-true (y % 256) (x % 256) e in
        let h : y / 256 ≡ x / 256 = eqb-true (y / 256) (x / 256) f in
        absurd (n (omega (arith, g, h)))
    differ true false e f n = refl
    differ false b e f n = refl

-- THE COLUMN of a position
module _ {us c : List ℕ} (columns : Columns us c) (l : ℕ) (low : l < length us) where
  abbrev q : Position
  q = fields_of (get_or us l 0)

  pub kind_at : column_at c kind_field l ≡ q.kind
  kind_at = columns.at kind_field l (omega arith) low

  pub first_at_lem : column_at c first_field l ≡ operand_of q
  first_at_lem = columns.at first_field l (omega arith) low

  pub second_at_lem : column_at c second_field l ≡ q.second
  second_at_lem = columns.at second_field l (omega arith) low

  pub deep_at : is_set_at c deep_field l ≡ is_deep (step_in q)
  deep_at = ap (λ (x : ℕ). eqb (x % 2) 1) (columns.at deep_field l (omega arith) low) ∙ bit_set (is_deep (step_in q))

  pub named_at : is_set_at c named_field l ≡ is_named (step_in q)
  named_at = ap (λ (x : ℕ). eqb (x % 2) 1) (columns.at named_field l (omega arith) low) ∙ bit_set (is_named (step_in q))

  element_at : is_set_at c element_field l ≡ (eqb q.kind over_kind && admits_element (step_in q))
  element_at =
      ap (λ (x : ℕ). eqb (x % 2) 1) (columns.at element_field l (omega arith) low) ∙
      bit_set (eqb q.kind over_kind && admits_element (step_in q))

  leaf_at : is_set_at c leaf_field l ≡ (eqb q.kind over_kind && admits_leaf (step_in q))
  leaf_at =
      ap (λ (x : ℕ). eqb (x % 2) 1) (columns.at leaf_field l (omega arith) low) ∙
      bit_set (eqb q.kind over_kind && admits_leaf (step_in q))

  -- its label, by both bytes
  pub labels_at : (x : ℕ) → label_is c (x % 256) (x / 256) l ≡ eqb x q.label
  labels_at x =
      ap (λ (y : ℕ). eqb y (x % 256) && eqb (column_at c high_field l) (x / 256)) (columns.at low_field l (omega arith) low) ∙
      ap (λ (y : ℕ). eqb (q.label % 256) (x % 256) && eqb y (x / 256)) (columns.at high_field l (omega arith) low) ∙
      labels_agree x q.label

  -- its first operand, where it has one
  pub over_first : q.kind ≡ over_kind → column_at c first_field l ≡ q.first
  over_first e = first_at_lem ∙ ap (λ (x : ℕ). cond (eqb x over_kind || eqb x union_kind) q.first 0) e

  pub union_first : q.kind ≡ union_kind → column_at c first_field l ≡ q.first
  union_first e = first_at_lem ∙ ap (λ (x : ℕ). cond (eqb x over_kind || eqb x union_kind) q.first 0) e

  -- a step's tests, and those of any other
  pub over_element : q.kind ≡ over_kind → is_set_at c element_field l ≡ admits_element (step_in q)
  over_element e = element_at ∙ ap (λ (x : ℕ). eqb x over_kind && admits_element (step_in q)) e

  pub over_leaf : q.kind ≡ over_kind → is_set_at c leaf_field l ≡ admits_leaf (step_in q)
  over_leaf e = leaf_at ∙ ap (λ (x : ℕ). eqb x over_kind && admits_leaf (step_in q)) e

  pub no_element_at : (q.kind ≡ over_kind → ⊥) → is_set_at c element_field l ≡ false
  no_element_at n = element_at ∙ ap (λ (x : Bool). x && admits_element (step_in q)) (ne_eqb q.kind over_kind n)

  pub no_leaf_at : (q.kind ≡ over_kind → ⊥) → is_set_at c leaf_field l ≡ false
  no_leaf_at n = leaf_at ∙ ap (λ (x : Bool). x && admits_leaf (step_in q)) (ne_eqb q.kind over_kind n)

  -- whether it is a union
  pub is_union_lem : q.kind ≡ union_kind → eqb (column_at c kind_field l) union_kind ≡ true
  is_union_lem e = eq-eqb (column_at c kind_field l) union_kind (kind_at ∙ e)

  pub not_union : (q.kind ≡ union_kind → ⊥) → eqb (column_at c kind_field l) union_kind ≡ false
  not_union n = ne_eqb (column_at c kind_field l) union_kind (λ e. n (sym kind_at ∙ e))

  -- its first operand is lower, or 0
  pub first_low : PositionsPre us → column_at c first_field l ≤ l
  first_low pre = go (kind_of q (kind_low (get_or us l 0)))
    where
      none : (q.kind ≡ over_kind → ⊥) → (q.kind ≡ union_kind → ⊥) → column_at c first_field l ≤ l
      none f g =
          let e : operand_of q ≡ 0 = rw (ne_eqb q.kind over_kind f, ne_eqb q.kind union_kind g) in
          omega (arith, first_at_lem, e)

      go : KindOf q → column_at c first_field l ≤ l
      go (is_nowhere e f) = none (λ g. omega arith) (λ g. omega arith)
      go (is_root e f) = none (λ g. omega arith) (λ g. omega arith)
      go (is_over e f) = let h : q.first < l = lower_at us pre l low f in omega (arith, over_first e, h)
      go (is_union e f) = let h : (q.first < l) × (q.second < l) = lower_at us pre l low f in omega (arith, union_first e, h.0)
