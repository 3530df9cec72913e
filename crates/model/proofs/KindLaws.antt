-- A byte in a table of kinds; the kinds of a script, one by one and by their operands, and of a stored plan.
use mathlib.Core.Path.{◌≡◌, refl}
use mathlib.Core.Bool.{Bool, true, false, false≢true}
use mathlib.Core.List.{List, [], ◌∷◌}
use mathlib.Core.Option.{Option, none, some}
use Prim.Native.Nat.{ℕ, ◌≤◌}
use native.Mathlib.Omega.{arith}
use lib.Dec.{eqb, leb}
use borrow.Author.Tests.{eqb-true, eqb-false, eq-eqb, leb-true}
use Rattle.model.specs.Base.{all}
use Rattle.model.specs.Kinds.{Kind, kind_of, is_found, field_by, operands_by}
use Rattle.model.specs.Stored.{element_kind, leaf_kind, mark_kind, stored_kinds, is_stored_kind, stored_size, record_size}
use Rattle.model.specs.Script.{nil_kind, document_kind, variable_kind, step_kind, join_kind, let_kind, for_kind, if_kind, new_element_kind}
use Rattle.model.specs.Script.{new_leaf_kind, delete_kind, insert_kind, pick_kind, script_kinds, is_script_kind, body_size, arity}
use Rattle.model.proofs.BoolLaws.{by_cases, and_left, and_right}

-- BY KIND: a case for each row of a table that passes a test
abbrev also : Bool → (A B : Type 0) → Type 0
also true A B = A → B
also false A B = B

abbrev pub Each : (Kind → Bool) → List Kind → (byte : ℕ) → Type 0 → Type 0
Each f [] k P = P
Each f (r ∷ rs) k P = also (f r) (k ≡ r.number → P) (Each f rs k P)

-- the row of a byte passes it
abbrev pub Passes : (Kind → Bool) → Option Kind → Type 0
Passes f none = ⊥
Passes f (some r) = f r ≡ true

also_given : (A : Type 0) {B : Type 0} (t : Bool) → B → also t A B
also_given A true b = λ a. b
also_given A false b = b

each_given : {P : Type 0} (f : Kind → Bool) (rs : List Kind) (k : ℕ) → P → Each f rs k P
each_given f [] k p = p
each_given {P} f (r ∷ rs) k p = also_given (k ≡ r.number → P) (f r) (each_given f rs k p)

by_each : (P : Type 0) (f : Kind → Bool) (rs : List Kind) (k : ℕ) → Passes f (kind_of rs k) → Each f rs k P
by_each P f [] k h = absurd h
by_each P f (r ∷ rs) k h =
    by_cases (eqb k r.number) (λ e. here (f r) (rw e at h) (eqb-true _ _ e))
    (λ e. also_given (k ≡ r.number → P) (f r) (by_each P f rs k (rw e at h)))
  where
    here : (t : Bool) → t ≡ true → k ≡ r.number → also t (k ≡ r.number → P) (Each f rs k P)
    here true e q = λ c. each_given f rs k (c q)
    here false e q = absurd (false≢true e)

by_all : (P : Type 0) (rs : List Kind) (k : ℕ) → is_found (kind_of rs k) ≡ true → Each (λ (r : Kind). true) rs k P
by_all P rs k h = by_each P (λ (r : Kind). true) rs k (go (kind_of rs k) h)
  where
    go : (o : Option Kind) → is_found o ≡ true → Passes (λ (r : Kind). true) o
    go none e = absurd (false≢true e)
    go (some r) e = refl

-- no row has more than the row with most: bytes of a body, or operands
pub field_most : (f : Kind → ℕ) (rs : List Kind) (m k : ℕ) → all (λ (r : Kind). leb (f r) m) rs ≡ true → field_by f (kind_of rs k) ≤ m
unfolding all
field_most f [] m k h = omega arith
field_most f (r ∷ rs) m k h =
    by_cases (eqb k r.number) (λ e. rw e (leb-true _ _ (and_left _ _ h)))
    (λ e. rw e (field_most f rs m k (and_right (leb (f r) m) _ h)))

-- OF A SCRIPT
pub size_most : (k : ℕ) → body_size k ≤ 3
unfolding script_kinds all
size_most k = field_most (λ (r : Kind). r.body) script_kinds 3 k refl

pub arity_most : (k : ℕ) → arity k ≤ 3
unfolding script_kinds all
arity_most k = field_most (λ (r : Kind). r.operands) script_kinds 3 k refl

by_arity : (P : Type 0) (k : ℕ) → is_script_kind k ≡ true → (n : ℕ) → arity k ≡ n → Each (λ (r : Kind). eqb r.operands n) script_kinds k P
by_arity P k h n z = by_each P (λ (r : Kind). eqb r.operands n) script_kinds k (go (kind_of script_kinds k) h z)
  where
    go : (o : Option Kind) → is_found o ≡ true → operands_by o ≡ n → Passes (λ (r : Kind). eqb r.operands n) o
    go none e q = absurd (false≢true e)
    go (some r) e q = eq-eqb _ _ q

-- a kind is one of thirteen, and by its operands one of fewer
module _ {P : Type 0} (k : ℕ) (h : is_script_kind k ≡ true) where
  pub by_kind : (k ≡ nil_kind → P) → (k ≡ document_kind → P) → (k ≡ variable_kind → P) → (k ≡ step_kind → P) → (k ≡ join_kind → P) →
      (k ≡ let_kind → P) → (k ≡ for_kind → P) → (k ≡ if_kind → P) → (k ≡ new_element_kind → P) → (k ≡ new_leaf_kind → P) →
      (k ≡ delete_kind → P) → (k ≡ insert_kind → P) → (k ≡ pick_kind → P) → P
  unfolding script_kinds
  by_kind = by_all P script_kinds k h

  pub nullary_kind : arity k ≡ 0 → (k ≡ nil_kind → P) → (k ≡ document_kind → P) → (k ≡ variable_kind → P) → (k ≡ new_element_kind → P) →
      (k ≡ new_leaf_kind → P) → P
  unfolding script_kinds
  nullary_kind = by_arity P k h 0

  pub unary_kind : arity k ≡ 1 → (k ≡ step_kind → P) → (k ≡ delete_kind → P) → (k ≡ pick_kind → P) → P
  unfolding script_kinds
  unary_kind = by_arity P k h 1

  pub binary_kind : arity k ≡ 2 → (k ≡ join_kind → P) → (k ≡ let_kind → P) → (k ≡ for_kind → P) → (k ≡ insert_kind → P) → P
  unfolding script_kinds
  binary_kind = by_arity P k h 2

-- more than one operand, and not an if: two
pub two_left : (k : ℕ) → is_script_kind k ≡ true → (arity k ≡ 0 → ⊥) → (arity k ≡ 1 → ⊥) → (k ≡ if_kind → ⊥) → arity k ≡ 2
unfolding script_kinds
two_left k h f0 f1 f =
    by_kind k h (λ e. absurd (f0 (rw e))) (λ e. absurd (f0 (rw e))) (λ e. absurd (f0 (rw e))) (λ e. absurd (f1 (rw e))) (λ e. rw e)
    (λ e. rw e) (λ e. rw e) (λ e. absurd (f e)) (λ e. absurd (f0 (rw e))) (λ e. absurd (f0 (rw e))) (λ e. absurd (f1 (rw e))) (λ e. rw e)
    (λ e. absurd (f1 (rw e)))

-- OF A STORED PLAN: a kind is one of three, that of a row one of two, and every record has as many bytes
pub by_stored : {P : Type 0} (k : ℕ) → is_stored_kind k ≡ true → (k ≡ element_kind → P) → (k ≡ leaf_kind → P) → (k ≡ mark_kind → P) → P
unfolding stored_kinds
by_stored {P} k h = by_all P stored_kinds k h

pub row_kind : {P : Type 0} (k : ℕ) → is_stored_kind k ≡ true → eqb k mark_kind ≡ false → (k ≡ element_kind → P) → (k ≡ leaf_kind → P) → P
row_kind k h m f g = by_stored k h f g (λ e. absurd (eqb-false k mark_kind m e))

pub stored_size_lem : (k : ℕ) → is_stored_kind k ≡ true → stored_size k ≡ record_size
unfolding stored_kinds
stored_size_lem k h = by_stored k h (λ e. rw e) (λ e. rw e) (λ e. rw e)

pub stored_most : (k : ℕ) → stored_size k ≤ record_size
unfolding stored_kinds all
stored_most k = omega (arith, field_most (λ (r : Kind). r.body) stored_kinds 3 k refl)
