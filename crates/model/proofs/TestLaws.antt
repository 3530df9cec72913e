-- Conjunctions of several tests, and the tests that a number is in a range and that a node's parent is on both paths, taken apart and
-- put together.
use mathlib.Core.Path.{◌≡◌}
use mathlib.Core.Bool.{Bool, true, ◌&&◌, ◌||◌}
use mathlib.Core.Logic.{inl, inr}
use Prim.Native.Nat.{ℕ, suc, ◌≤◌}
use native.Mathlib.Omega.{arith}
use lib.Dec.{leb}
use borrow.Author.Tests.{leb-true, le-leb}
use Rattle.model.specs.Base.{is_in}
use Rattle.model.specs.Script.{Step}
use Rattle.model.specs.Meeting.{is_deep, Cell, is_parent}
use Rattle.model.proofs.BoolLaws.{and_left, and_right, and_both, or_left, or_right, or_cases}

pub and_parts : (a b : Bool) → (a && b) ≡ true → (a ≡ true) × (b ≡ true)
and_parts a b e = (and_left a b e, and_right a b e)

pub and_three : (a b c : Bool) → (a && b && c) ≡ true → (a ≡ true) × (b ≡ true) × (c ≡ true)
and_three a b c e = (and_left a b (and_left (a && b) c e), and_right a b (and_left (a && b) c e), and_right (a && b) c e)

pub and_four : (a b c d : Bool) → (a && b && c && d) ≡ true → (a ≡ true) × (b ≡ true) × (c ≡ true) × (d ≡ true)
and_four a b c d e = let k = and_three (a && b) c d e in (and_left a b k.0, and_right a b k.0, k.1, k.2)

pub and_five : (a b c d f : Bool) → (a && b && c && d && f) ≡ true → (a ≡ true) × (b ≡ true) × (c ≡ true) × (d ≡ true) × (f ≡ true)
and_five a b c d f e = let k = and_four (a && b) c d f e in (and_left a b k.0, and_right a b k.0, k.1, k.2, k.3)

-- a number between two others
pub is_in_at : (low high x : ℕ) → is_in low high x ≡ true → (low ≤ x) × (x ≤ high)
is_in_at a b x e = let k = and_parts (leb a x) _ e in (leb-true _ _ k.0, leb-true _ _ k.1)

pub is_in_some : (low high x : ℕ) → is_in (suc low) high x ≡ true → x ≡ 0 → ⊥
is_in_some a b x e z = let k = is_in_at (suc a) b x e in omega arith

pub is_in_by : (low high x : ℕ) → low ≤ x → x ≤ high → is_in low high x ≡ true
is_in_by a b x h l = and_both _ _ (le-leb _ _ h) (le-leb _ _ l)

-- A NODE'S PARENT: on both paths, or on one and below a node on the other, whose next step is a descendant step
module _ (s t : Step) (c : Cell) where
  pub parent_on : c.on_element ≡ true → is_parent s t c ≡ true
  parent_on e = or_left (c.on_element || (is_deep t && c.down_element)) (is_deep s && c.up_element) (or_left c.on_element _ e)

  pub parent_down : is_deep t ≡ true → c.down_element ≡ true → is_parent s t c ≡ true
  parent_down d e =
      or_left (c.on_element || (is_deep t && c.down_element)) (is_deep s && c.up_element)
      (or_right c.on_element _ (and_both (is_deep t) _ d e))

  pub parent_up : is_deep s ≡ true → c.up_element ≡ true → is_parent s t c ≡ true
  parent_up d e = or_right (c.on_element || (is_deep t && c.down_element)) (is_deep s && c.up_element) (and_both (is_deep s) _ d e)

  pub parent_cases : {G : Type 0} → is_parent s t c ≡ true → (c.on_element ≡ true → G) → (is_deep t ≡ true → c.down_element ≡ true → G) →
      (is_deep s ≡ true → c.up_element ≡ true → G) → G
  parent_cases e f g h = elim (or_cases (c.on_element || (is_deep t && c.down_element)) (is_deep s && c.up_element) e) [
    | inl k ↦ elim (or_cases c.on_element (is_deep t && c.down_element) k) [
      | inl l ↦ f l
      | inr l ↦ let a = and_parts (is_deep t) c.down_element l in g a.0 a.1
    ]
    | inr k ↦ let a = and_parts (is_deep s) c.up_element k in h a.0 a.1
  ]
