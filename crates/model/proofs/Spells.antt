-- Words spelled by a path's steps, wherever its place is; and the letters that two steps at once let through.
use mathlib.Core.Path.{◌≡◌, refl}
use mathlib.Core.Bool.{Bool, true, false, ◌&&◌, ◌||◌, not}
use mathlib.Core.Logic.{inl, inr}
use mathlib.Core.List.{[], ◌∷◌}
use Prim.Native.Nat.{ℕ}
use lib.Dec.{eqb}
use borrow.Author.Tests.{eqb-true, eq-eqb}
use Rattle.model.specs.Table.{is_name}
use Rattle.model.specs.Script.{Step}
use Rattle.model.specs.Step.{Letter, leaf_letter, named, admits}
use Rattle.model.specs.Paths.{Place, Path, start, ◌▸◌}
use Rattle.model.specs.Meeting.{admits_element, admits_leaf, is_named, share_element, share_leaf}
use Rattle.model.proofs.BoolLaws.{and_left, and_right, and_both, or_right, true_false}
use Rattle.model.proofs.TestLaws.{and_three}
use Rattle.model.proofs.Words.{Word, Grown, same}
use Rattle.model.proofs.PathLaws.{down_axis, StepFits}

-- SPELLED: a child step adds one letter that passes its test; a descendant step adds one or more, of which the last passes
pub data Spells : Path → Word → Type 0 where
  spelled : {p : Place} → Spells (start p) []
  child : {p : Path} {s : Step} {a : Letter} {w : Word} → Spells p w → s.axis ≡ 0 → admits s a ≡ true → Spells (p ▸ s) (a ∷ w)
  deep : {p : Path} {s : Step} {a : Letter} {u w : Word} → Spells p u → Grown u w → s.axis ≡ 1 → admits s a ≡ true →
      Spells (p ▸ s) (a ∷ w)

-- either step leads to a child
pub spells_child : {p : Path} {s : Step} {a : Letter} {w : Word} → Spells p w → StepFits s → admits s a ≡ true → Spells (p ▸ s) (a ∷ w)
spells_child {p} {s} h f e = elim (down_axis s f.down) [ inl k ↦ child h k e | inr k ↦ deep h same k e ]

-- WORDS TO A ROW: elements with a name in range, and perhaps a leaf at the end
pub data Elements : Word → Type 0 where
  root : Elements []
  below : {n : ℕ} {w : Word} → is_name n ≡ true → Elements w → Elements (named n ∷ w)

pub data WordTo : (is_leaf : Bool) → Word → Type 0 where
  to_element : {w : Word} → Elements w → WordTo false w
  to_leaf : {w : Word} → Elements w → WordTo true (leaf_letter ∷ w)

pub word_to_elements : {w : Word} → WordTo false w → Elements w
word_to_elements (to_element e) = e

-- LETTERS: one of the kind z that two steps let through
pub record LetterForBoth (z : Bool) (s t : Step) : Type 0 where
  pub letter : Letter
  pub ends : (w : Word) → Elements w → WordTo z (letter ∷ w)
  pub passes : admits s letter ≡ true
  pub passes_too : admits t letter ≡ true

-- an element's name passes where it is the step's, or the step names none
name_passes : (any element leaf name : Bool) → not leaf ≡ true → ((not any && not element && not leaf) ≡ true → name ≡ true) →
    (any || element || (not leaf && name)) ≡ true
name_passes true b c d l h = refl
name_passes false true c d l h = refl
name_passes false false true d l h = l
name_passes false false false d l h = h refl

admits_named : (s : Step) (n : ℕ) → admits_element s ≡ true → (is_named s ≡ true → n ≡ s.name) → admits s (named n) ≡ true
admits_named s n e h =
    name_passes (eqb s.test 0) (eqb s.test 1) (eqb s.test 2) (eqb n s.name) e (λ k. eq-eqb n s.name (h k))

pub leaf_for_both : (s t : Step) → share_leaf s t ≡ true → LetterForBoth true s t
leaf_for_both s t e =
    record {
      letter = leaf_letter;
      ends = λ w h. to_leaf h;
      passes = and_left _ (admits_leaf t) e;
      passes_too =
          and_right (admits_leaf s) _ e;
    }

-- a step's own name, or 1
pub element_for_both : (s t : Step) → StepFits s → StepFits t → share_element s t ≡ true → LetterForBoth false s t
element_for_both s t f g e = go (is_named s) (is_named t) refl refl
  where
    parts : (admits_element s ≡ true) × (admits_element t ≡ true) × ((not (is_named s && is_named t) || eqb s.name t.name) ≡ true)
    parts = and_three (admits_element s) (admits_element t) (not (is_named s && is_named t) || eqb s.name t.name) e

    by : (n : ℕ) → is_name n ≡ true → (is_named s ≡ true → n ≡ s.name) → (is_named t ≡ true → n ≡ t.name) → LetterForBoth false s t
    by n h k l =
        record {
          letter = named n;
          ends = λ w e. to_element (below h e);
          passes = admits_named s n parts.0 k;
          passes_too = admits_named t n parts.1 l;
        }

    go : (a b : Bool) → is_named s ≡ a → is_named t ≡ b → LetterForBoth false s t
    go true true k l =
        by s.name (f.name_in k) (λ q. refl) (λ q. eqb-true s.name t.name (rw (k, l) at parts.2))
    go true false k l = by s.name (f.name_in k) (λ q. refl) (λ q. absurd (true_false _ q l))
    go false true k l = by t.name (g.name_in l) (λ q. absurd (true_false _ q k)) (λ q. refl)
    go false false k l = by 1 refl (λ q. absurd (true_false _ q k)) (λ q. absurd (true_false _ q l))

-- one step, taken for both
pub element_for : (s : Step) → StepFits s → admits_element s ≡ true → LetterForBoth false s s
element_for s f e =
    element_for_both s s f f
    (and_both _ _ (and_both _ _ e e) (or_right (not (is_named s && is_named s)) _ (eq-eqb s.name s.name refl)))
