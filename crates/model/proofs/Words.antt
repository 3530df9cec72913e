-- Words: the letters from a root down to a node. When a word is grown from another.
use mathlib.Core.Path.{◌≡◌}
use mathlib.Core.Bool.{Bool, true, false, false≢true}
use mathlib.Core.Logic.{◌⊎◌, inl, inr}
use mathlib.Core.List.{List, [], ◌∷◌}
use Prim.Native.Nat.{ℕ}
use native.Mathlib.Omega.{arith}
use Rattle.model.specs.Step.{Letter, leaf_letter, named}

-- A word has the node's own letter first, then its parent's, up to and without the root's
abbrev pub Word : Type 0
Word = List Letter

-- where a word starts: a row of the first table, or a row that a script made
pub data Root : Type 0 where
  first : (row : ℕ) → Root
  made : (owner : ℕ) → Root

pub first_made : (i o : ℕ) → first i ≡ made o → ⊥
first_made i o e =
    let z : ◌≡◌ {A = ℕ} 0 1 = cc in
    omega arith

pub made_injective : (o p : ℕ) → made o ≡ made p → o ≡ p
made_injective o p e = cc

-- GROWN: a word, or more letters below it
pub data Grown (u : Word) : Word → Type 0 where
  same : Grown u u
  more : {a : Letter} {w : Word} → Grown u w → Grown u (a ∷ w)

pub grown_trans : {u v w : Word} → Grown u v → Grown v w → Grown u w
grown_trans g same = g
grown_trans g (more h) = more (grown_trans g h)

-- of two words from which a third is grown, one is grown from the other
pub grown_compare : {u v w : Word} → Grown u w → Grown v w → Grown u v ⊎ Grown v u
grown_compare same h = inr h
grown_compare (more g) same = inl (more g)
grown_compare (more g) (more h) = grown_compare g h

-- ELEMENTS: every letter of a word is an element's, or every letter but the node's own
unfoldable pub are_elements : Word → Bool
are_elements [] = true
are_elements (leaf_letter ∷ w) = false
are_elements (named n ∷ w) = are_elements w

abbrev pub is_proper : Word → Bool
is_proper [] = true
is_proper (a ∷ w) = are_elements w

elements_tail : (a : Letter) (w : Word) → are_elements (a ∷ w) ≡ true → are_elements w ≡ true
unfolding are_elements
elements_tail leaf_letter w e = absurd (false≢true e)
elements_tail (named n) w e = e

pub elements_grown : {u w : Word} → Grown u w → are_elements w ≡ true → are_elements u ≡ true
elements_grown same e = e
elements_grown (more {a} {w} g) e = elements_grown g (elements_tail a w e)
