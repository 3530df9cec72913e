-- Cells are sound: a word of elements on two paths from one place, or on one and below a word on the other, turns their cell on, and so
-- does a leaf on both. So paths that do not meet share no word.
use mathlib.Core.Path.{◌≡◌, refl, sym, ap, ◌∙◌, subst}
use mathlib.Core.Bool.{Bool, true, false, ◌&&◌, ◌||◌, not, false≢true}
use mathlib.Core.Logic.{inl, inr}
use mathlib.Core.List.{[], ◌∷◌}
use Prim.Native.Nat.{ℕ}
use lib.Dec.{eqb}
use borrow.Author.Tests.{eqb-true, eq-eqb}
use Rattle.model.specs.Script.{Step}
use Rattle.model.specs.Step.{Letter, leaf_letter, named, admits}
use Rattle.model.specs.Paths.{Place, Path, start, ◌▸◌, place_of}
use Rattle.model.specs.Meeting.{admits_element, admits_leaf, is_named, share_element, share_leaf, is_deep, Cell}
use Rattle.model.specs.Meeting.{is_parent, on_step, down_step, start_cells, step_cells, cell, meets}
use Rattle.model.proofs.BoolLaws.{and_left, and_right, and_both, or_left, or_right, true_false}
use Rattle.model.proofs.MirrorLaws.{cell_mirror}
use Rattle.model.proofs.TestLaws.{parent_on, parent_down, parent_up}
use Rattle.model.proofs.Words.{Word, Grown, same, more, grown_compare, are_elements, is_proper, elements_grown}
use Rattle.model.proofs.Spells.{Spells, spelled, child, deep}

-- TESTS: what follows when a step's test lets a letter through
test_element : (any element leaf name : Bool) → (leaf ≡ true → (any || element) ≡ true → ⊥) →
    (any || element || (not leaf && name)) ≡ true → not leaf ≡ true
test_element a b false d h e = refl
test_element true b true d h e = absurd (h refl refl)
test_element false true true d h e = absurd (h refl refl)
test_element false false true d h e = e

test_name : (any element leaf name : Bool) → (any || element || (not leaf && name)) ≡ true → (not any && not element && not leaf) ≡ true →
    name ≡ true
test_name true b c d e f = absurd (false≢true f)
test_name false true c d e f = absurd (false≢true f)
test_name false false true d e f = absurd (false≢true f)
test_name false false false d e f = e

admits_element_lem : (s : Step) (n : ℕ) → admits s (named n) ≡ true → admits_element s ≡ true
admits_element_lem s n e = test_element (eqb s.test 0) (eqb s.test 1) (eqb s.test 2) (eqb n s.name) low e
  where
    low : eqb s.test 2 ≡ true → (eqb s.test 0 || eqb s.test 1) ≡ true → ⊥
    low f g = false≢true (subst (λ k. (eqb k 0 || eqb k 1) ≡ true) (eqb-true s.test 2 f) g)

admits_name : (s : Step) (n : ℕ) → admits s (named n) ≡ true → is_named s ≡ true → n ≡ s.name
admits_name s n e f =
    eqb-true n s.name (test_name (eqb s.test 0) (eqb s.test 1) (eqb s.test 2) (eqb n s.name) e f)

share_element_lem : (s t : Step) (n : ℕ) → admits s (named n) ≡ true → admits t (named n) ≡ true → share_element s t ≡ true
share_element_lem s t n e f =
    and_both (admits_element s && admits_element t) (not (is_named s && is_named t) || eqb s.name t.name)
    (and_both (admits_element s) (admits_element t) (admits_element_lem s n e) (admits_element_lem t n f))
    (go (is_named s && is_named t) refl)
  where
    go : (z : Bool) → (is_named s && is_named t) ≡ z → (not z || eqb s.name t.name) ≡ true
    go false g = refl
    go true g =
        eq-eqb s.name t.name
        (sym (admits_name s n e (and_left (is_named s) (is_named t) g)) ∙ admits_name t n f (and_right (is_named s) (is_named t) g))

last_admits : {p : Path} {s : Step} {a : Letter} {w : Word} → Spells (p ▸ s) (a ∷ w) → admits s a ≡ true
last_admits (child f x z) = z
last_admits (deep f y x z) = z

-- SOUND: what words of elements on p and on q, from the same place, make of the cell of p and q: a word on both; one on p at or below one
-- on q; and the other way round, of the cell of q and p
abbrev OnBoth : Path → Path → Type 0
OnBoth p q = (w : Word) → Spells p w → Spells q w → are_elements w ≡ true → (cell p q).on_element ≡ true

abbrev OnBelow : Path → Path → Type 0
OnBelow p q = (w u : Word) → Spells p w → Spells q u → Grown u w → are_elements w ≡ true → (cell p q).down_element ≡ true

record Sound (p q : Path) : Type 0 where
  pub on : OnBoth p q
  pub down : OnBelow p q
  pub up : OnBelow q p

turned : {p q : Path} → Sound p q → Sound q p
turned {p} {q} k =
    record {
      on = λ w f g e. ap (λ (c : Cell). c.on_element) (cell_mirror p q) ∙ k.on w g f e;
      down = k.up;
      up = k.down;
    }

up_element : {p q : Path} → Sound p q → (w u : Word) → Spells q w → Spells p u → Grown u w → are_elements w ≡ true →
    (cell p q).up_element ≡ true
up_element {p} {q} k w u f g h e = sym (ap (λ (c : Cell). c.down_element) (cell_mirror p q)) ∙ k.up w u f g h e

-- STRICTLY BELOW: the parent of a node on p ▸ s below a node on q
below_parent : {p q : Path} {s : Step} {a : Letter} {w u : Word} → Sound p q → Spells (p ▸ s) (a ∷ w) → Spells q u → Grown u w →
    are_elements w ≡ true → ((cell p q).down_element || (is_deep s && (cell p q).up_element)) ≡ true
below_parent k (child f x z) g h e = or_left _ _ (k.down _ _ f g h e)
below_parent {p} {q} {s} {u} k (deep {u = v} f y x z) g h e = elim (grown_compare h y) [
  | inl b ↦ or_left _ _ (k.down v u f g b (elements_grown y e))
  | inr b ↦ or_right (cell p q).down_element _ (and_both (is_deep s) _ (eq-eqb s.axis 1 x) (up_element k u v g f b (elements_grown h e)))
]

-- ON BOTH: the parent of a node on p ▸ s and on q ▸ t
both_parent : {p q : Path} {s t : Step} {a : Letter} {w : Word} → Sound p q → Spells (p ▸ s) (a ∷ w) → Spells (q ▸ t) (a ∷ w) →
    are_elements w ≡ true → is_parent s t (cell p q) ≡ true
both_parent {p} {q} {s} {t} {a} {w} k i j e = go i j
  where
    by_down : t.axis ≡ 1 → (cell p q).down_element ≡ true → is_parent s t (cell p q) ≡ true
    by_down x h = parent_down s t (cell p q) (eq-eqb t.axis 1 x) h

    by_up : s.axis ≡ 1 → (cell p q).up_element ≡ true → is_parent s t (cell p q) ≡ true
    by_up x h = parent_up s t (cell p q) (eq-eqb s.axis 1 x) h

    go : Spells (p ▸ s) (a ∷ w) → Spells (q ▸ t) (a ∷ w) → is_parent s t (cell p q) ≡ true
    go (child f x z) (child g x' z') = parent_on s t (cell p q) (k.on _ f g e)
    go (child f x z) (deep g y' x' z') = by_down x' (k.down _ _ f g y' e)
    go (deep f y x z) (child g x' z') = by_up x (up_element k _ _ g f y e)
    go (deep {u = u} f y x z) (deep {u = v} g y' x' z') = elim (grown_compare y y') [
      | inl b ↦ by_up x (up_element k v u g f b (elements_grown y' e))
      | inr b ↦ by_down x' (k.down u v f g b (elements_grown y e))
    ]

-- THE CELLS, as they are computed
step_word : {p : Path} {s : Step} → Spells (p ▸ s) [] → ⊥
step_word h = elim h [ ]

start_below : (p q : Place) → p ≡ q → OnBelow (start p) (start q)
unfolding cell start_cells
start_below p q z w u f g h e = and_both _ _ (eq-eqb _ _ (ap (λ r. r.owner) z)) (eq-eqb _ _ (ap (λ r. r.number) z))

start_start : (p q : Place) → p ≡ q → Sound (start p) (start q)
unfolding cell start_cells
start_start p q z =
    record { on = λ w f g e. start_below p q z w w f g same e; down = start_below p q z; up = start_below q p (sym z) }

-- a word on p ▸ s at or below one on q: the same word, or a step below
step_below : (p : Path) (s : Step) (q : Path) → Sound p q →
    ((w : Word) → Spells (p ▸ s) w → Spells q w → are_elements w ≡ true → (cell (p ▸ s) q).down_element ≡ true) →
    ((down_step s (cell p q)).down_element ≡ true → (cell (p ▸ s) q).down_element ≡ true) → OnBelow (p ▸ s) q
unfolding are_elements
step_below p s q k met stepped w u f g same e = met w f g e
step_below p s q k met stepped (leaf_letter ∷ w) u f g (more h) e = absurd (false≢true e)
step_below p s q k met stepped (named n ∷ w) u f g (more h) e =
    stepped (and_both (admits_element s) _ (admits_element_lem s n (last_admits f)) (below_parent k f g h e))

step_start : (p : Path) (s : Step) (q : Place) → Sound p (start q) → Sound (p ▸ s) (start q)
unfolding cell step_cells
step_start p s q k =
    record {
      on = λ w f g e. nowhere w f g;
      down = step_below p s (start q) k (λ w f g e. nowhere w f g) (λ x. x);
      up = up;
    }
  where
    nowhere : {A : Type 0} (w : Word) → Spells (p ▸ s) w → Spells (start q) w → A
    nowhere w f spelled = absurd (step_word f)

    up : OnBelow (start q) (p ▸ s)
    up w u spelled g same e = absurd (step_word g)

-- on both, below the one: two parts of the join; below the other is the same turned
module _ (p : Path) (s : Step) (q : Path) (t : Step) (k : Sound p q) where
  met : (w : Word) → Spells (p ▸ s) w → Spells (q ▸ t) w → are_elements w ≡ true → (on_step s t (cell p q)).on_element ≡ true
  unfolding are_elements
  met [] f g z = absurd (step_word f)
  met (leaf_letter ∷ w) f g z = absurd (false≢true z)
  met (named n ∷ w) f g z =
      and_both (is_parent s t (cell p q)) _ (both_parent k f g z) (share_element_lem s t n (last_admits f) (last_admits g))

  both_on : OnBoth (p ▸ s) (q ▸ t)
  unfolding cell step_cells
  both_on w f g z = or_left _ false (met w f g z)

  both_below : Sound p (q ▸ t) → OnBelow (p ▸ s) (q ▸ t)
  unfolding cell step_cells
  both_below l =
      step_below p s (q ▸ t) l (λ w f g z. or_left _ _ (met w f g z))
      (λ x. or_right (on_step s t (cell p q)).down_element _ (or_left _ false x))

step_step : (p : Path) (s : Step) (q : Path) (t : Step) → Sound p q → Sound p (q ▸ t) → Sound (p ▸ s) q → Sound (p ▸ s) (q ▸ t)
step_step p s q t k l n =
    record { on = both_on p s q t k; down = both_below p s q t k l; up = both_below q t p s (turned k) (turned n) }

start_sound : (p : Place) (q : Path) → p ≡ place_of q → Sound (start p) q
unfolding place_of
start_sound p (start q) e = start_start p q e
start_sound p (q ▸ t) e = turned (step_start q t p (turned (start_sound p q e)))

step_sound : (p : Path) (s : Step) → ((q : Path) → place_of p ≡ place_of q → Sound p q) → (q : Path) → place_of p ≡ place_of q →
    Sound (p ▸ s) q
unfolding place_of
step_sound p s k (start q) e = step_start p s q (k (start q) e)
step_sound p s k (q ▸ t) e = step_step p s q t (k q e) (k (q ▸ t) e) (step_sound p s k q e)

cell_sound : (p q : Path) → place_of p ≡ place_of q → Sound p q
unfolding place_of
cell_sound (start p) q = start_sound p q
cell_sound (p ▸ s) q = step_sound p s (cell_sound p) q

-- A LEAF on both is a step below words of elements
leaf_on : (p q : Path) (w : Word) → place_of p ≡ place_of q → Spells p (leaf_letter ∷ w) → Spells q (leaf_letter ∷ w) →
    are_elements w ≡ true → (cell p q).on_leaf ≡ true
unfolding place_of cell step_cells
leaf_on (start p) q w e f g z = elim f [ ]
leaf_on (p ▸ s) (start q) w e f g z = elim g [ ]
leaf_on (p ▸ s) (q ▸ t) w e f g z =
    or_left _ false
    (and_both (is_parent s t (cell p q)) (share_leaf s t) (both_parent (cell_sound p q e) f g z)
    (and_both (admits_leaf s) (admits_leaf t) (last_admits f) (last_admits g)))

-- paths from one place that do not meet share no word
pub meets_apart : (p q : Path) (w : Word) → place_of p ≡ place_of q → meets p q ≡ false → is_proper w ≡ true → Spells p w → Spells q w → ⊥
unfolding are_elements
meets_apart p q [] s n e f g = true_false (meets p q) (or_left _ _ ((cell_sound p q s).on [] f g e)) n
meets_apart p q (leaf_letter ∷ w) s n e f g =
    true_false (meets p q) (or_right (cell p q).on_element _ (leaf_on p q w s f g e)) n
meets_apart p q (named a ∷ w) s n e f g = true_false (meets p q) (or_left _ _ ((cell_sound p q s).on (named a ∷ w) f g e)) n
