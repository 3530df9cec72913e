-- Cells are complete: where the cell of two paths says that they meet, they start at one place and some word is spelled by both; from a
-- document it leads to a row.
use mathlib.Core.Path.{◌≡◌, sym, ap, ◌∙◌}
use mathlib.Core.Bool.{Bool, true, false, ◌&&◌, ◌||◌, not, false≢true, or-false}
use mathlib.Core.Logic.{inl, inr}
use mathlib.Core.List.{[], ◌∷◌}
use Prim.Native.Nat.{ℕ}
use lib.Dec.{eqb}
use borrow.Author.Tests.{eqb-true}
use Rattle.model.specs.Script.{Step}
use Rattle.model.specs.Paths.{Place, Path, start, ◌▸◌, place_of}
use Rattle.model.specs.Meeting.{admits_element, share_element, share_leaf, is_deep, Cell, same_place, is_constructor}
use Rattle.model.specs.Meeting.{is_parent, on_step, down_step, up_step, join_cell, start_cells, step_cells, cell, meets}
use Rattle.model.proofs.BoolLaws.{or_cases, true_false}
use Rattle.model.proofs.TestLaws.{and_parts, parent_cases}
use Rattle.model.proofs.Words.{Word, Grown, same, more}
use Rattle.model.proofs.PathLaws.{StepFits, PathFits, starts, steps}
use Rattle.model.proofs.Spells.{Spells, spelled, deep, spells_child, Elements, root, WordTo, to_element, word_to_elements}
use Rattle.model.proofs.Spells.{LetterForBoth, leaf_for_both, element_for_both, element_for}

-- a word of kind z that both paths spell; and a word of elements that p spells, at or below a word that q spells
pub record Meets (z : Bool) (p q : Path) : Type 0 where
  pub word : Word
  pub one : Spells p word
  pub two : Spells q word
  pub leads : (place_of p).owner ≡ 0 → WordTo z word
  pub together : place_of p ≡ place_of q

record Lies (p q : Path) : Type 0 where
  word : Word
  upper : Word
  low : Spells p word
  high : Spells q upper
  grown : Grown upper word
  leads : (place_of p).owner ≡ 0 → Elements word
  together : place_of p ≡ place_of q

meets_lies : {p q : Path} → Meets false p q → Lies p q
meets_lies m = record {
  word = m.word;
  upper = m.word;
  low = m.one;
  high = m.two;
  grown = same;
  leads = λ k. word_to_elements (m.leads k);
  together = m.together;
}

meets_turned : {z : Bool} {p q : Path} → Meets z p q → Meets z q p
meets_turned m = record {
  word = m.word;
  one = m.two;
  two = m.one;
  leads = λ k. m.leads (ap (λ (p : Place). p.owner) m.together ∙ k);
  together = sym m.together;
}

-- A STEP MORE: one letter below, or down past the other's word
lies_below : {p q : Path} {s : Step} → StepFits s → LetterForBoth false s s → Lies p q → Lies (p ▸ s) q
unfolding place_of
lies_below f a l =
    record {
      word = a.letter ∷ l.word;
      upper = l.upper;
      low = spells_child l.low f a.passes;
      high = l.high;
      grown = more l.grown;
      leads = λ k. word_to_elements (a.ends l.word (l.leads k));
      together = l.together;
    }

lies_past : {p q : Path} {s : Step} → is_deep s ≡ true → LetterForBoth false s s → Lies q p → Lies (p ▸ s) q
unfolding place_of
lies_past {s} d a l =
    record {
      word = a.letter ∷ l.word;
      upper = l.word;
      low = deep l.high l.grown (eqb-true s.axis 1 d) a.passes;
      high = l.low;
      grown = more same;
      leads = λ k. word_to_elements (a.ends l.word (l.leads (ap (λ (p : Place). p.owner) l.together ∙ k)));
      together = sym l.together;
    }

-- both step to a letter below a word that one spells, at or below one that the other does
meets_below : {z : Bool} {p q : Path} {s t : Step} → StepFits s → StepFits t → LetterForBoth z s t → Meets false p q →
    Meets z (p ▸ s) (q ▸ t)
unfolding place_of
meets_below f g a m =
    record {
      word = a.letter ∷ m.word;
      one = spells_child m.one f a.passes;
      two = spells_child m.two g a.passes_too;
      leads = λ k. a.ends m.word (word_to_elements (m.leads k));
      together = m.together;
    }

meets_past : {z : Bool} {p q : Path} {s t : Step} → StepFits s → is_deep t ≡ true → LetterForBoth z s t → Lies p q →
    Meets z (p ▸ s) (q ▸ t)
unfolding place_of
meets_past {t} f d a l =
    record {
      word = a.letter ∷ l.word;
      one = spells_child l.low f a.passes;
      two = deep l.high l.grown (eqb-true t.axis 1 d) a.passes_too;
      leads = λ k. a.ends l.word (l.leads k);
      together = l.together;
    }

letter_turned : {z : Bool} {s t : Step} → LetterForBoth z s t → LetterForBoth z t s
letter_turned a = record { letter = a.letter; ends = a.ends; passes = a.passes_too; passes_too = a.passes }

-- CELLS: what each test says of elements
record Found (p q : Path) (c : Cell) : Type 0 where
  on : c.on_element ≡ true → Meets false p q
  down : c.down_element ≡ true → Lies p q
  up : c.up_element ≡ true → Lies q p

-- down from p ▸ s to q, and by the mirror image up
lies_step : {p q : Path} {s : Step} {c d : Bool} → StepFits s → (c ≡ true → Lies p q) → (d ≡ true → Lies q p) →
    (admits_element s && (c || (is_deep s && d))) ≡ true → Lies (p ▸ s) q
lies_step {s} {c} {d} f h k e =
    let a = and_parts (admits_element s) (c || (is_deep s && d)) e in
    let n = element_for s f a.0 in
    elim (or_cases c (is_deep s && d) a.1) [
      | inl i ↦ lies_below f n (h i)
      | inr i ↦ let b = and_parts (is_deep s) d i in lies_past b.0 n (k b.1)
    ]

-- an element or a leaf on both, below a parent
meets_step : {z : Bool} {p q : Path} {s t : Step} {c : Cell} → StepFits s → StepFits t → Found p q c → is_parent s t c ≡ true →
    LetterForBoth z s t → Meets z (p ▸ s) (q ▸ t)
meets_step {s} {t} {c} f g h e a =
    parent_cases s t c e (λ i. meets_below f g a (h.on i)) (λ d i. meets_past f d a (h.down i))
    (λ d i. meets_turned (meets_past g d (letter_turned a) (h.up i)))

-- the three parts of the join
join_found : {p q : Path} {s t : Step} {c d v : Cell} → StepFits s → StepFits t → Found p q c → Found p (q ▸ t) d → Found (p ▸ s) q v →
    Found (p ▸ s) (q ▸ t) (join_cell (on_step s t c) (join_cell (down_step s d) (up_step t v)))
join_found {p} {q} {s} {t} {c} {d} {v} f g h i j = record { on = λ e. met (sym (or-false both) ∙ e); down = down; up = up }
  where
    both : Bool
    both = (on_step s t c).on_element

    met : both ≡ true → Meets false (p ▸ s) (q ▸ t)
    met e =
        let k = and_parts (is_parent s t c) (share_element s t) e in
        meets_step f g h k.0 (element_for_both s t f g k.1)

    down : (both || ((down_step s d).down_element || false)) ≡ true → Lies (p ▸ s) (q ▸ t)
    down e = elim (or_cases both _ e) [
      | inl k ↦ meets_lies (met k)
      | inr k ↦ lies_step f i.down i.up (sym (or-false _) ∙ k)
    ]

    up : (both || (up_step t v).up_element) ≡ true → Lies (q ▸ t) (p ▸ s)
    up e = elim (or_cases both _ e) [
      | inl k ↦ meets_lies (meets_turned (met k))
      | inr k ↦ lies_step g j.up j.down k
    ]

-- two places are the same
place_eq : (p q : Place) → same_place p q ≡ true → p ≡ q
place_eq p q e =
    let k = and_parts (eqb p.owner q.owner) _ e in
    let a : p.owner ≡ q.owner = eqb-true _ _ k.0 in
    let b : p.number ≡ q.number = eqb-true _ _ k.1 in
    λ i. record { owner = a i; number = b i }

meets_start : (p q : Place) → same_place p q ≡ true → Meets false (start p) (start q)
unfolding place_of
meets_start p q e =
    record { word = []; one = spelled; two = spelled; leads = λ o. to_element root; together = place_eq p q e }

module _ {o : ℕ} where
  start_found : (p : Place) (q : Path) → PathFits o q → Found (start p) q (start_cells p q)
  unfolding start_cells
  start_found p q (starts {p = d} h) = record {
    on = meets_start p d;
    down = λ e. meets_lies (meets_start p d e);
    up = λ e. meets_lies (meets_turned (meets_start p d e));
  }
  start_found p q (steps {p = d} h f) =
      let r = start_found p d h in
      record { on = λ e. absurd (false≢true e); down = λ e. absurd (false≢true e); up = lies_step f r.up r.down }

  step_found : (p : Path) (s : Step) (c : Path → Cell) → StepFits s → ((q : Path) → PathFits o q → Found p q (c q)) →
      (q : Path) → PathFits o q → Found (p ▸ s) q (step_cells s c q)
  unfolding step_cells
  step_found p s c f k q (starts {p = d} h) =
      let r = k (start d) (starts h) in
      record { on = λ e. absurd (false≢true e); down = lies_step f r.down r.up; up = λ e. absurd (false≢true e) }
  step_found p s c f k q (steps {p = d} {s = t} h g) =
      join_found f g (k d h) (k (d ▸ t) (steps h g)) (step_found p s c f k d h)

  cell_found : {n : ℕ} {p : Path} → PathFits n p → (q : Path) → PathFits o q → Found p q (cell p q)
  unfolding cell
  cell_found (starts {p} h) = start_found p
  cell_found (steps {p} {s} h f) = step_found p s (cell p) f (cell_found h)

-- A LEAF on both: at a constructor's place, since a document's holds none, or a step below words of elements
leaf_found : {n o : ℕ} {p q : Path} → PathFits n p → PathFits o q → (cell p q).on_leaf ≡ true → Meets true p q
unfolding place_of cell start_cells step_cells
leaf_found (starts {p} h) (starts {p = q} i) e =
    let k = and_parts (same_place p q) (is_constructor p) e in
    record {
      word = [];
      one = spelled;
      two = spelled;
      leads = λ o. absurd (true_false _ k.1 (ap (λ (n : ℕ). not (eqb n 0)) o));
      together = place_eq p q k.0;
    }
leaf_found (starts h) (steps i g) e = absurd (false≢true e)
leaf_found (steps h f) (starts i) e = absurd (false≢true e)
leaf_found (steps {p} {s} h f) (steps {p = q} {s = t} i g) e =
    let k = and_parts (is_parent s t (cell p q)) (share_leaf s t) (sym (or-false _) ∙ e) in
    meets_step f g (cell_found h q i) k.0 (leaf_for_both s t k.1)

pub meets_found : {n o : ℕ} {p q : Path} → PathFits n p → PathFits o q → meets p q ≡ true → (z : Bool) × Meets z p q
meets_found {n} {o} {p} {q} f g e = elim (or_cases (cell p q).on_element (cell p q).on_leaf e) [
  | inl k ↦ (false, (cell_found f q g).on k)
  | inr k ↦ (true, leaf_found f g k)
]
