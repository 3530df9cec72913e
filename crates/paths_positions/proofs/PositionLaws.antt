-- A position's paths are those that its operands' paths give, and its cell with another is what the cells of lower pairs give.
use mathlib.Core.Path.{◌≡◌, refl, ap, sym, ◌∙◌}
use mathlib.Core.Bool.{false}
use mathlib.Core.List.{List, [], ◌∷◌, ◌++◌}
use Prim.Native.Nat.{ℕ, suc, ◌+◌, ◌<◌}
use native.Mathlib.Omega.{arith}
use lib.Dec.{eqb}
use lib.ListN.{length, get_or, take, drop, length-append, get_or-append}
use lib.Seq.{split_at, length-take-le, get_or_at}
use Rattle.model.specs.Script.{Step}
use Rattle.model.specs.Paths.{Path, document_place, with_step}
use Rattle.model.specs.Meeting.{on_cell, join_cell, on_step, down_step, up_step, no_cell, sum, between}
use Rattle.paths_positions.specs.Positions.{Position, nowhere, root, over, union, Entry, plain, entry_at, IsLower, AreLower}
use Rattle.paths_positions.specs.Positions.{paths_at, paths_from, paths_by, paths_on}
use Rattle.paths_positions.specs.Answer.{cell_at}
use Rattle.model.proofs.CellLaws.{roots_are, between_none, between_first, between_second, between_starts, between_up, between_down}
use Rattle.model.proofs.CellLaws.{between_steps}

-- PATHS of more positions
paths_from_append : (ps : List (List Path)) (es fs : List Entry) → paths_from ps (es ++ fs) ≡ paths_from (paths_from ps es) fs
unfolding paths_from
paths_from_append ps [] fs = refl
paths_from_append ps (x ∷ es) fs = paths_from_append (ps ++ (paths_at ps x.position ∷ [])) es fs

length_snoc : {A : Type 0} (l : List A) (a : A) → length (l ++ (a ∷ [])) ≡ suc (length l)
length_snoc l a = length-append l (a ∷ []) ∙ omega arith

paths_from_length : (ps : List (List Path)) (es : List Entry) → length (paths_from ps es) ≡ length ps + length es
unfolding paths_from
paths_from_length ps [] = omega arith
paths_from_length ps (x ∷ es) =
    paths_from_length (ps ++ (paths_at ps x.position ∷ [])) es ∙ omega (arith, length_snoc ps (paths_at ps x.position))

paths_from_keeps : (ps : List (List Path)) (es : List Entry) (k : ℕ) → k < length ps → get_or (paths_from ps es) k [] ≡ get_or ps k []
unfolding paths_from
paths_from_keeps ps [] k h = refl
paths_from_keeps ps (x ∷ es) k h =
    paths_from_keeps (ps ++ (paths_at ps x.position ∷ [])) es k (omega (arith, length_snoc ps (paths_at ps x.position))) ∙
    get_or-append ps (paths_at ps x.position ∷ []) [] k h

paths_by_length : (es : List Entry) → length (paths_by es) ≡ length es
paths_by_length es = paths_from_length [] es ∙ omega arith

pub paths_on_keeps : (es fs : List Entry) (k : ℕ) → k < length es → paths_on (es ++ fs) k ≡ paths_on es k
paths_on_keeps es fs k h =
    ap (λ (l : List (List Path)). get_or l k []) (paths_from_append [] es fs) ∙
    paths_from_keeps (paths_by es) fs k (omega (arith, paths_by_length es))

pub paths_on_next : (es : List Entry) (x : Entry) (fs : List Entry) (k : ℕ) → length es ≡ k →
    paths_on (es ++ x ∷ fs) k ≡ paths_at (paths_by es) x.position
unfolding paths_from
paths_on_next es x fs k h =
    let n : length (paths_by es) ≡ k = paths_by_length es ∙ h in
    ap (λ (l : List (List Path)). get_or l k []) (paths_from_append [] es (x ∷ fs)) ∙
    paths_from_keeps (paths_by es ++ (paths_at (paths_by es) x.position ∷ [])) fs k
    (omega (arith, length_snoc (paths_by es) (paths_at (paths_by es) x.position))) ∙
    get_or_at (paths_by es) (paths_at (paths_by es) x.position) [] [] k n

-- a position's paths depend on those below it only
paths_at_same : (p : Position) (k : ℕ) (ps qs : List (List Path)) → IsLower k p → ((i : ℕ) → i < k → get_or ps i [] ≡ get_or qs i []) →
    paths_at ps p ≡ paths_at qs p
paths_at_same nowhere k ps qs l h = refl
paths_at_same (root d) k ps qs l h = refl
paths_at_same (over s i) k ps qs l h = ap (with_step s) (h i l)
paths_at_same (union i j) k ps qs l h =
    ap (λ (v : List Path). v ++ get_or ps j []) (h i l.0) ∙ ap (λ (v : List Path). get_or qs i [] ++ v) (h j l.1)

pub paths_on_split : (es : List Entry) (k : ℕ) → k < length es → paths_on es k ≡ paths_at (paths_by (take k es)) (entry_at es k).position
paths_on_split es k h =
    ap (λ (l : List Entry). paths_on l k) (split_at es k (plain nowhere) h) ∙
    paths_on_next (take k es) (entry_at es k) (drop (suc k) es) k (length-take-le k es (omega arith))

paths_on_at : (es : List Entry) → AreLower es → (k : ℕ) → k < length es → paths_on es k ≡ paths_at (paths_by es) (entry_at es k).position
paths_on_at es lower k h =
    paths_on_split es k h ∙
    paths_at_same (entry_at es k).position k (paths_by (take k es)) (paths_by es) (lower k h)
    (λ i l. sym (ap (λ (v : List Entry). paths_on v i) split ∙ paths_on_keeps (take k es) (entry_at es k ∷ drop (suc k) es) i
    (omega (arith, len))))
  where
    split : es ≡ take k es ++ entry_at es k ∷ drop (suc k) es
    split = split_at es k (plain nowhere) h

    len : length (take k es) ≡ k
    len = length-take-le k es (omega arith)

-- THE CELL of two positions, from those of lower pairs
module _ (es fs : List Entry) (lower : AreLower es) (lower₂ : AreLower fs) (k l : ℕ) (low : k < length es) (low₂ : l < length fs) where
  first_paths : {p : Position} → (entry_at es k).position ≡ p → paths_on es k ≡ paths_at (paths_by es) p
  first_paths e = paths_on_at es lower k low ∙ ap (paths_at (paths_by es)) e

  second_paths : {q : Position} → (entry_at fs l).position ≡ q → paths_on fs l ≡ paths_at (paths_by fs) q
  second_paths e = paths_on_at fs lower₂ l low₂ ∙ ap (paths_at (paths_by fs)) e

  -- by the paths of both
  by_paths : {p q : Position} → (entry_at es k).position ≡ p → (entry_at fs l).position ≡ q →
      cell_at es fs k l ≡ between (paths_at (paths_by es) p) (paths_at (paths_by fs) q)
  by_paths {p} e f =
      ap (λ (v : List Path). between v (paths_on fs l)) (first_paths e) ∙ ap (between (paths_at (paths_by es) p)) (second_paths f)

  pub first_nowhere : (entry_at es k).position ≡ nowhere → cell_at es fs k l ≡ no_cell
  unfolding sum
  first_nowhere e = ap (λ (v : List Path). between v (paths_on fs l)) (first_paths e)

  pub second_nowhere : (entry_at fs l).position ≡ nowhere → cell_at es fs k l ≡ no_cell
  second_nowhere e = ap (between (paths_on es k)) (second_paths e) ∙ between_none (paths_on es k)

  pub first_union : {a b : ℕ} → (entry_at es k).position ≡ union a b →
      cell_at es fs k l ≡ join_cell (cell_at es fs a l) (cell_at es fs b l)
  first_union {a} {b} e =
      ap (λ (v : List Path). between v (paths_on fs l)) (first_paths e) ∙ between_first (paths_on es a) (paths_on es b) (paths_on fs l)

  pub second_union : {a b : ℕ} → (entry_at fs l).position ≡ union a b →
      cell_at es fs k l ≡ join_cell (cell_at es fs k a) (cell_at es fs k b)
  second_union {a} {b} e = ap (between (paths_on es k)) (second_paths e) ∙ between_second (paths_on es k) (paths_on fs a) (paths_on fs b)

  pub root_root : {d e : ℕ} → (entry_at es k).position ≡ root d → (entry_at fs l).position ≡ root e →
      cell_at es fs k l ≡ on_cell (eqb d e) false
  root_root {d} {e} f g = by_paths f g ∙ between_starts (document_place d) (document_place e) ∙ sym (roots_are d e)

  pub root_step : {d : ℕ} {u : Step} {j : ℕ} → (entry_at es k).position ≡ root d → (entry_at fs l).position ≡ over u j →
      cell_at es fs k l ≡ up_step u (cell_at es fs k j)
  root_step {d} {u} {j} f g =
      by_paths f g ∙ between_up (document_place d) u (paths_on fs j) ∙
      ap (λ (v : List Path). up_step u (between v (paths_on fs j))) (sym (first_paths f))

  pub step_root : {s : Step} {i e : ℕ} → (entry_at es k).position ≡ over s i → (entry_at fs l).position ≡ root e →
      cell_at es fs k l ≡ down_step s (cell_at es fs i l)
  step_root {s} {i} {e} f g =
      by_paths f g ∙ between_down s (paths_on es i) (document_place e) ∙
      ap (λ (v : List Path). down_step s (between (paths_on es i) v)) (sym (second_paths g))

  pub step_step : {s : Step} {i : ℕ} {u : Step} {j : ℕ} → (entry_at es k).position ≡ over s i → (entry_at fs l).position ≡ over u j →
      cell_at es fs k l ≡
      join_cell (on_step s u (cell_at es fs i j)) (join_cell (down_step s (cell_at es fs i l)) (up_step u (cell_at es fs k j)))
  step_step {s} {i} {u} {j} f g =
      by_paths f g ∙ between_steps s u (paths_on es i) (paths_on fs j) ∙
      ap (λ (v : List Path). join_cell (on_step s u (cell_at es fs i j)) (join_cell (down_step s (between (paths_on es i) v))
      (up_step u (between (with_step s (paths_on es i)) (paths_on fs j))))) (sym (second_paths g)) ∙
      ap (λ (v : List Path). join_cell (on_step s u (cell_at es fs i j)) (join_cell (down_step s (cell_at es fs i l))
      (up_step u (between v (paths_on fs j))))) (sym (first_paths f))
