-- What two paths have in common, taken the other way round, is the same with up for down.
use mathlib.Core.Path.{◌≡◌, refl, ap, sym, ◌∙◌}
use mathlib.Core.Bool.{Bool, true, false, ◌&&◌, ◌||◌, not, or_comm, and_comm}
use Prim.Native.Nat.{ℕ}
use lib.Dec.{eqb}
use borrow.Author.Tests.{eqb-true}
use Rattle.model.specs.Script.{Step}
use Rattle.model.specs.Paths.{Place, Path, start, ◌▸◌}
use Rattle.model.specs.Meeting.{Cell, on_cell, join_cell, is_deep, is_parent, is_named, admits_element, admits_leaf}
use Rattle.model.specs.Meeting.{share_element, share_leaf}
use Rattle.model.specs.Meeting.{same_place, is_constructor, start_cell, on_step, down_step, up_step, start_cells, step_cells, cell}
use Rattle.model.proofs.BoolLaws.{eqb_iff, and_left}

-- cells are equal test by test
pub cell_equal : (c d : Cell) → c.on_element ≡ d.on_element → c.on_leaf ≡ d.on_leaf → c.down_element ≡ d.down_element →
    c.up_element ≡ d.up_element → c ≡ d
cell_equal x y a b c d = λ i. record { on_element = a i; on_leaf = b i; down_element = c i; up_element = d i }

-- up for down
abbrev pub mirror : Cell → Cell
mirror c = record { on_element = c.on_element; on_leaf = c.on_leaf; down_element = c.up_element; up_element = c.down_element }

-- TESTS the other way round
or_last : (a b c : Bool) → (a || b || c) ≡ (a || c || b)
or_last true b c = refl
or_last false b c = or_comm b c

eqb_comm : (m n : ℕ) → eqb m n ≡ eqb n m
eqb_comm m n = eqb_iff m n n m (λ e. sym e) (λ e. sym e)

join_comm : (c d : Cell) → join_cell c d ≡ join_cell d c
join_comm c d =
    cell_equal (join_cell c d) (join_cell d c) (or_comm c.on_element d.on_element) (or_comm c.on_leaf d.on_leaf)
    (or_comm c.down_element d.down_element) (or_comm c.up_element d.up_element)

-- PLACES
same_place_comm : (p q : Place) → same_place p q ≡ same_place q p
same_place_comm p q =
    ap (λ (t : Bool). t && eqb p.number q.number) (eqb_comm p.owner q.owner) ∙
    ap (λ (t : Bool). eqb q.owner p.owner && t) (eqb_comm p.number q.number)

start_mirror : (p q : Place) → start_cell q p ≡ start_cell p q
start_mirror p q =
    ap (λ (t : Bool). on_cell t (t && is_constructor q)) (same_place_comm q p) ∙
    ap (on_cell (same_place p q)) (same_kind (same_place p q) refl)
  where
    same_kind : (t : Bool) → same_place p q ≡ t → (t && is_constructor q) ≡ (t && is_constructor p)
    same_kind true e = ap (λ (o : ℕ). not (eqb o 0)) (sym (eqb-true p.owner q.owner (and_left _ (eqb p.number q.number) e)))
    same_kind false e = refl

-- STEPS
share_mirror : (s t : Step) → share_element s t ≡ share_element t s
share_mirror s t =
    ap (λ (x : Bool). x && (not (is_named s && is_named t) || eqb s.name t.name)) (and_comm (admits_element s) (admits_element t)) ∙
    ap (λ (x : Bool). admits_element t && admits_element s && (not x || eqb s.name t.name)) (and_comm (is_named s) (is_named t)) ∙
    ap (λ (x : Bool). admits_element t && admits_element s && (not (is_named t && is_named s) || x)) (eqb_comm s.name t.name)

on_mirror : (s t : Step) (c : Cell) → on_step t s (mirror c) ≡ mirror (on_step s t c)
on_mirror s t c =
    ap (λ (x : Bool). on_cell (x && share_element t s) (x && share_leaf t s))
    (or_last c.on_element (is_deep s && c.up_element) (is_deep t && c.down_element)) ∙
    ap (λ (x : Bool). on_cell (is_parent s t c && x) (is_parent s t c && share_leaf t s)) (share_mirror t s) ∙
    ap (λ (x : Bool). on_cell (is_parent s t c && share_element s t) (is_parent s t c && x)) (and_comm (admits_leaf t) (admits_leaf s))

start_cells_lem : (p : Place) (q : Path) → cell q (start p) ≡ mirror (cell (start p) q)
unfolding cell start_cells step_cells
start_cells_lem p (start q) = start_mirror p q
start_cells_lem p (q ▸ t) = ap (down_step t) (start_cells_lem p q)

step_cells_lem : (s : Step) (p : Path) → ((q : Path) → cell q p ≡ mirror (cell p q)) → (q : Path) →
    cell q (p ▸ s) ≡ mirror (cell (p ▸ s) q)
unfolding cell start_cells step_cells
step_cells_lem s p h (start q) = ap (up_step s) (h (start q))
step_cells_lem s p h (q ▸ t) =
    ap (λ (c : Cell). join_cell (on_step t s c) (join_cell (down_step t (cell q (p ▸ s))) (up_step s (cell (q ▸ t) p)))) (h q) ∙
    ap (λ (c : Cell). join_cell c (join_cell (down_step t (cell q (p ▸ s))) (up_step s (cell (q ▸ t) p)))) (on_mirror s t (cell p q)) ∙
    ap (λ (c : Cell). join_cell (mirror (on_step s t (cell p q))) (join_cell (down_step t c) (up_step s (cell (q ▸ t) p))))
    (step_cells_lem s p h q) ∙
    ap (λ (c : Cell). join_cell (mirror (on_step s t (cell p q))) (join_cell (mirror (up_step t (cell (p ▸ s) q))) (up_step s c)))
    (h (q ▸ t)) ∙
    ap (join_cell (mirror (on_step s t (cell p q))))
    (join_comm (mirror (up_step t (cell (p ▸ s) q))) (mirror (down_step s (cell p (q ▸ t)))))

pub cell_mirror : (p q : Path) → cell q p ≡ mirror (cell p q)
cell_mirror (start p) q = start_cells_lem p q
cell_mirror (p ▸ s) q = step_cells_lem s p (cell_mirror p) q
