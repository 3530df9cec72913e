-- Paths that start at a document; those that start at a constructor's place meet no path of the other script.
use mathlib.Core.Path.{◌≡◌, refl, ap, sym, ◌∙◌}
use mathlib.Core.Bool.{Bool, false, ◌&&◌}
use mathlib.Core.List.{List, ◌++◌}
use lib.Dec.{eqb}
use Rattle.model.specs.Base.{filtered}
use Rattle.model.specs.Script.{Step}
use Rattle.model.specs.Paths.{place_of, Place, Path, start, ◌▸◌, with_step}
use Rattle.model.specs.Meeting.{Cell, on_cell, join_cell, same_place, is_constructor, on_step, down_step, up_step, start_cells}
use Rattle.model.specs.Meeting.{step_cells, cell}
use Rattle.model.specs.Meeting.{is_met, meets, no_cell}
use Rattle.model.proofs.ListLaws.{filtered_append, filtered_map}
use Rattle.model.proofs.CellLaws.{on_respects, down_respects, up_respects}

abbrev pub is_document : Path → Bool
is_document p = eqb (place_of p).owner 0

-- those of a list that start at a document
abbrev pub from_documents : List Path → List Path
from_documents ps = filtered is_document ps

pub from_documents_append : (ps qs : List Path) → from_documents (ps ++ qs) ≡ from_documents ps ++ from_documents qs
from_documents_append ps qs = filtered_append is_document ps qs

pub from_documents_step : (s : Step) (ps : List Path) → from_documents (with_step s ps) ≡ with_step s (from_documents ps)
unfolding place_of
from_documents_step s ps = sym (filtered_map (λ (p : Path). p ▸ s) is_document is_document ps (λ p i. refl))

-- APART: paths from different places have nothing in common
start_apart : (p : Place) (q : Path) → same_place p (place_of q) ≡ false → cell (start p) q ≡ no_cell
unfolding cell start_cells place_of
start_apart p (start q) e = ap (λ (t : Bool). on_cell t (t && is_constructor p)) e
start_apart p (q ▸ t) e = ap (up_step t) (start_apart p q e) ∙ (up_respects t).none

step_apart : (s : Step) (p q : Path) → ((r : Path) → place_of r ≡ place_of q → cell p r ≡ no_cell) → cell (p ▸ s) q ≡ no_cell
unfolding cell step_cells place_of
step_apart s p (start q) h = ap (down_step s) (h (start q) refl) ∙ (down_respects s).none
step_apart s p (q ▸ t) h =
    ap (λ (c : Cell). join_cell (on_step s t c) (join_cell (down_step s (cell p (q ▸ t))) (up_step t (cell (p ▸ s) q)))) (h q refl) ∙
    ap (λ (c : Cell). join_cell c (join_cell (down_step s (cell p (q ▸ t))) (up_step t (cell (p ▸ s) q)))) (on_respects s t).none ∙
    ap (λ (c : Cell). join_cell (down_step s c) (up_step t (cell (p ▸ s) q))) (h (q ▸ t) refl) ∙
    ap (λ (c : Cell). join_cell c (up_step t (cell (p ▸ s) q))) (down_respects s).none ∙
    ap (up_step t) (step_apart s p q h) ∙ (up_respects t).none

cell_apart : (p q : Path) → same_place (place_of p) (place_of q) ≡ false → cell p q ≡ no_cell
unfolding place_of
cell_apart (start p) q e = start_apart p q e
cell_apart (p ▸ s) q e = step_apart s p q (λ r f. cell_apart p r (ap (same_place (place_of p)) f ∙ e))

pub owners_apart : (p q : Path) → eqb (place_of p).owner (place_of q).owner ≡ false → meets p q ≡ false
owners_apart p q e = ap is_met (cell_apart p q (ap (λ (t : Bool). t && eqb (place_of p).number (place_of q).number) e))
