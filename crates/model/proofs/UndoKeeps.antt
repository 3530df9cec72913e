-- Undo of any bytes that fit a well-formed table leaves a well-formed table.
use mathlib.Core.Path.{◌≡◌, refl, ap, sym, ◌∙◌, subst}
use mathlib.Core.Bool.{Bool, true, false, not, cond}
use mathlib.Core.List.{List, [], ◌∷◌}
use mathlib.Core.Option.{none, some}
use Prim.Native.Nat.{ℕ, ◌+◌, ◌-◌, ◌<◌}
use native.Mathlib.Omega.{arith}
use lib.Dec.{ltb, eqb}
use lib.ListN.{length, get_or, take}
use lib.Seq.{length-take-le, get_or-take}
use borrow.Author.Tests.{ltb-true, eqb-true, not-true}
use Rattle.model.specs.Refusal.{link_at}
use Rattle.model.specs.Table.{Row, Table, table, no_row, row_at, count, is_element, is_lower_element}
use Rattle.model.specs.Table.{is_marked, has_parent, linked, with_parent, tag_fits, is_well, ParentLower}
use Rattle.model.specs.History.{Record, made, cut}
use Rattle.model.specs.Undo.{Placed, Formed, refused, formed, form_from}
use Rattle.model.specs.Undo.{undo_fits, undone, refused, back, undo_all, backwards, undo_formed}
use Rattle.model.specs.Promise.{UndoKeeps}
use Rattle.model.proofs.BoolLaws.{true_false, and_left, and_right, eq_cases}
use Rattle.model.proofs.TestLaws.{and_four, and_five}
use Rattle.model.proofs.TableLaws.{Well, is_well_at, is_well_by, is_element_at, any_by, parent_count}
use Rattle.model.proofs.GrowLaws.{well_linked}

-- A LINK BACK: the row is there and unmarked, its old parent a lower element
back_linked : (x : Table) (i p : ℕ) → Well x → i < count x → is_marked x i ≡ false → is_lower_element x i p ≡ true →
    Well (linked x i (some p))
back_linked x i p w l m f = well_linked x i (some p) w.tree l parent unmarked w
  where
    parent : ParentLower x i (with_parent (row_at x i) (some p))
    parent r e =
        let k : p ≡ r = cc in
        subst (λ (a : ℕ). (a < i) × ((row_at x a).is_leaf ≡ false)) k
        (ltb-true p i (and_left (ltb p i) (is_element x p) f), (is_element_at x p (and_right (ltb p i) (is_element x p) f)).1)

    unmarked : (d : ℕ) → get_or x.marks d none ≡ some i → some p ≡ none
    unmarked d e = absurd (true_false (is_marked x i) (any_by i x.marks d e) m)

-- THE LAST ROW GONE: it is unmarked, and no row's parent
module _ (x : Table) (w : Well x) (i : ℕ) (last : i + 1 ≡ count x) (m : is_marked x i ≡ false) where
  abbrev less : Table
  less = table (take (count x - 1) x.rows) x.marks

  count_less : count less ≡ i
  count_less = length-take-le (count x - 1) x.rows (omega arith) ∙ omega arith

  row_less : (j : ℕ) → j < i → row_at less j ≡ row_at x j
  row_less j h = get_or-take (count x - 1) x.rows j no_row (omega arith)

  parent_less : (j : ℕ) → ParentLower less j (row_at less j)
  parent_less j p e =
      let h : j < i = omega (arith, parent_count less j p e, count_less) in
      let k = w.tree.parents j p (ap (λ (r : Row). r.parent) (sym (row_less j h)) ∙ e) in
      (k.0, ap (λ (r : Row). r.is_leaf) (row_less p (omega (arith, k.0))) ∙ k.1)

  root_below : (d j : ℕ) → get_or x.marks d none ≡ some j → j < i
  root_below d j e =
      eq_cases j i (λ q. absurd (true_false (is_marked x i) (any_by i x.marks d (e ∙ ap some q)) m))
      (λ q. omega (arith, (w.tree.roots d j e).0, q))

  well_less : Well less
  well_less =
      record {
        few = omega (arith, count_less, w.few);
        eight = w.eight;
        tree =
            record {
              tags = λ j h. ap tag_fits (row_less j (omega (arith, count_less))) ∙ w.tree.tags j (omega (arith, count_less));
              parents = parent_less;
              roots = λ d j e.
                  let k = w.tree.roots d j e in
                  let b = root_below d j e in (
                    omega (arith, count_less),
                    ap (λ (r : Row). r.is_leaf) (row_less j b) ∙ k.1,
                    ap (λ (r : Row). r.parent) (row_less j b) ∙
                        k.2,
                  );
              once = w.tree.once;
            };
      }

-- ONE RECORD, and all of them
well_undone : (x : Table) (r : Record) → Well x → undo_fits x r ≡ true → Well (undone x r)
well_undone x (made i r) w f =
    let k = and_five (eqb (i + 1) (count x)) (not (is_marked x i)) _ _ _ f in
    well_less x w i (eqb-true _ _ k.0) (not-true _ k.1)
well_undone x (cut i p) w f =
    let k = and_four (ltb i (count x)) (not (has_parent (row_at x i).parent)) (not (is_marked x i)) _ f in
    back_linked x i p w (ltb-true _ _ k.0) (not-true _ k.2) k.3

well_undo_all : (ps : List Placed) (x y : Table) → Well x → undo_all x ps ≡ back y → Well y
unfolding undo_all
well_undo_all [] x y w e = let k : x ≡ y = cc in subst Well k w
well_undo_all (p ∷ ps) x y w e = go (undo_fits x p.entry) refl (λ v f. well_undo_all ps (undone x p.entry) y v f) e
  where
    go : (t : Bool) → undo_fits x p.entry ≡ t → (Well (undone x p.entry) → undo_all (undone x p.entry) ps ≡ back y → Well y) →
        cond t (undo_all (undone x p.entry) ps) (refused (link_at p.at)) ≡ back y → Well y
    go true h rec f = rec (well_undone x p.entry w h) f
    go false h rec f = let z : ◌≡◌ {A = ℕ} 0 1 = cc in absurd (omega arith)

pub undo_keeps : UndoKeeps
undo_keeps x y b h e = go (form_from (length b + 1) 0 0 b) e
  where
    go : (f : Formed) → undo_formed x f ≡ back y → is_well y ≡ true
    go (refused z) k = let q : ◌≡◌ {A = ℕ} 0 1 = cc in absurd (omega arith)
    go (formed ps) k = is_well_by y (well_undo_all (backwards ps []) x y (is_well_at x h) k)
