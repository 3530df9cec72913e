-- Undo of what a run did: each record fits when its turn comes, back to front, and the earlier table comes back exactly.
use mathlib.Core.Path.{◌≡◌, refl, sym, ap, ◌∙◌, subst}
use mathlib.Core.Bool.{Bool, true, false, not}
use mathlib.Core.List.{List, [], ◌∷◌, ◌++◌}
use mathlib.Core.Option.{Option, none, some, some-ne-none}
use Prim.Native.Nat.{ℕ, ◌+◌, ◌-◌, ◌<◌}
use native.Mathlib.Omega.{arith}
use lib.ListN.{length, get_or, take, set}
use lib.Seq.{take-append_seam, set-set, set-get_or}
use borrow.Author.Tests.{lt-ltb, eq-eqb}
use Rattle.model.specs.Base.{nothing}
use Rattle.model.specs.Limits.{max_rows}
use Rattle.model.specs.Table.{Row, Table, table, no_row, row_at, count, is_marked, has_parent, with_row, with_parent, linked, tag_fits}
use Rattle.model.specs.Table.{parent_fits}
use Rattle.model.specs.History.{Record, made, cut, IsInRange, made_in, cut_in, AllInRange, record_bytes, history_bytes}
use Rattle.model.specs.Run.{State}
use Rattle.model.specs.Undo.{Placed, same_parent, same_bool, undo_fits, undone, back, undo_all, backwards, undo, undo_formed}
use Rattle.model.proofs.BoolLaws.{and_both}
use Rattle.model.proofs.TableLaws.{any_at, is_element_by, parent_fits_at, parent_count, Well}
use Rattle.model.proofs.GrowLaws.{count_with_row, row_at_with_row_new, count_linked, row_at_linked_same, is_leaf_linked}
use Rattle.model.specs.Leads.{begun, row_made, link_cut}
use Rattle.model.proofs.HistoryLaws.{ran_length, ComesTo, ran_well}
use Rattle.model.proofs.FormLaws.{placed, form_from_placed}
use Rattle.model.proofs.All.{all_snoc}

-- ONE RECORD UNDONE. A row that no document marks is not marked
is_marked_not : (x : Table) (i : ℕ) → ((d : ℕ) → get_or x.marks d none ≡ some i → ⊥) → is_marked x i ≡ false
is_marked_not x i h = go (is_marked x i) refl
  where
    go : (t : Bool) → is_marked x i ≡ t → is_marked x i ≡ false
    go true e = let k = any_at i x.marks e in absurd (h k.0 k.1)
    go false e = e

same_bool_refl : (t : Bool) → same_bool t t ≡ true
same_bool_refl true = refl
same_bool_refl false = refl

same_parent_refl : (p : Option ℕ) → same_parent p p ≡ true
same_parent_refl none = refl
same_parent_refl (some i) = eq-eqb i i refl

module _ (x : Table) (w : Well x) (r : Row) where
  made_fits : undo_fits (with_row x r) (made (count x) r) ≡ true
  made_fits =
      let e = row_at_with_row_new x r in
      and_both _ _
      (and_both _ _
      (and_both _ _
      (and_both _ _ (eq-eqb (count x + 1) (count (with_row x r)) (omega (arith, count_with_row x r)))
      (ap not (is_marked_not (with_row x r) (count x) (λ d h. omega (arith, (w.tree.roots d (count x) h).0)))))
      (ap (λ (q : Row). same_bool q.is_leaf r.is_leaf) e ∙ same_bool_refl r.is_leaf))
      (eq-eqb (row_at (with_row x r) (count x)).tag r.tag (ap (λ (q : Row). q.tag) e)))
      (ap (λ (q : Row). same_parent q.parent r.parent) e ∙ same_parent_refl r.parent)

  made_undone : undone (with_row x r) (made (count x) r) ≡ x
  made_undone =
      let n : count (with_row x r) - 1 ≡ count x = omega (arith, count_with_row x r) in
      ap (λ (rs : List Row). table rs x.marks)
      (ap (λ (k : ℕ). take k (x.rows ++ (r ∷ []))) n ∙ take-append_seam x.rows (r ∷ []))

module _ (x : Table) (w : Well x) (i p : ℕ) (e : (row_at x i).parent ≡ some p) where
  cut_row : row_at (linked x i none) i ≡ with_parent (row_at x i) none
  cut_row = row_at_linked_same x i none (parent_count x i p e)

  cut_fits : undo_fits (linked x i none) (cut i p) ≡ true
  cut_fits =
      let l = parent_count x i p e in
      let n = count_linked x i none in
      let k = w.tree.parents i p e in
      and_both _ _
      (and_both _ _
      (and_both _ _ (lt-ltb i (count (linked x i none)) (omega arith)) (ap (λ (r : Row). not (has_parent r.parent)) cut_row))
      (ap not (is_marked_not x i (λ d h. some-ne-none p (sym e ∙ (w.tree.roots d i h).2)))))
      (and_both _ _ (lt-ltb p i k.0) (is_element_by (linked x i none) p (omega (arith, k.0)) (is_leaf_linked x i none l p ∙ k.1)))

  cut_undone : undone (linked x i none) (cut i p) ≡ x
  cut_undone =
      ap (λ (rs : List Row). table rs x.marks)
      (set-set x.rows i _ _ ∙ ap (set x.rows i) (ap (λ (r : Row). with_parent r (some p)) cut_row ∙ whole) ∙
      set-get_or x.rows i no_row)
    where
      whole : with_parent (with_parent (row_at x i) none) (some p) ≡ row_at x i
      whole = ap (with_parent (row_at x i)) (sym e)

-- BACKWARDS: the last record is undone first
backwards_snoc : (ps qs : List Placed) (p : Placed) → backwards (ps ++ (p ∷ [])) qs ≡ p ∷ backwards ps qs
unfolding backwards
backwards_snoc [] qs p = refl
backwards_snoc (q ∷ ps) qs p = backwards_snoc ps (q ∷ qs) p

placed_snoc : (i : ℕ) (rs : List Record) (r : Record) →
    (j : ℕ) × (placed i (rs ++ (r ∷ [])) ≡ placed i rs ++ (record { at = j; entry = r } ∷ []))
unfolding placed
placed_snoc i [] r = (i, refl)
placed_snoc i (q ∷ rs) r =
    let w = placed_snoc (i + length (record_bytes q)) rs r in
    (w.0, ap {B = List Placed} (λ ps. record { at = i; entry = q } ∷ ps) w.1)

undo_last : (x y : Table) (rs : List Record) (r : Record) → undo_fits x r ≡ true →
    undo_all (undone x r) (backwards (placed 0 rs) []) ≡ back y → undo_all x (backwards (placed 0 (rs ++ (r ∷ []))) []) ≡ back y
unfolding undo_all
undo_last x y rs r f h =
    let w = placed_snoc 0 rs r in
    ap (λ (ps : List Placed). undo_all x (backwards ps [])) w.1 ∙
    ap (undo_all x) (backwards_snoc (placed 0 rs) [] (record { at = w.0; entry = r })) ∙ rw f h

ran_undone : (x : Table) → Well x → {s : State} → ComesTo x s → undo_all s.plan (backwards (placed 0 s.history) []) ≡ back x
unfolding undo_all placed backwards
ran_undone x w begun = refl
ran_undone x w (row_made s r q c f) =
    let v = ran_well x w q in
    undo_last (with_row s.plan r) x s.history (made (count s.plan) r) (made_fits s.plan v r)
    (ap (λ (y : Table). undo_all y (backwards (placed 0 s.history) [])) (made_undone s.plan v r) ∙ ran_undone x w q)
ran_undone x w (link_cut s i p q e) =
    let v = ran_well x w q in
    undo_last (linked s.plan i none) x s.history (cut i p) (cut_fits s.plan v i p e)
    (ap (λ (y : Table). undo_all y (backwards (placed 0 s.history) [])) (cut_undone s.plan v i p e) ∙ ran_undone x w q)

-- the records of a run are in range, so its bytes are read back as its records
pub made_in_range : (x : Table) (r : Row) → count x < max_rows → tag_fits r ≡ true → parent_fits x (count x) r.parent ≡ true →
    IsInRange (made (count x) r)
made_in_range x r l f g =
    made_in f
    (λ p e.
    let k = parent_fits_at x (count x) p (subst (λ (q : Option ℕ). parent_fits x (count x) q ≡ true) e g) in
    omega (arith, k.0))

ran_in_range : (x : Table) → Well x → {s : State} → ComesTo x s → AllInRange s.history
ran_in_range x w begun = nothing
ran_in_range x w (row_made s r q c f) = all_snoc (ran_in_range x w q) (made_in_range s.plan r c f.0 f.1)
ran_in_range x w (link_cut s i p q e) = all_snoc (ran_in_range x w q) cut_in

pub ran_undo : (x : Table) → Well x → {s : State} → ComesTo x s → undo s.plan (history_bytes s.history) ≡ back x
ran_undo x w {s} r =
    ap (undo_formed s.plan)
    (form_from_placed (length (history_bytes s.history) + 1) 0 0 s.history (ran_in_range x w r)
    (omega (arith, ran_length x w.few r)) (omega arith)) ∙
    ran_undone x w r
