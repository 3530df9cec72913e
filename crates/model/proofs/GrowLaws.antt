-- A table grown by a row or a mark, or with one row's link changed: its rows by index, and that it stays well formed.
use mathlib.Core.Path.{◌≡◌, refl, sym, ap, ◌∙◌, subst}
use mathlib.Core.Bool.{Bool, true, false}
use mathlib.Core.Logic.{◌≢◌, ◌⊎◌, inl, inr}
use mathlib.Core.List.{List, [], ◌∷◌}
use mathlib.Core.Option.{Option, none, some}
use Prim.Native.Nat.{ℕ, suc, ◌<◌}
use native.Mathlib.Omega.{arith}
use lib.Dec.{ltb, eqb}
use lib.ListN.{length, get_or, set, length-append, length-set, get_or-append}
use lib.Seq.{get_or-append_seam, get_or-set_same, get_or-set_other}
use borrow.Author.Tests.{ltb-true, ltb-false, eqb-true, eqb-false}
use Rattle.model.specs.Limits.{max_rows}
use Rattle.model.specs.Table.{Row, Table, no_row, row_at, count, is_marked, with_row, with_parent, linked, with_mark, tag_fits}
use Rattle.model.specs.Table.{parent_fits}
use Rattle.model.proofs.BoolLaws.{true_false}
use Rattle.model.proofs.TableLaws.{any_by, parent_fits_at, is_element_at, parent_count, Well}
use Rattle.model.specs.Table.{ParentLower, IsRoot, Tree}

-- A ROW MORE
pub count_with_row : (x : Table) (r : Row) → count (with_row x r) ≡ suc (count x)
count_with_row x r = omega (arith, length-append x.rows (r ∷ []))

pub row_at_with_row_old : (x : Table) (r : Row) (i : ℕ) → i < count x → row_at (with_row x r) i ≡ row_at x i
row_at_with_row_old x r i l = get_or-append x.rows (r ∷ []) no_row i l

pub row_at_with_row_new : (x : Table) (r : Row) → row_at (with_row x r) (count x) ≡ r
row_at_with_row_new x r = get_or-append_seam x.rows r [] no_row

-- a row of the grown table is an old one or the new one
pub with_row_cases : (x : Table) (r : Row) (P : ℕ → Row → Type 0) → ((i : ℕ) → i < count x → P i (row_at x i)) → P (count x) r →
    (i : ℕ) → i < count (with_row x r) → P i (row_at (with_row x r) i)
with_row_cases x r P old new i l = go (ltb i (count x)) refl
  where
    go : (t : Bool) → ltb i (count x) ≡ t → P i (row_at (with_row x r) i)
    go true e = rw (row_at_with_row_old x r i (ltb-true _ _ e)) (old i (ltb-true _ _ e))
    go false e =
        let q : count x ≡ i = omega (arith, ltb-false i (count x) e, count_with_row x r) in
        subst (λ (k : ℕ). P k (row_at (with_row x r) k)) q (rw (row_at_with_row_new x r) new)

module _ (x : Table) (r : Row) (t : Tree x) (f : tag_fits r ≡ true) (g : parent_fits x (count x) r.parent ≡ true) where
  with_row_old : (i : ℕ) → i < count x → ParentLower (with_row x r) i (row_at x i)
  with_row_old i l p e =
      let k = t.parents i p e in
      (k.0, rw (row_at_with_row_old x r p (omega arith)) k.1)

  with_row_new : ParentLower (with_row x r) (count x) r
  with_row_new p e =
      let k = parent_fits_at x (count x) p (subst (λ (q : Option ℕ). parent_fits x (count x) q ≡ true) e g) in
      (k.0, rw (row_at_with_row_old x r p k.0) (is_element_at x p k.1).1)

  with_row_root : (i : ℕ) → IsRoot x i → IsRoot (with_row x r) i
  with_row_root i k =
      let e = row_at_with_row_old x r i k.0 in
      (omega (arith, count_with_row x r), rw e k.1, rw e k.2)

  pub tree_with_row : Tree (with_row x r)
  tree_with_row = record {
    tags = with_row_cases x r (λ i q. tag_fits q ≡ true) t.tags f;
    parents = λ i p e.
        with_row_cases x r (ParentLower (with_row x r)) with_row_old with_row_new i (parent_count (with_row x r) i p e) p e;
    roots = λ d i e. with_row_root i (t.roots d i e);
    once = t.once;
  }

  pub well_with_row : Well x → count x < max_rows → Well (with_row x r)
  well_with_row w l = record { few = omega (arith, count_with_row x r); eight = w.eight; tree = tree_with_row }

-- A MARK MORE
get_d_set_cases : (ms : List (Option ℕ)) (d e i j : ℕ) → d < length ms → get_or (set ms d (some i)) e none ≡ some j →
    ((e ≡ d) × (j ≡ i)) ⊎ ((e ≢ d) × (get_or ms e none ≡ some j))
get_d_set_cases ms d e i j l q = go (eqb e d) refl
  where
    go : (t : Bool) → eqb e d ≡ t → ((e ≡ d) × (j ≡ i)) ⊎ ((e ≢ d) × (get_or ms e none ≡ some j))
    go true p =
        let k : e ≡ d = eqb-true _ _ p in
        let m : some i ≡ some j =
        sym (get_or-set_same ms d (some i) none l) ∙ subst (λ (n : ℕ). get_or (set ms d (some i)) n none ≡ some j) k q in
        inl (k, cc)
    go false p = inr (eqb-false _ _ p, sym (get_or-set_other ms d e (some i) none (eqb-false _ _ p)) ∙ q)

module _ (x : Table) (d i : ℕ) (t : Tree x) (k : IsRoot x i) (l : d < length x.marks) (n : is_marked x i ≡ false) where
  with_mark_root : (e j : ℕ) → get_or (set x.marks d (some i)) e none ≡ some j → IsRoot x j
  with_mark_root e j q = elim (get_d_set_cases x.marks d e i j l q) [
    | inl z ↦ rw z.1 k
    | inr z ↦ t.roots e j z.1
  ]

  marked_not : (e : ℕ) → get_or x.marks e none ≡ some i → ⊥
  marked_not e q = true_false _ (any_by i x.marks e q) n

  with_mark_once : (e f j : ℕ) → get_or (set x.marks d (some i)) e none ≡ some j → get_or (set x.marks d (some i)) f none ≡ some j → e ≡ f
  with_mark_once e f j p q = elim (get_d_set_cases x.marks d e i j l p) [
    | inl y ↦ elim (get_d_set_cases x.marks d f i j l q) [
      | inl z ↦ y.0 ∙ sym z.0
      | inr z ↦ absurd (marked_not f (z.1 ∙ ap {B = Option ℕ} some y.1))
    ]
    | inr y ↦ elim (get_d_set_cases x.marks d f i j l q) [
      | inl z ↦ absurd (marked_not e (y.1 ∙ ap {B = Option ℕ} some z.1))
      | inr z ↦ t.once e f j y.1 z.1
    ]
  ]

  tree_with_mark : Tree (with_mark x d i)
  tree_with_mark = record { tags = t.tags; parents = t.parents; roots = with_mark_root; once = with_mark_once }

  pub well_with_mark : Well x → Well (with_mark x d i)
  well_with_mark w = record { few = w.few; eight = length-set x.marks d (some i) ∙ w.eight; tree = tree_with_mark }

-- A LINK CHANGED
pub count_linked : (x : Table) (i : ℕ) (p : Option ℕ) → count (linked x i p) ≡ count x
count_linked x i p = length-set x.rows i (with_parent (row_at x i) p)

pub row_at_linked_other : (x : Table) (i : ℕ) (p : Option ℕ) (j : ℕ) → j ≢ i → row_at (linked x i p) j ≡ row_at x j
row_at_linked_other x i p j h = get_or-set_other x.rows i j (with_parent (row_at x i) p) no_row h

pub row_at_linked_same : (x : Table) (i : ℕ) (p : Option ℕ) → i < count x → row_at (linked x i p) i ≡ with_parent (row_at x i) p
row_at_linked_same x i p l = get_or-set_same x.rows i (with_parent (row_at x i) p) no_row l

pub linked_cases : (x : Table) (i : ℕ) (p : Option ℕ) (P : ℕ → Row → Type 0) → i < count x →
    ((j : ℕ) → j ≢ i → P j (row_at x j)) → P i (with_parent (row_at x i) p) → (j : ℕ) → P j (row_at (linked x i p) j)
linked_cases x i p P l other same j = go (eqb j i) refl
  where
    go : (t : Bool) → eqb j i ≡ t → P j (row_at (linked x i p) j)
    go true e =
        let q : i ≡ j = sym (eqb-true j i e) in
        subst (λ (k : ℕ). P k (row_at (linked x i p) k)) q (subst (P i) (sym (row_at_linked_same x i p l)) same)
    go false e = subst (P j) (sym (row_at_linked_other x i p j (eqb-false j i e))) (other j (eqb-false j i e))

pub is_leaf_linked : (x : Table) (i : ℕ) (p : Option ℕ) → i < count x → (j : ℕ) → (row_at (linked x i p) j).is_leaf ≡ (row_at x j).is_leaf
is_leaf_linked x i p l = linked_cases x i p (λ j r. r.is_leaf ≡ (row_at x j).is_leaf) l (λ j h. refl) refl

-- to a lower element, or to none; a marked row only to none
module _ (x : Table) (i : ℕ) (p : Option ℕ) (t : Tree x) (l : i < count x) (f : ParentLower x i (with_parent (row_at x i) p))
    (m : (d : ℕ) → get_or x.marks d none ≡ some i → p ≡ none) where
  linked_parent : (j : ℕ) (r : Row) → ParentLower x j r → ParentLower (linked x i p) j r
  linked_parent j r h q e = let k = h q e in (k.0, is_leaf_linked x i p l q ∙ k.1)

  linked_root : (d j : ℕ) → get_or x.marks d none ≡ some j → IsRoot (linked x i p) j
  linked_root d j e =
      let k = t.roots d j e in (
        omega (arith, count_linked x i p, k.0),
        is_leaf_linked x i p l j ∙ k.1,
        linked_cases x i p (λ n r. j ≡ n → r.parent ≡ none) l
            (λ n h q. subst (λ (a : ℕ). (row_at x a).parent ≡ none) q k.2) (λ q. m d (e ∙ ap {B = Option ℕ} some q)) j refl,
      )

  pub tree_linked : Tree (linked x i p)
  tree_linked = record {
    tags = λ j h.
        linked_cases x i p (λ n r. n < count x → tag_fits r ≡ true) l (λ n k. t.tags n) (t.tags i) j (omega (arith, count_linked x i p));
    parents =
        linked_cases x i p (ParentLower (linked x i p)) l (λ j h. linked_parent j (row_at x j) (t.parents j))
        (linked_parent i (with_parent (row_at x i) p) f);
    roots = linked_root;
    once = t.once;
  }

  pub well_linked : Well x → Well (linked x i p)
  well_linked w = record { few = omega (arith, count_linked x i p, w.few); eight = w.eight; tree = tree_linked }
