-- A well-formed table taken apart by index, and put together again: one statement for each rule of document 01, 'The table'.
use mathlib.Core.Path.{◌≡◌, refl, sym, ap, ◌∙◌, subst}
use mathlib.Core.Bool.{Bool, true, false, ◌&&◌, not}
use mathlib.Core.Logic.{inl, inr}
use mathlib.Core.List.{List, [], ◌∷◌}
use mathlib.Core.Option.{Option, none, some, none-ne-some}
use Prim.Native.Nat.{ℕ, zero, suc, ◌+◌, ◌≤◌, ◌<◌}
use native.Mathlib.Nat.{not-suc-le-zero, add-zero}
use native.Mathlib.Omega.{arith}
use lib.Dec.{ltb, leb, eqb}
use lib.ListN.{length, get_or, get_or-eq_default}
use borrow.Author.Tests.{ltb-true, leb-true, ltb-false, eqb-true, not-true, lt-ltb, le-leb, eq-eqb}
use Rattle.model.specs.Base.{all, any}
use Rattle.model.specs.Limits.{max_rows, documents}
use Rattle.model.specs.Table.{ParentLower, IsRoot, Tree, Row, Table, empty}
use Rattle.model.specs.Table.{no_row, row_at, count, is_element, has_parent, is_the, tag_fits}
use Rattle.model.specs.Table.{parent_fits, rows_fit, mark_fits, none_twice, is_tree, is_well}
use Rattle.model.proofs.BoolLaws.{and_left, and_right, and_both, or_cases, or_left, or_right, true_false}
use Rattle.model.proofs.ListLaws.{all_get_d, get_d_all}
use Rattle.model.proofs.TestLaws.{and_three, and_five}

-- A ROW FITS at its number: its tag is in range, its parent a lower element
pub record RowFits (x : Table) (i : ℕ) (r : Row) : Type 0 where
  pub tag_in : tag_fits r ≡ true
  pub parent_in : parent_fits x i r.parent ≡ true

rows_fit_at : (x : Table) (i : ℕ) (rs : List Row) → rows_fit x i rs ≡ true → (k : ℕ) → k < length rs →
    RowFits x (i + k) (get_or rs k no_row)
unfolding rows_fit
rows_fit_at x i [] h k l = absurd (not-suc-le-zero l)
rows_fit_at x i (r ∷ rs) h zero l =
    let q : (tag_fits r && parent_fits x i r.parent) ≡ true = and_left _ (rows_fit x (suc i) rs) h in
    subst (λ (m : ℕ). RowFits x m r) (sym (add-zero i))
    (record { tag_in = and_left (tag_fits r) _ q; parent_in = and_right (tag_fits r) _ q })
rows_fit_at x i (r ∷ rs) h (suc k) l =
    subst (λ (m : ℕ). RowFits x m (get_or rs k no_row)) (omega arith)
    (rows_fit_at x (suc i) rs (and_right (tag_fits r && parent_fits x i r.parent) _ h) k (omega arith))

rows_fit_by : (x : Table) (i : ℕ) (rs : List Row) → ((k : ℕ) → k < length rs → RowFits x (i + k) (get_or rs k no_row)) →
    rows_fit x i rs ≡ true
unfolding rows_fit
rows_fit_by x i [] h = refl
rows_fit_by x i (r ∷ rs) h =
    let f : RowFits x i r = subst (λ (m : ℕ). RowFits x m r) (add-zero i) (h zero (omega arith)) in
    and_both _ _ (and_both _ _ f.tag_in f.parent_in)
    (rows_fit_by x (suc i) rs (λ k l. subst (λ (m : ℕ). RowFits x m (get_or rs k no_row)) (omega arith) (h (suc k) (omega arith))))

-- a mark is in the list
pub is_the_at : (i : ℕ) (m : Option ℕ) → is_the i m ≡ true → m ≡ some i
is_the_at i none h = absurd (true_false false h refl)
is_the_at i (some p) h = ap {B = Option ℕ} some (eqb-true p i h)

pub is_the_by : (i : ℕ) (m : Option ℕ) → m ≡ some i → is_the i m ≡ true
is_the_by i m e = rw e (eq-eqb i i refl)

get_d_some : (ms : List (Option ℕ)) (d i : ℕ) → get_or ms d none ≡ some i → d < length ms
get_d_some [] d i e = absurd (none-ne-some i e)
get_d_some (m ∷ ms) zero i e = omega arith
get_d_some (m ∷ ms) (suc d) i e = omega (arith, get_d_some ms d i e)

pub any_at : (i : ℕ) (ms : List (Option ℕ)) → any (is_the i) ms ≡ true → (d : ℕ) × (get_or ms d none ≡ some i)
unfolding any
any_at i [] h = absurd (true_false false h refl)
any_at i (m ∷ ms) h =
    elim (or_cases (is_the i m) (any (is_the i) ms) h) [ inl e ↦ (zero, is_the_at i m e) | inr e ↦ later (any_at i ms e) ]
  where
    later : (d : ℕ) × (get_or ms d none ≡ some i) → (d : ℕ) × (get_or (m ∷ ms) d none ≡ some i)
    later w = (suc w.0, w.1)

pub any_by : (i : ℕ) (ms : List (Option ℕ)) (d : ℕ) → get_or ms d none ≡ some i → any (is_the i) ms ≡ true
unfolding any
any_by i [] d e = absurd (none-ne-some i e)
any_by i (m ∷ ms) zero e = or_left _ _ (is_the_by i m e)
any_by i (m ∷ ms) (suc d) e = or_right (is_the i m) _ (any_by i ms d e)

-- no row is marked twice
twice_never : (ms : List (Option ℕ)) (i j d : ℕ) → not (any (is_the j) ms) ≡ true → some j ≡ some i → get_or ms d none ≡ some i → ⊥
twice_never ms i j d h p q = true_false _ (any_by j ms d (cc)) (not-true _ h)

none_twice_at : (ms : List (Option ℕ)) → none_twice ms ≡ true → (d e i : ℕ) → get_or ms d none ≡ some i → get_or ms e none ≡ some i → d ≡ e
unfolding none_twice
none_twice_at [] h d e i p q = absurd (none-ne-some i p)
none_twice_at (none ∷ ms) h zero e i p q = absurd (none-ne-some i p)
none_twice_at (none ∷ ms) h (suc d) zero i p q = absurd (none-ne-some i q)
none_twice_at (none ∷ ms) h (suc d) (suc e) i p q = ap suc (none_twice_at ms h d e i p q)
none_twice_at (some j ∷ ms) h zero zero i p q = refl
none_twice_at (some j ∷ ms) h zero (suc e) i p q = absurd (twice_never ms i j e (and_left _ (none_twice ms) h) p q)
none_twice_at (some j ∷ ms) h (suc d) zero i p q = absurd (twice_never ms i j d (and_left _ (none_twice ms) h) q p)
none_twice_at (some j ∷ ms) h (suc d) (suc e) i p q =
    ap suc (none_twice_at ms (and_right (not (any (is_the j) ms)) _ h) d e i p q)

none_twice_by : (ms : List (Option ℕ)) → ((d e i : ℕ) → get_or ms d none ≡ some i → get_or ms e none ≡ some i → d ≡ e) →
    none_twice ms ≡ true
unfolding none_twice
none_twice_by [] h = refl
none_twice_by (none ∷ ms) h = none_twice_by ms (λ d e i p q. omega (arith, h (suc d) (suc e) i p q))
none_twice_by (some j ∷ ms) h =
    and_both _ _ (go (any (is_the j) ms) refl) (none_twice_by ms (λ d e i p q. omega (arith, h (suc d) (suc e) i p q)))
  where
    go : (t : Bool) → any (is_the j) ms ≡ t → not (any (is_the j) ms) ≡ true
    go true e = let w = any_at j ms e in absurd (omega (arith, h zero (suc w.0) j refl w.1))
    go false e = rw e

-- AN ELEMENT there is
pub is_element_at : (x : Table) (i : ℕ) → is_element x i ≡ true → (i < count x) × ((row_at x i).is_leaf ≡ false)
is_element_at x i h = (ltb-true i (count x) (and_left _ (not (row_at x i).is_leaf) h), not-true _ (and_right (ltb i (count x)) _ h))

pub is_element_by : (x : Table) (i : ℕ) → i < count x → (row_at x i).is_leaf ≡ false → is_element x i ≡ true
is_element_by x i l e = and_both _ _ (lt-ltb _ _ l) (rw e)

-- A row past the count is no row
row_at_past : (x : Table) (i : ℕ) → count x ≤ i → row_at x i ≡ no_row
row_at_past x i l = get_or-eq_default x.rows no_row l

pub parent_count : (x : Table) (i p : ℕ) → (row_at x i).parent ≡ some p → i < count x
parent_count x i p e = go (ltb i (count x)) refl
  where
    go : (t : Bool) → ltb i (count x) ≡ t → i < count x
    go true q = ltb-true _ _ q
    go false q = absurd (none-ne-some p (sym (ap (λ (r : Row). r.parent) (row_at_past x i (ltb-false _ _ q))) ∙ e))

pub parent_fits_at : (x : Table) (i p : ℕ) → parent_fits x i (some p) ≡ true → (p < i) × (is_element x p ≡ true)
parent_fits_at x i p h = (ltb-true p i (and_left _ (is_element x p) h), and_right (ltb p i) _ h)

pub has_parent_none : (p : Option ℕ) → not (has_parent p) ≡ true → p ≡ none
has_parent_none none h = refl
has_parent_none (some p) h = absurd (true_false false h refl)

tree_at : (x : Table) → rows_fit x 0 x.rows ≡ true → all (mark_fits x) x.marks ≡ true → none_twice x.marks ≡ true → Tree x
tree_at x f a n =
    record { tags = λ i l. (rows_fit_at x 0 x.rows f i l).tag_in; parents = parent; roots = root; once = none_twice_at x.marks n }
  where
    parent : (i : ℕ) → ParentLower x i (row_at x i)
    parent i p e =
        let g : RowFits x (0 + i) (row_at x i) = rows_fit_at x 0 x.rows f i (parent_count x i p e) in
        let h = parent_fits_at x (0 + i) p (subst (λ (q : Option ℕ). parent_fits x (0 + i) q ≡ true) e g.parent_in) in
        (omega (arith, h.0), (is_element_at x p h.1).1)

    root : (d i : ℕ) → get_or x.marks d none ≡ some i → IsRoot x i
    root d i e =
        let h : mark_fits x (some i) ≡ true =
        subst (λ (m : Option ℕ). mark_fits x m ≡ true) e (all_get_d (mark_fits x) x.marks none a d (get_d_some x.marks d i e)) in
        let k = is_element_at x i (and_left _ (not (has_parent (row_at x i).parent)) h) in
        (k.0, k.1, has_parent_none _ (and_right (is_element x i) _ h))

tree_by : (x : Table) → Tree x → (rows_fit x 0 x.rows ≡ true) × (all (mark_fits x) x.marks ≡ true) × (none_twice x.marks ≡ true)
tree_by x t = (
  rows_fit_by x 0 x.rows fits,
  get_d_all (mark_fits x) x.marks none (λ d l. mark (get_or x.marks d none) (t.roots d)),
  none_twice_by x.marks t.once,
)
  where
    parent : (i : ℕ) → i < count x → (q : Option ℕ) → (row_at x i).parent ≡ q → parent_fits x i q ≡ true
    parent i l none e = refl
    parent i l (some p) e =
        let k = t.parents i p e in
        and_both _ _ (lt-ltb _ _ k.0) (is_element_by x p (omega arith) k.1)

    fits : (i : ℕ) → i < count x → RowFits x (0 + i) (row_at x i)
    fits i l = subst (λ (m : ℕ). RowFits x m (row_at x i)) (omega arith) (record { tag_in = t.tags i l; parent_in = parent i l _ refl })

    mark : (m : Option ℕ) → ((i : ℕ) → m ≡ some i → IsRoot x i) → mark_fits x m ≡ true
    mark none r = refl
    mark (some i) r =
        let k = r i refl in
        and_both _ _ (is_element_by x i k.0 k.1) (rw k.2)

pub is_tree_at : (x : Table) → is_tree x ≡ true → Tree x
is_tree_at x h = let k = and_three (rows_fit x 0 x.rows) (all (mark_fits x) x.marks) _ h in tree_at x k.0 k.1 k.2

pub is_tree_by : (x : Table) → Tree x → is_tree x ≡ true
is_tree_by x t = let k = tree_by x t in and_both _ _ (and_both _ _ k.0 k.1) k.2

-- WELL FORMED: a tree of at most 512 rows and with eight documents
pub record Well (x : Table) : Type 0 where
  pub few : count x ≤ max_rows
  pub eight : length x.marks ≡ documents
  pub tree : Tree x

pub is_well_at : (x : Table) → is_well x ≡ true → Well x
is_well_at x h =
    let k =
    and_five (leb (count x) max_rows) (rows_fit x 0 x.rows) (eqb (length x.marks) documents) (all (mark_fits x) x.marks) _ h in
    record { few = leb-true _ _ k.0; eight = eqb-true _ _ k.2; tree = tree_at x k.1 k.3 k.4 }

pub is_well_by : (x : Table) → Well x → is_well x ≡ true
is_well_by x w =
    let k = tree_by x w.tree in
    and_both _ _ (and_both _ _ (and_both _ _ (and_both _ _ (le-leb _ _ w.few) k.0) (eq-eqb _ _ w.eight)) k.1) k.2

pub well_empty : Well empty
unfolding rows_fit all none_twice
well_empty = is_well_at empty refl
