-- Which rows a sweep keeps, and their new numbers: kept unrolled, counted, and found again in the swept table.
use mathlib.Core.Path.{◌≡◌, refl, sym, ap, ap₂, ◌∙◌, subst}
use mathlib.Core.Bool.{Bool, true, false, ◌||◌, cond}
use mathlib.Core.Logic.{◌⊎◌, inl, inr}
use mathlib.Core.List.{List, [], ◌∷◌}
use mathlib.Core.Option.{Option, none, some, none-ne-some}
use Prim.Native.Nat.{ℕ, zero, suc, ◌+◌, ◌≤◌, ◌<◌}
use native.Mathlib.Nat.{not-suc-le-zero, add-zero, zero-add}
use native.Mathlib.Numerals.{one-add}
use native.Mathlib.Omega.{arith}
use lib.Dec.{ltb, leb}
use lib.ListN.{length, get_or}
use borrow.Author.Tests.{ltb-true, ltb-false, leb-true, leb-false}
use Rattle.model.specs.Base.{bit}
use Rattle.model.specs.Table.{Row, Table, no_row, row_at, is_marked, with_parent, Tree}
use Rattle.model.specs.Sweep.{through, kept_from, is_kept, kept_before, new_number, renumbered, swept_rows}
use Rattle.model.proofs.BoolLaws.{bit_le, or_left, or_right, or_cases, true_false}
use Rattle.model.proofs.TableLaws.{any_at}

-- KEPT: marked, or the parent is kept. Parents are lower, so any fuel above the row's number serves
kept_from_fuel : (x : Table) → Tree x → (n m i : ℕ) → i < n → i < m → kept_from n x i ≡ kept_from m x i
unfolding kept_from
kept_from_fuel x t zero m i h k = absurd (not-suc-le-zero h)
kept_from_fuel x t (suc n) zero i h k = absurd (not-suc-le-zero k)
kept_from_fuel x t (suc n) (suc m) i h k =
    ap (λ (b : Bool). is_marked x i || b)
    (go (row_at x i).parent
    (λ p e. let l = (t.parents i p e).0 in kept_from_fuel x t n m p (omega arith) (omega arith)))
  where
    go : (q : Option ℕ) → ((p : ℕ) → q ≡ some p → kept_from n x p ≡ kept_from m x p) →
        through (kept_from n x) q ≡ through (kept_from m x) q
    go none r = refl
    go (some p) r = r p refl

pub is_kept_unrolled : (x : Table) → Tree x → (i : ℕ) → is_kept x i ≡ (is_marked x i || through (is_kept x) (row_at x i).parent)
unfolding kept_from
is_kept_unrolled x t i = ap (λ (b : Bool). is_marked x i || b) (go (row_at x i).parent refl)
  where
    go : (q : Option ℕ) → (row_at x i).parent ≡ q → through (kept_from i x) q ≡ through (is_kept x) q
    go none e = refl
    go (some p) e = kept_from_fuel x t i (suc p) p (t.parents i p e).0 (omega arith)

module _ (x : Table) (t : Tree x) where
  pub is_kept_marked : (i : ℕ) → is_marked x i ≡ true → is_kept x i ≡ true
  is_kept_marked i h = is_kept_unrolled x t i ∙ or_left _ _ h

  pub is_kept_below : (i p : ℕ) → (row_at x i).parent ≡ some p → is_kept x p ≡ true → is_kept x i ≡ true
  is_kept_below i p e h =
      is_kept_unrolled x t i ∙ or_right (is_marked x i) _ (subst (λ (q : Option ℕ). through (is_kept x) q ≡ true) (sym e) h)

  pub is_kept_cases : (i : ℕ) → is_kept x i ≡ true → (is_marked x i ≡ true) ⊎
      ((p : ℕ) × (((row_at x i).parent ≡ some p) × (is_kept x p ≡ true)))
  is_kept_cases i h = elim (or_cases (is_marked x i) _ (sym (is_kept_unrolled x t i) ∙ h)) [
    | inl m ↦ inl m
    | inr m ↦ inr (go (row_at x i).parent refl m)
  ]
    where
      go : (q : Option ℕ) → (row_at x i).parent ≡ q → through (is_kept x) q ≡ true →
          (p : ℕ) × (((row_at x i).parent ≡ some p) × (is_kept x p ≡ true))
      go none e m = absurd (true_false false m refl)
      go (some p) e m = (p, (e, m))

  -- a marked row has no parent, so the parent of a kept row is kept
  pub is_kept_parent : (i p : ℕ) → (row_at x i).parent ≡ some p → is_kept x i ≡ true → is_kept x p ≡ true
  is_kept_parent i p e h = elim (is_kept_cases i h) [
    | inl m ↦ let k = any_at i x.marks m in absurd (none-ne-some p (sym (t.roots k.0 i k.1).2 ∙ e))
    | inr w ↦ let q : w.0 ≡ p = cc w.1.0 in subst (λ (j : ℕ). is_kept x j ≡ true) q w.1.1
  ]

-- NUMBERS: kept rows are counted
kept_before_last : (x : Table) (i n : ℕ) → kept_before x i (suc n) ≡ kept_before x i n + bit (is_kept x (i + n))
unfolding kept_before
kept_before_last x i zero = rw (add-zero i) (omega arith)
kept_before_last x i (suc n) =
    let e : bit (is_kept x (suc i + n)) ≡ bit (is_kept x (i + suc n)) = ap (λ (k : ℕ). bit (is_kept x k)) (omega arith) in
    omega (arith, kept_before_last x (suc i) n)

pub new_number_zero : (x : Table) → new_number x 0 ≡ 0
unfolding kept_before
new_number_zero x = refl

pub new_number_suc : (x : Table) (i : ℕ) → new_number x (suc i) ≡ new_number x i + cond (is_kept x i) 1 0
new_number_suc x i = kept_before_last x 0 i ∙ ap (λ (k : ℕ). new_number x i + bit (is_kept x k)) (zero-add i)

new_number_kept : (x : Table) (i : ℕ) → is_kept x i ≡ true → new_number x (suc i) ≡ suc (new_number x i)
new_number_kept x i h = new_number_suc x i ∙ rw h (omega arith)

pub new_number_le : (x : Table) (i : ℕ) → new_number x i ≤ i
new_number_le x zero = omega (arith, new_number_zero x)
new_number_le x (suc i) = omega (arith, new_number_le x i, new_number_suc x i, bit_le (is_kept x i))

-- rising, and strictly so on kept rows
new_number_rises : (x : Table) (i j : ℕ) → i ≤ j → new_number x i ≤ new_number x j
new_number_rises x i zero l = let e : new_number x i ≡ new_number x 0 = ap (new_number x) (omega arith) in omega arith
new_number_rises x i (suc j) l = go (leb i j) refl (new_number_rises x i j)
  where
    go : (t : Bool) → leb i j ≡ t → (i ≤ j → new_number x i ≤ new_number x j) → new_number x i ≤ new_number x (suc j)
    go true e r = omega (arith, r (leb-true _ _ e), new_number_suc x j)
    go false e r =
        let k = leb-false i j e in
        let q : new_number x i ≡ new_number x (suc j) = ap (new_number x) (omega arith) in
        omega arith

pub new_number_strict : (x : Table) (i j : ℕ) → is_kept x i ≡ true → i < j → new_number x i < new_number x j
new_number_strict x i j h l = omega (arith, new_number_kept x i h, new_number_rises x (suc i) j l)

pub new_number_once : (x : Table) (i j : ℕ) → is_kept x i ≡ true → is_kept x j ≡ true → new_number x i ≡ new_number x j → i ≡ j
new_number_once x i j h k e = go (ltb i j) (ltb j i) refl refl
  where
    go : (t u : Bool) → ltb i j ≡ t → ltb j i ≡ u → i ≡ j
    go true u p q = absurd (omega (arith, new_number_strict x i j h (ltb-true _ _ p)))
    go false true p q = absurd (omega (arith, new_number_strict x j i k (ltb-true _ _ q)))
    go false false p q = omega (arith, ltb-false i j p, ltb-false j i q)

-- where every row below n is kept, none is renumbered
pub new_number_all : (x : Table) (n : ℕ) → ((i : ℕ) → i < n → is_kept x i ≡ true) → new_number x n ≡ n
new_number_all x zero h = new_number_zero x
new_number_all x (suc n) h = new_number_kept x n (h n (omega arith)) ∙ ap suc (new_number_all x n (λ i l. h i (omega arith)))

-- ROWS of the swept table: the kept ones, in order
abbrev pub swept_row : Table → Row → Row
swept_row x r = with_parent r (renumbered x r.parent)

pub length_swept_rows : (x : Table) (i : ℕ) (rs : List Row) → length (swept_rows x i rs) ≡ kept_before x i (length rs)
unfolding swept_rows kept_before
length_swept_rows x i [] = refl
length_swept_rows x i (r ∷ rs) = go (is_kept x i) refl (length_swept_rows x (suc i) rs)
  where
    go : (t : Bool) → is_kept x i ≡ t → length (swept_rows x (suc i) rs) ≡ kept_before x (suc i) (length rs) →
        length (swept_rows x i (r ∷ rs)) ≡ kept_before x i (suc (length rs))
    go true e h = rw e (omega arith)
    go false e h = rw e (omega arith)

pub swept_rows_at : (x : Table) (i : ℕ) (rs : List Row) (k : ℕ) → k < length rs → is_kept x (i + k) ≡ true →
    get_or (swept_rows x i rs) (kept_before x i k) no_row ≡ swept_row x (get_or rs k no_row)
unfolding swept_rows kept_before
swept_rows_at x i [] k l h = absurd (not-suc-le-zero l)
swept_rows_at x i (r ∷ rs) zero l h = rw (rw (add-zero i) at h)
swept_rows_at x i (r ∷ rs) (suc k) l h =
    go (is_kept x i) refl
    (swept_rows_at x (suc i) rs k (omega arith) (subst (λ (j : ℕ). is_kept x j ≡ true) (omega arith) h))
  where
    go : (t : Bool) → is_kept x i ≡ t →
        get_or (swept_rows x (suc i) rs) (kept_before x (suc i) k) no_row ≡ swept_row x (get_or rs k no_row) →
        get_or (swept_rows x i (r ∷ rs)) (kept_before x i (suc k)) no_row ≡ swept_row x (get_or rs k no_row)
    go true e q = rw (e, one-add) q
    go false e q = rw (e, zero-add) q

-- where a row of the swept table comes from
pub record Origin (x : Table) (i : ℕ) (rs : List Row) (j : ℕ) : Type 0 where
  pub row : ℕ
  pub within : row < length rs
  pub kept : is_kept x (i + row) ≡ true
  pub counted : kept_before x i row ≡ j

origin_later : (x : Table) (i : ℕ) (r : Row) (rs : List Row) (j m : ℕ) → bit (is_kept x i) + j ≡ m → Origin x (suc i) rs j →
    Origin x i (r ∷ rs) m
unfolding kept_before
origin_later x i r rs j m e o = record {
  row = suc o.row;
  within = omega (arith, o.within);
  kept = subst (λ (n : ℕ). is_kept x n ≡ true) (omega arith) o.kept;
  counted = omega (arith, o.counted);
}

pub swept_rows_from : (x : Table) (i : ℕ) (rs : List Row) (j : ℕ) → j < length (swept_rows x i rs) → Origin x i rs j
unfolding swept_rows kept_before
swept_rows_from x i [] j l = absurd (not-suc-le-zero l)
swept_rows_from x i (r ∷ rs) j l = go (is_kept x i) refl j l (swept_rows_from x (suc i) rs)
  where
    go : (t : Bool) → is_kept x i ≡ t → (j : ℕ) → j < length (swept_rows x i (r ∷ rs)) →
        ((j : ℕ) → j < length (swept_rows x (suc i) rs) → Origin x (suc i) rs j) → Origin x i (r ∷ rs) j
    go true e zero m h = record { row = zero; within = omega arith; kept = rw add-zero e; counted = refl }
    go true e (suc j) m h = let k = rw e at m in origin_later x i r rs j (suc j) (rw e (one-add j)) (h j (omega arith))
    go false e j m h = origin_later x i r rs j j (rw e (zero-add j)) (h j (rw e at m))

-- RENUMBERED, from which row
pub renumbered_some : (x : Table) (q : Option ℕ) (j : ℕ) → renumbered x q ≡ some j → (i : ℕ) × ((q ≡ some i) × (new_number x i ≡ j))
renumbered_some x none j e = absurd (none-ne-some j e)
renumbered_some x (some i) j e = (i, (refl, cc))

-- A sweep that keeps every row and number changes nothing
pub swept_rows_same : (x : Table) (i : ℕ) (rs : List Row) →
    ((k : ℕ) → k < length rs → (is_kept x (i + k) ≡ true) × (renumbered x (get_or rs k no_row).parent ≡ (get_or rs k no_row).parent)) →
    swept_rows x i rs ≡ rs
unfolding swept_rows
swept_rows_same x i [] h = refl
swept_rows_same x i (r ∷ rs) h =
    let k = h zero (omega arith) in
    let e : is_kept x i ≡ true = subst (λ (n : ℕ). is_kept x n ≡ true) (add-zero i) k.0 in
    let q : swept_row x r ≡ r = ap (with_parent r) k.1 in
    rw e
    (ap₂ ◌∷◌ q
    (swept_rows_same x (suc i) rs
    (λ j l. let w = h (suc j) (omega arith) in (subst (λ (n : ℕ). is_kept x n ≡ true) (omega arith) w.0, w.1))))
