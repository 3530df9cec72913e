-- The matching of the two orders: it shifts the first script's rows past the second's, and takes back the shift of the second's rows
-- past the first's.
use mathlib.Core.Path.{◌≡◌, refl, sym, ◌∙◌, ap, ap₂}
use mathlib.Core.List.{List, [], ◌∷◌, map}
use mathlib.Core.Option.{Option, none, some}
use Prim.Native.Nat.{ℕ, ◌+◌, ◌<◌}
use native.Mathlib.Omega.{arith}
use native.Mathlib.Decide.{dec_lt}
use borrow.Author.Tests.{lt-ltb, le-ltb}
use Rattle.model.specs.Table.{Row, with_parent}
use Rattle.model.specs.History.{Record, made, cut}
use Rattle.model.specs.Promise.{matched, matched_parent, matched_all, matched_record, matched_history, matched_row}
use Rattle.model.specs.Base.{All, nothing, also}
use Rattle.model.proofs.Shift.{shift, shift_parent, shift_row, shift_record, shift_low, shift_high}
use Rattle.model.proofs.Twin.{Named}

module _ (n a b : ℕ) where
  -- ROWS
  pub matched_low : (i : ℕ) → i < n → matched n a b i ≡ i
  matched_low i h = rw (lt-ltb i n h)

  pub matched_first : (i : ℕ) → i < n + a → matched n a b i ≡ shift n b i
  matched_first i h = go (dec_lt i n)
    where
      go : Dec (i < n) → matched n a b i ≡ shift n b i
      go (yes k) = rw (lt-ltb i n k)
      go (no k) = rw (le-ltb i n (omega arith), lt-ltb i (n + a) h)

  pub matched_second : (i : ℕ) → matched n a b (shift n a i) ≡ i
  matched_second i = go (dec_lt i n)
    where
      go : Dec (i < n) → matched n a b (shift n a i) ≡ i
      go (yes k) = ap (matched n a b) (shift_low n a i k) ∙ matched_low i k
      go (no k) =
          ap (matched n a b) (shift_high n a i (omega arith)) ∙
          rw (le-ltb (i + a) n (omega arith), le-ltb (i + a) (n + a) (omega arith)) (omega arith)

  -- PARENTS
  pub parent_low : (o : Option ℕ) → ((p : ℕ) → o ≡ some p → p < n) → matched_parent n a b o ≡ o
  parent_low none h = refl
  parent_low (some p) h = ap some (matched_low p (h p refl))

  parent_first : (o : Option ℕ) → ((p : ℕ) → o ≡ some p → p < n + a) → matched_parent n a b o ≡ shift_parent n b o
  parent_first none h = refl
  parent_first (some p) h = ap some (matched_first p (h p refl))

  parent_second : (o : Option ℕ) → matched_parent n a b (shift_parent n a o) ≡ o
  parent_second none = refl
  parent_second (some p) = ap some (matched_second p)

  pub row_low : (r : Row) → ((p : ℕ) → r.parent ≡ some p → p < n) → matched_row n a b r ≡ r
  row_low r h = ap (with_parent r) (parent_low r.parent h)

  pub row_first : (r : Row) → ((p : ℕ) → r.parent ≡ some p → p < n + a) → matched_row n a b r ≡ shift_row n b r
  row_first r h = ap (with_parent r) (parent_first r.parent h)

  pub row_second : (r : Row) → matched_row n a b (shift_row n a r) ≡ r
  row_second r = ap (with_parent r) (parent_second r.parent)

  -- VALUES
  pub all_first : {v : List ℕ} → All (λ i. i < n + a) v → map (shift n b) v ≡ matched_all n a b v
  unfolding matched_all
  all_first nothing = refl
  all_first (also {a = i} h k) = ap₂ (λ j l. j ∷ l) (sym (matched_first i h)) (all_first k)

  pub all_second : (v : List ℕ) → v ≡ matched_all n a b (map (shift n a) v)
  unfolding matched_all
  all_second [] = refl
  all_second (i ∷ is) = ap₂ (λ j l. j ∷ l) (sym (matched_second i)) (all_second is)

  -- HISTORIES
  record_first : (r : Record) → Named (n + a) r → shift_record n b r ≡ matched_record n a b r
  record_first (made i r) (h, k) = ap₂ made (sym (matched_first i h)) (sym (row_first r k))
  record_first (cut i p) (h, k) = ap₂ cut (sym (matched_first i h)) (sym (matched_first p k))

  record_second : (r : Record) → r ≡ matched_record n a b (shift_record n a r)
  record_second (made i r) = ap₂ made (sym (matched_second i)) (sym (row_second r))
  record_second (cut i p) = ap₂ cut (sym (matched_second i)) (sym (matched_second p))

  pub history_first : {h : List Record} → All (Named (n + a)) h → map (shift_record n b) h ≡ matched_history n a b h
  history_first nothing = refl
  history_first (also {a = r} k h) = ap₂ (λ q l. q ∷ l) (record_first r k) (history_first h)

  pub history_second : (h : List Record) → h ≡ matched_history n a b (map (shift_record n a) h)
  history_second [] = refl
  history_second (r ∷ h) = ap₂ (λ q l. q ∷ l) (record_second r) (history_second h)
