-- Row numbers from n on raised by m: of rows, parents, values and records.
use mathlib.Core.Path.{◌≡◌, refl, ap}
use mathlib.Core.Bool.{cond}
use mathlib.Core.Logic.{◌⊎◌, inl, inr}
use mathlib.Core.Option.{Option, none, some}
use Prim.Native.Nat.{ℕ, ◌+◌, ◌<◌, ◌≤◌}
use native.Mathlib.Omega.{arith}
use native.Mathlib.Decide.{dec_lt}
use lib.Dec.{ltb}
use borrow.Author.Tests.{lt-ltb, le-ltb}
use Rattle.model.specs.Table.{Row, with_parent}
use Rattle.model.specs.History.{Record, made, cut}

abbrev pub shift : (n m row : ℕ) → ℕ
shift n m i = cond (ltb i n) i (i + m)

abbrev pub shift_parent : (n m : ℕ) → Option ℕ → Option ℕ
shift_parent n m none = none
shift_parent n m (some p) = some (shift n m p)

abbrev pub shift_row : (n m : ℕ) → Row → Row
shift_row n m r = with_parent r (shift_parent n m r.parent)

abbrev pub shift_record : (n m : ℕ) → Record → Record
shift_record n m (made i r) = made (shift n m i) (shift_row n m r)
shift_record n m (cut i p) = cut (shift n m i) (shift n m p)

pub shift_low : (n m i : ℕ) → i < n → shift n m i ≡ i
shift_low n m i h = rw (lt-ltb i n h)

pub shift_high : (n m i : ℕ) → n ≤ i → shift n m i ≡ i + m
shift_high n m i h = rw (le-ltb i n h)

-- the two cases, for counting
pub shift_cases : (n m i : ℕ) → ((i < n) × (shift n m i ≡ i)) ⊎ ((n ≤ i) × (shift n m i ≡ i + m))
shift_cases n m i = go (dec_lt i n)
  where
    go : Dec (i < n) → ((i < n) × (shift n m i ≡ i)) ⊎ ((n ≤ i) × (shift n m i ≡ i + m))
    go (yes h) = inl (h, shift_low n m i h)
    go (no h) =
        let k : n ≤ i = omega arith in
        inr (k, shift_high n m i k)

pub shift_injective : (n m i j : ℕ) → shift n m i ≡ shift n m j → i ≡ j
shift_injective n m i j e = go (shift_cases n m i) (shift_cases n m j)
  where
    go : ((i < n) × (shift n m i ≡ i)) ⊎ ((n ≤ i) × (shift n m i ≡ i + m)) → ((j < n) × (shift n m j ≡ j)) ⊎
        ((n ≤ j) × (shift n m j ≡ j + m)) →
        i ≡ j
    go (inl a) (inl b) = omega arith
    go (inl a) (inr b) = omega arith
    go (inr a) (inl b) = omega arith
    go (inr a) (inr b) = omega arith

-- below n nothing changes
pub shift_row_low : (n m : ℕ) (r : Row) → ((p : ℕ) → r.parent ≡ some p → p < n) → shift_row n m r ≡ r
shift_row_low n m r h = ap (with_parent r) (go r.parent refl)
  where
    go : (o : Option ℕ) → r.parent ≡ o → shift_parent n m o ≡ o
    go none e = refl
    go (some p) e = ap some (shift_low n m p (h p e))
