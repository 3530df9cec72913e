-- Values in the work area: cut, joined, kept where the area below is kept, and appended.
use mathlib.Core.Path.{◌≡◌, refl, ap, sym, ◌∙◌}
use mathlib.Core.Logic.{◌⊎◌, inl, inr}
use mathlib.Core.List.{List, [], ◌∷◌, ◌++◌}
use Prim.Native.Nat.{ℕ, ◌+◌, ◌-◌, ◌≤◌, ◌<◌}
use native.Mathlib.Omega.{arith}
use lib.Dec.{ltb}
use lib.ListN.{length, get_or, take, drop, set, length-drop, length-set, length-append, get_or-append}
use lib.Seq.{take-take, take-add, take_at, drop_at, drop-drop, drop-cons, length-take-le}
use lib.Seq.{get_or-set_same, get_or-set_other, get_or-take, get_or-drop, get_or-append-add, ext_get_or}
use borrow.Author.Tests.{ltb-true, ltb-false}
use Rattle.model.proofs.BoolLaws.{by_cases, eq_cases}
use Rattle.model.specs.Run.{AreRows}
use Rattle.model.proofs.All.{all_at}
use Rattle.model.proofs.ListLaws.{drop_take}
use Rattle.plan_table.specs.Flags.{Within}
use Rattle.run_query.specs.Values.{value_at, Appended}
use Rattle.run_operators.specs.Evaluating.{CopyPre}

-- what is below a place, and a value there, is kept where the area below a higher place is
pub below_same : (w w' : List ℕ) (t i : ℕ) → take t w' ≡ take t w → i ≤ t → take i w' ≡ take i w
below_same w w' t i e l = sym (take-take i t w' l) ∙ ap (take i) e ∙ take-take i t w l

pub value_same : (w w' : List ℕ) (t i j : ℕ) → take t w' ≡ take t w → j ≤ t → value_at w' i j ≡ value_at w i j
value_same w w' t i j e m = rw (← drop_take i j w', ← drop_take i j w, below_same w w' t j e m)

-- the length, one, two one behind the other
pub length_value : (w : List ℕ) (i j : ℕ) → i ≤ j → j ≤ length w → length (value_at w i j) ≡ j - i
length_value w i j l m =
    let k : j - i ≤ length (drop i w) = omega (arith, length-drop i w) in
    length-take-le (j - i) (drop i w) k

pub value_one : (w : List ℕ) (i j : ℕ) → j - i ≡ 1 → i < length w → value_at w i j ≡ get_or w i 0 ∷ []
value_one w i j e l = ap (λ (k : ℕ). take k (drop i w)) e ∙ ap (take 1) (drop-cons w i 0 l)

pub value_append : (w : List ℕ) (i j k : ℕ) → i ≤ j → j ≤ k → value_at w i j ++ value_at w j k ≡ value_at w i k
value_append w i j k l m =
    let e : (j - i) + (k - j) ≡ k - i = omega arith in
    let g : i + (j - i) ≡ j = omega arith in
    sym (ap (λ (n : ℕ). take n (drop i w)) (sym e) ∙ take-add (j - i) (k - j) (drop i w) ∙
    ap (λ (v : List ℕ). value_at w i j ++ take (k - j) v) (drop-drop (j - i) i w ∙ ap (λ (n : ℕ). drop n w) g))

-- APPENDED at a place: the value there, and what is below
module _ {v w : List ℕ} {from : ℕ} {w' : List ℕ} {r : ℕ} (a : Appended v w from w' r) (l : from ≤ length w) where
  pub appended_value : value_at w' from r ≡ v
  appended_value =
      sym (drop_take from r w') ∙ ap (drop from) a.front ∙ drop_at (take from w) v from (length-take-le from w l)

  pub appended_below : take from w' ≡ take from w
  appended_below =
      let m : from ≤ r = omega (arith, a.end) in
      sym (take-take from r w' m) ∙ ap (take from) a.front ∙ take_at (take from w) v from (length-take-le from w l)

-- ROWS, at each index
pub rows_within : {n : ℕ} {v : List ℕ} → AreRows n v → Within v n
rows_within a k = all_at 0 k a

-- COPIED item by item; so far: up to k it is copied, the rest of the area is as it was
pub record Copying (w : List ℕ) (from to top : ℕ) (w' : List ℕ) (k at : ℕ) : Type 0 where
  pub size : length w' ≡ length w
  pub low : from ≤ k
  pub high : k ≤ to
  pub place : at + from ≡ top + k
  pub done : (i : ℕ) → top ≤ i → i < at → get_or w' i 0 ≡ get_or w (from + (i - top)) 0
  pub front : (i : ℕ) → i < top → get_or w' i 0 ≡ get_or w i 0
  pub rest : (i : ℕ) → at ≤ i → get_or w' i 0 ≡ get_or w i 0

pub copying_start : {w : List ℕ} {from to top : ℕ} → CopyPre w from to top → Copying w from to top w from top
copying_start p =
    record {
      size = refl;
      low = omega arith;
      high = p.order;
      place = refl;
      done = λ i l m. absurd (omega arith);
      front = λ i l. refl;
      rest = λ i l. refl;
    }

module _ {w : List ℕ} {from to top : ℕ} (p : CopyPre w from to top) {w' : List ℕ} {k at : ℕ} (c : Copying w from to top w' k at) where
  -- the item at k is still the one that it was
  source : k < to → get_or w' k 0 ≡ get_or w k 0
  source l = go p.apart
    where
      go : (top ≤ from) ⊎ (to ≤ top) → get_or w' k 0 ≡ get_or w k 0
      go (inl h) = c.rest k (omega (arith, c.place, c.low))
      go (inr h) = c.front k (omega arith)

  pub copying_next : k < to → Copying w from to top (set w' at (get_or w' k 0)) (k + 1) (at + 1)
  copying_next l =
      record {
        size = length-set w' at (get_or w' k 0) ∙ c.size;
        low = omega (arith, c.low);
        high = omega arith;
        place = omega (arith, c.place);
        done = done';
        front = λ i m.
            let n : i ≡ at → ⊥ = λ e. omega (arith, c.place, c.low) in
            get_or-set_other w' at i (get_or w' k 0) 0 n ∙ c.front i m;
        rest = λ i m.
            let n : i ≡ at → ⊥ = λ e. omega arith in
            get_or-set_other w' at i (get_or w' k 0) 0 n ∙ c.rest i (omega arith);
      }
    where
      here : at < length w'
      here = omega (arith, p.room, p.within, c.place, c.size)

      done' : (i : ℕ) → top ≤ i → i < at + 1 → get_or (set w' at (get_or w' k 0)) i 0 ≡ get_or w (from + (i - top)) 0
      done' i m n = eq_cases i at new old
        where
          new : i ≡ at → get_or (set w' at (get_or w' k 0)) i 0 ≡ get_or w (from + (i - top)) 0
          new e =
              let g : k ≡ from + (i - top) = omega (arith, c.place, c.low) in
              ap (λ (j : ℕ). get_or (set w' at (get_or w' k 0)) j 0) e ∙ get_or-set_same w' at (get_or w' k 0) 0 here ∙ source l ∙
              ap (λ (j : ℕ). get_or w j 0) g

          old : (i ≡ at → ⊥) → get_or (set w' at (get_or w' k 0)) i 0 ≡ get_or w (from + (i - top)) 0
          old e =
              let g : i < at = omega arith in
              get_or-set_other w' at i (get_or w' k 0) 0 e ∙ c.done i m g

  pub copying_all : to ≤ k → Appended (value_at w from to) w top w' at
  copying_all l =
      record {
        front = ext_get_or 0 (take at w') (take top w ++ value_at w from to) (size ∙ sym total) each;
        end = total';
      }
    where
      value_size : length (value_at w from to) ≡ to - from
      value_size = length_value w from to p.order p.within

      top_size : length (take top w) ≡ top
      top_size = length-take-le top w (omega (arith, p.room))

      total' : at ≡ top + length (value_at w from to)
      total' = omega (arith, c.place, c.high, c.low, value_size)

      size : length (take at w') ≡ at
      size = length-take-le at w' (omega (arith, p.room, c.size, total', value_size))

      total : length (take top w ++ value_at w from to) ≡ at
      total = omega (arith, length-append (take top w) (value_at w from to), top_size, total')

      each : (i : ℕ) → i < length (take at w') → get_or (take at w') i 0 ≡ get_or (take top w ++ value_at w from to) i 0
      each i m =
          let n : i < at = omega (arith, size) in
          get_or-take at w' i 0 n ∙ by_cases (ltb i top) (λ e. low i (ltb-true i top e)) (λ e. high i (ltb-false i top e) n)
        where
          low : (i : ℕ) → i < top → get_or w' i 0 ≡ get_or (take top w ++ value_at w from to) i 0
          low i h =
              c.front i h ∙ sym (get_or-take top w i 0 h) ∙
              sym (get_or-append (take top w) (value_at w from to) 0 i (omega (arith, top_size)))

          high : (i : ℕ) → top ≤ i → i < at → get_or w' i 0 ≡ get_or (take top w ++ value_at w from to) i 0
          high i h n =
              let g : i - top < to - from = omega (arith, c.place, c.high) in
              let e : top + (i - top) ≡ i = omega arith in
              c.done i h n ∙ sym (get_or-drop from w (i - top) 0) ∙ sym (get_or-take (to - from) (drop from w) (i - top) 0 g) ∙
              sym (ap (λ (j : ℕ). get_or (take top w ++ value_at w from to) j 0) (sym e ∙ ap (λ (j : ℕ). j + (i - top)) (sym top_size)) ∙
              get_or-append-add (take top w) (value_at w from to) (i - top) 0)
