-- A text placed in an area: one byte, one text after another, a number digit by digit.
use mathlib.Core.Path.{◌≡◌, refl, ap, sym, subst, ◌∙◌}
use mathlib.Core.Bool.{true, false}
use mathlib.Core.List.{List, [], ◌∷◌, ◌++◌}
use Prim.Native.Nat.{ℕ, zero, suc, ◌+◌, ◌/◌, ◌^◌, ◌≤◌, ◌<◌}
use native.Mathlib.Nat.{pow-suc}
use native.Mathlib.Numerals.{add-one}
use native.Mathlib.Omega.{arith}
use lib.Dec.{ltb}
use lib.ListN.{length, take, drop, set, length-append}
use lib.Seq.{append_snoc, set_split}
use borrow.Author.Tests.{lt-ltb, le-ltb}
use Rattle.model.specs.Base.{over}
use Rattle.model.proofs.BoolLaws.{by_cases}
use Rattle.model.proofs.ListLaws.{over_over}
use Rattle.pair_text.specs.Text.{ascii, last_digit, digits, decimal, Placed, Number, Field}

-- ONE BYTE
placed_byte : (o : List ℕ) (i x : ℕ) → i < length o → Placed o i (x ∷ []) (set o i x) (i + 1)
placed_byte o i x h =
    record {
      area =
          set_split o i x h ∙ ap (λ (n : ℕ). take i o ++ x ∷ drop n o) (sym (add-one i)) ∙ sym (append_snoc (take i o) x (drop (i + 1) o));
      next = refl;
    }

-- ONE TEXT AFTER ANOTHER
pub placed_then : {o s t o' o'' : List ℕ} {i r q : ℕ} → i ≤ length o → Placed o i s o' r → Placed o' r t o'' q → Placed o i (s ++ t) o'' q
placed_then {o} {s} {t} {i = i} {r = r} h a b =
    record {
      area =
          b.area ∙ ap (over r t) a.area ∙ ap (λ (n : ℕ). over n t (over i s o)) a.next ∙ over_over i s t o h;
      next = omega (arith, length-append s t, a.next, b.next);
    }

-- DIGITS
pub digits_low : (k n : ℕ) → ltb n 10 ≡ true → digits (suc k) n ≡ (48 + n) ∷ []
unfolding digits
digits_low k n h = rw h

pub digits_high : (k n : ℕ) → ltb n 10 ≡ false → digits (suc k) n ≡ digits k (n / 10) ++ (last_digit n ∷ [])
unfolding digits
digits_high k n h = rw h

length_digits : (k n : ℕ) → length (digits k n) ≤ k
unfolding digits
length_digits zero n = omega arith
length_digits (suc k) n =
    by_cases (ltb n 10) (λ h. rw h (omega arith))
    (λ h. rw h (omega (arith, length-append (digits k (n / 10)) (last_digit n ∷ []), length_digits k (n / 10))))

-- fuel for as many digits as there are makes no difference
digits_fuel : (k n : ℕ) → n < 10 ^ suc k → digits (suc k) n ≡ digits (suc (suc k)) n
digits_fuel zero n h =
    let low : ltb n 10 ≡ true = lt-ltb n 10 (omega (arith, h)) in
    digits_low 0 n low ∙ sym (digits_low 1 n low)
digits_fuel (suc k) n h =
    by_cases (ltb n 10) (λ low. digits_low (suc k) n low ∙ sym (digits_low (suc (suc k)) n low))
    (λ high.
    digits_high (suc k) n high ∙
    ap (λ (x : List ℕ). x ++ (last_digit n ∷ [])) (digits_fuel k (n / 10) (omega (arith, h, pow-suc 10 (suc k)))) ∙
    sym (digits_high (suc (suc k)) n high))

-- NUMBERS of 64 bits
decimal_low : (n : ℕ) → n < 10 → decimal n ≡ (48 + n) ∷ []
decimal_low n h = digits_low 19 n (lt-ltb n 10 h)

module _ (n : ℕ) (fits : n < 18446744073709551616) where
  shorter : digits 19 (n / 10) ≡ decimal (n / 10)
  shorter = digits_fuel 18 (n / 10) (omega arith)

  decimal_high : 10 ≤ n → decimal n ≡ decimal (n / 10) ++ (last_digit n ∷ [])
  decimal_high h = digits_high 19 n (le-ltb n 10 h) ∙ ap (λ (x : List ℕ). x ++ (last_digit n ∷ [])) shorter

  decimal_shorter : length (decimal (n / 10)) ≤ 19
  decimal_shorter = omega (arith, length_digits 19 (n / 10), ap length shorter)

number_placed : {o o' : List ℕ} {i n r : ℕ} → Placed o i (decimal n) o' r → Number o i n o' r
number_placed {n = n} p = record { text = p; few = omega (arith, length_digits 20 n, p.next) }

pub number_low : (o : List ℕ) (i n : ℕ) → n < 10 → i < length o → Number o i n (set o i (48 + n)) (i + 1)
number_low o i n h k =
    number_placed (subst (λ (s : List ℕ). Placed o i s (set o i (48 + n)) (i + 1)) (sym (decimal_low n h)) (placed_byte o i (48 + n) k))

module _ (o o' : List ℕ) (i n r : ℕ) (fits : n < 18446744073709551616) (p : Number o i (n / 10) o' r) where
  pub number_room : r < i + 20
  number_room = omega (arith, p.text.next, decimal_shorter n fits)

  pub number_high : 10 ≤ n → i + 20 ≤ length o → length o' ≡ length o → Number o i n (set o' r (last_digit n)) (r + 1)
  number_high h k l =
      number_placed
      (subst (λ (s : List ℕ). Placed o i s (set o' r (last_digit n)) (r + 1)) (sym (decimal_high n fits h))
      (placed_then (omega arith) p.text (placed_byte o' r (last_digit n) (omega (arith, number_room)))))

-- a field: a space and a number
pub field_placed : {o o₁ o₂ : List ℕ} {i n k r : ℕ} → i ≤ length o → Placed o i (ascii " ") o₁ n → Number o₁ n k o₂ r → Field o i k o₂ r
field_placed h p q = record { text = placed_then h p q.text; few = omega (arith, p.next, q.few) }
