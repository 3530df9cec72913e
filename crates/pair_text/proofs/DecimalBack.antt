-- A number in decimal is read back from its digits, and no zero stands in front.
use mathlib.Core.Path.{◌≡◌, refl, ap, sym, subst, ◌∙◌}
use mathlib.Core.Bool.{true}
use mathlib.Core.List.{List, [], ◌∷◌, ◌++◌}
use Prim.Native.Nat.{ℕ, zero, suc, ◌+◌, ◌-◌, ◌*◌, ◌/◌, ◌%◌, ◌^◌, ◌<◌}
use native.Mathlib.Nat.{pow-suc}
use native.Mathlib.Omega.{arith}
use lib.Dec.{ltb}
use lib.ListN.{length, get_or, length-append, get_or-append}
use borrow.Author.Tests.{lt-ltb, le-leb, ltb-true, ltb-false}
use Rattle.model.specs.Base.{is_in, all}
use Rattle.model.proofs.BoolLaws.{by_cases, and_left, and_right, and_both}
use Rattle.pair_text.specs.Text.{last_digit, digits, value_from, DecimalBack}
use Rattle.pair_text.proofs.TextLaws.{digits_low, digits_high}

value_last : (v : ℕ) (ds : List ℕ) (d : ℕ) → value_from v (ds ++ (d ∷ [])) ≡ 10 * value_from v ds + (d - 48)
unfolding value_from
value_last v [] d = refl
value_last v (e ∷ ds) d = value_last (10 * v + (e - 48)) ds d

value_one : (n : ℕ) → value_from 0 ((48 + n) ∷ []) ≡ n
unfolding value_from
value_one n = omega arith

value_digits : (k n : ℕ) → n < 10 ^ suc k → value_from 0 (digits (suc k) n) ≡ n
value_digits zero n h = ap (value_from 0) (digits_low 0 n (lt-ltb n 10 (omega (arith, h)))) ∙ value_one n
value_digits (suc k) n h =
    by_cases (ltb n 10) (λ l. ap (value_from 0) (digits_low (suc k) n l) ∙ value_one n)
    (λ l.
    let e : value_from 0 (digits (suc k) (n / 10)) ≡ n / 10 = value_digits k (n / 10) (omega (arith, h, pow-suc 10 (suc k))) in
    ap (value_from 0) (digits_high (suc k) n l) ∙ value_last 0 (digits (suc k) (n / 10)) (last_digit n) ∙ omega (arith, e))

is_digit : (d : ℕ) → d < 10 → is_in 48 57 (48 + d) ≡ true
is_digit d h = rw (le-leb 48 (48 + d) (omega arith), le-leb (48 + d) 57 (omega arith))

all_one : (d : ℕ) → d < 10 → all (is_in 48 57) ((48 + d) ∷ []) ≡ true
unfolding all
all_one d h = rw (is_digit d h)

all_last : (ds : List ℕ) (d : ℕ) → all (is_in 48 57) ds ≡ true → is_in 48 57 d ≡ true → all (is_in 48 57) (ds ++ (d ∷ [])) ≡ true
unfolding all
all_last [] d e h = rw h
all_last (c ∷ ds) d e h =
    and_both (is_in 48 57 c) (all (is_in 48 57) (ds ++ (d ∷ []))) (and_left (is_in 48 57 c) (all (is_in 48 57) ds) e)
    (all_last ds d (and_right (is_in 48 57 c) (all (is_in 48 57) ds) e) h)

all_digits : (k n : ℕ) → all (is_in 48 57) (digits k n) ≡ true
unfolding all digits
all_digits zero n = refl
all_digits (suc k) n =
    by_cases (ltb n 10) (λ l. ap (all (is_in 48 57)) (digits_low k n l) ∙ all_one n (ltb-true n 10 l))
    (λ l.
    ap (all (is_in 48 57)) (digits_high k n l) ∙
    all_last (digits k (n / 10)) (last_digit n) (all_digits k (n / 10)) (is_digit (n % 10) (omega arith)))

some_digits : (k n : ℕ) → 0 < length (digits (suc k) n)
some_digits k n =
    by_cases (ltb n 10) (λ l. omega (arith, ap length (digits_low k n l)))
    (λ l. omega (arith, ap length (digits_high k n l), length-append (digits k (n / 10)) (last_digit n ∷ [])))

first_digit : (k n : ℕ) → 0 < n → n < 10 ^ suc k → 48 < get_or (digits (suc k) n) 0 0
first_digit zero n p h = subst (λ (ds : List ℕ). 48 < get_or ds 0 0) (sym (digits_low 0 n (lt-ltb n 10 (omega (arith, h))))) (omega arith)
first_digit (suc k) n p h =
    by_cases (ltb n 10) (λ l. subst (λ (ds : List ℕ). 48 < get_or ds 0 0) (sym (digits_low (suc k) n l)) (omega arith))
    (λ l.
    subst (λ (ds : List ℕ). 48 < get_or ds 0 0) (sym (digits_high (suc k) n l))
    (subst (λ (d : ℕ). 48 < d) (sym (get_or-append (digits (suc k) (n / 10)) (last_digit n ∷ []) 0 0 (some_digits k (n / 10))))
    (first_digit k (n / 10) (omega (arith, ltb-false n 10 l)) (omega (arith, h, pow-suc 10 (suc k))))))

pub decimal_back : DecimalBack
decimal_back n h = (
  value_digits 19 n (omega arith),
  all_digits 20 n,
  λ l. ap length (digits_low 19 n (lt-ltb n 10 l)),
  λ l. first_digit 19 n (omega arith) (omega arith),
)
