-- Tests taken apart and put together: what follows from a computed 'and', 'or', 'not' or choice, and what each follows from.
use mathlib.Core.Path.{◌≡◌, refl, sym}
use mathlib.Core.Bool.{Bool, true, false, ◌&&◌, ◌||◌, true≢false, false≢true, cond}
use mathlib.Core.Logic.{◌⊎◌, inl, inr}
use Prim.Native.Nat.{ℕ, suc, ◌≤◌}
use native.Mathlib.Omega.{arith}
use lib.Dec.{eqb}
use borrow.Author.Tests.{eq-eqb, ne_eqb, eqb-true, eqb-false}
use Rattle.model.specs.Base.{bit}

pub and_left : (a b : Bool) → (a && b) ≡ true → a ≡ true
and_left true b e = refl
and_left false b e = e

pub and_right : (a b : Bool) → (a && b) ≡ true → b ≡ true
and_right true b e = e
and_right false true e = refl
and_right false false e = e

pub and_both : (a b : Bool) → a ≡ true → b ≡ true → (a && b) ≡ true
and_both true b e f = f
and_both false b e f = e

pub or_left : (a b : Bool) → a ≡ true → (a || b) ≡ true
or_left true b e = refl
or_left false true e = refl
or_left false false e = e

pub or_right : (a b : Bool) → b ≡ true → (a || b) ≡ true
or_right true b e = refl
or_right false b e = e

pub or_cases : (a b : Bool) → (a || b) ≡ true → (a ≡ true) ⊎ (b ≡ true)
or_cases true b e = inl refl
or_cases false b e = inr e

pub or_neither : (a b : Bool) → (a || b) ≡ false → (a ≡ false) × (b ≡ false)
or_neither true true e = (e, e)
or_neither true false e = (e, refl)
or_neither false b e = (refl, e)

-- by which a test of unknown value is taken apart
pub bool_cases : (a : Bool) → (a ≡ true) ⊎ (a ≡ false)
bool_cases true = inl refl
bool_cases false = inr refl

-- no test is both
pub true_false : (a : Bool) → a ≡ true → a ≡ false → ⊥
true_false true e f = true≢false f
true_false false e f = false≢true e

pub cond_true : {A : Type 0} (t : Bool) (x y : A) → t ≡ true → cond t x y ≡ x
cond_true t x y e = rw e

pub cond_false : {A : Type 0} (t : Bool) (x y : A) → t ≡ false → cond t x y ≡ y
cond_false t x y e = rw e

-- a choice by two numbers
pub cond_eq : {A : Type 0} {m n : ℕ} (x y : A) → m ≡ n → cond (eqb m n) x y ≡ x
cond_eq x y e = rw (eq-eqb _ _ e)

pub cond_ne : {A : Type 0} {m n : ℕ} (x y : A) → (m ≡ n → ⊥) → cond (eqb m n) x y ≡ y
cond_ne x y h = rw (ne_eqb _ _ h)

-- a property of a choice, from that of each side
pub cond_cases : {A : Type 0} (P : A → Type 0) (t : Bool) {x y : A} → (t ≡ true → P x) → (t ≡ false → P y) → P (cond t x y)
cond_cases P true f g = f refl
cond_cases P false f g = g refl

-- two choices by one test are related, from each side
pub cond_related : {A : Type 0} (R : A → A → Type 0) (t : Bool) {x x' y y' : A} → (t ≡ true → R x x') → (t ≡ false → R y y') →
    R (cond t x y) (cond t x' y')
cond_related R true f g = f refl
cond_related R false f g = g refl

-- a proof by cases on a test
pub by_cases : {P : Type 0} (t : Bool) → (t ≡ true → P) → (t ≡ false → P) → P
by_cases true f g = f refl
by_cases false f g = g refl

-- on two numbers
pub eq_cases : {P : Type 0} (m n : ℕ) → (m ≡ n → P) → ((m ≡ n → ⊥) → P) → P
eq_cases m n f g = by_cases (eqb m n) (λ e. f (eqb-true m n e)) (λ e. g (eqb-false m n e))

-- on a number that is at most another: it is that one, or at most the one before
pub below : {P : Type 0} (k m : ℕ) → k ≤ suc m → (k ≡ suc m → P) → (k ≤ m → P) → P
below k m h f g = eq_cases k (suc m) f (λ e. g (omega (arith, e)))

-- two tests that follow from one another are equal
pub bool_iff : (a b : Bool) → (a ≡ true → b ≡ true) → (b ≡ true → a ≡ true) → a ≡ b
bool_iff true b f g = sym (f refl)
bool_iff false true f g = g refl
bool_iff false false f g = refl

-- so are the tests of two pairs of numbers
pub eqb_iff : (i j m n : ℕ) → (i ≡ j → m ≡ n) → (m ≡ n → i ≡ j) → eqb i j ≡ eqb m n
eqb_iff i j m n f g =
    bool_iff (eqb i j) (eqb m n) (λ e. eq-eqb m n (f (eqb-true i j e))) (λ e. eq-eqb i j (g (eqb-true m n e)))

-- four tests, the middle two exchanged
pub or_swap : (a b c d : Bool) → ((a || b) || (c || d)) ≡ ((a || c) || (b || d))
or_swap true b c d = refl
or_swap false true true d = refl
or_swap false true false d = refl
or_swap false false c d = refl

-- a test as a number
pub bit_le : (t : Bool) → bit t ≤ 1
bit_le true = omega arith
bit_le false = omega arith
