-- When a chain of checks refuses nothing: every check in it holds. And which numbers there are.
use mathlib.Core.Path.{◌≡◌, refl, sym, ap, ◌∙◌, subst}
use mathlib.Core.Bool.{Bool, true, false, ◌&&◌}
use Prim.Native.Nat.{ℕ, suc, ◌≤◌}
use native.Mathlib.Omega.{arith}
use lib.Dec.{leb, eqb, eqb-suc-zero}
use borrow.Author.Tests.{leb-true, le-leb, eqb-true}
use Rattle.model.specs.Refusal.{Refusal, refusal, is_listed, is_of_run, is_fine, or_else, unless}
use Rattle.model.proofs.BoolLaws.{by_cases}

is_fine_or_else : (x y : Refusal) → is_fine (or_else x y) ≡ (is_fine x && is_fine y)
is_fine_or_else x y = go (is_fine x) refl
  where
    go : (t : Bool) → is_fine x ≡ t → is_fine (or_else x y) ≡ (is_fine x && is_fine y)
    go true e = rw e
    go false e = rw (e, e)

-- no refusal has the number 0
pub is_fine_unless : (z : Bool) (n i : ℕ) → is_fine (unless z (refusal (suc n) i)) ≡ z
is_fine_unless true n i = refl
is_fine_unless false n i = eqb-suc-zero n

-- a check before the others
pub is_fine_check : (z : Bool) (n i : ℕ) (y : Refusal) → is_fine (or_else (unless z (refusal (suc n) i)) y) ≡ (z && is_fine y)
is_fine_check z n i y = is_fine_or_else (unless z (refusal (suc n) i)) y ∙ ap (λ (t : Bool). t && is_fine y) (is_fine_unless z n i)

-- THE TABLE'S NUMBERS: 1 to 8 are among them, and none is above 11
pub is_listed_low : (n : ℕ) → n ≤ 8 → is_listed n ≡ true
is_listed_low n h = rw (le-leb n 8 h)

pub is_listed_high : (n : ℕ) → is_listed n ≡ true → n ≤ 11
is_listed_high n e =
    by_cases (leb n 8) (λ h. omega (arith, leb-true n 8 h))
    (λ h. by_cases (eqb n 10) (λ i. omega (arith, eqb-true n 10 i)) (λ i. omega (arith, eqb-true n 11 (rw (h, i) at e))))

-- A RUN'S OWN NUMBERS: 7, 8 and 10
pub is_of_run_cases : (P : ℕ → Type 0) (n : ℕ) → is_of_run n ≡ true → P 7 → P 8 → P 10 → P n
is_of_run_cases P n e a b c =
    by_cases (eqb n 7) (λ h. subst P (sym (eqb-true n 7 h)) a)
    (λ h. by_cases (eqb n 8) (λ i. subst P (sym (eqb-true n 8 i)) b)
    (λ i. subst P (sym (eqb-true n 10 (rw (h, i) at e))) c))

-- none of them is 0
pub is_of_run_some : (n : ℕ) → is_of_run n ≡ true → n ≡ 0 → ⊥
is_of_run_some n e = is_of_run_cases (λ (k : ℕ). k ≡ 0 → ⊥) n e (λ z. omega arith) (λ z. omega arith) (λ z. omega arith)
