-- Laws of `any_up_to`: a test of some number below a count.
use mathlib.Core.Path.{◌≡◌, refl, ap, sym, ◌∙◌}
use mathlib.Core.Bool.{Bool, true, false, ◌&&◌, ◌||◌, false≢true, and-or_distrib_left, or-true}
use mathlib.Core.List.{List}
use Prim.Native.Nat.{ℕ, zero, suc, ◌+◌, ◌<◌, ◌≤◌}
use native.Mathlib.Omega.{arith}
use native.Mathlib.Numerals.{add-one}
use lib.ListN.{length, take}
use lib.Seq.{take-suc}
use Rattle.model.specs.Base.{any}
use Rattle.model.proofs.BoolLaws.{eq_cases, or_swap}
use Rattle.model.proofs.ListLaws.{any_snoc}
use Rattle.paths_positions.specs.Positions.{Entry, plain, nowhere, entry_at}
use Rattle.paths_positions.specs.Answer.{any_up_to}

-- NONE: of no number; of one number more; of any
pub any_up_to_zero : (f : ℕ → Bool) → any_up_to f 0 ≡ false
unfolding any_up_to
any_up_to_zero f = refl

pub any_up_to_next : (f : ℕ → Bool) (n : ℕ) (b : Bool) → any_up_to f n ≡ false → b ≡ f n → b ≡ false → any_up_to f (n + 1) ≡ false
unfolding any_up_to
any_up_to_next f n b e g h = ap (any_up_to f) (add-one n) ∙ ap (λ (x : Bool). x || f n) e ∙ sym g ∙ h

pub any_up_to_none : (f : ℕ → Bool) → ((k : ℕ) → f k ≡ false) → (n : ℕ) → any_up_to f n ≡ false
unfolding any_up_to
any_up_to_none f h zero = refl
any_up_to_none f h (suc n) = ap (λ (x : Bool). x || f n) (any_up_to_none f h n) ∙ h n

-- SOME: one that holds is enough
pub any_up_to_found : (f : ℕ → Bool) (k n : ℕ) → k < n → f k ≡ true → true ≡ any_up_to f n
unfolding any_up_to
any_up_to_found f k zero h e = absurd (omega arith)
any_up_to_found f k (suc n) h e =
    eq_cases k n (λ s. sym (ap (λ (x : Bool). any_up_to f n || x) (ap f (sym s) ∙ e) ∙ or-true (any_up_to f n)))
    (λ s. ap (λ (x : Bool). x || f n) (any_up_to_found f k n (omega (arith, s)) e))

pub any_up_to_false : (f : ℕ → Bool) (n : ℕ) → any_up_to f n ≡ false → (k : ℕ) → k < n → f k ≡ false
any_up_to_false f n e k h = go (f k) refl
  where
    go : (b : Bool) → f k ≡ b → b ≡ false
    go true g = absurd (false≢true (sym e ∙ sym (any_up_to_found f k n h g)))
    go false g = refl

-- THE SAME TEST, two tests, and a test under a condition
pub any_up_to_below : (f g : ℕ → Bool) (n : ℕ) → ((k : ℕ) → k < n → f k ≡ g k) → any_up_to f n ≡ any_up_to g n
unfolding any_up_to
any_up_to_below f g zero h = refl
any_up_to_below f g (suc n) h =
    ap (λ (t : Bool). t || f n) (any_up_to_below f g n (λ k l. h k (omega arith))) ∙
    ap (λ (t : Bool). any_up_to g n || t) (h n (omega arith))

pub any_up_to_same : (f g : ℕ → Bool) (n : ℕ) → ((k : ℕ) → f k ≡ g k) → any_up_to f n ≡ any_up_to g n
any_up_to_same f g n h = any_up_to_below f g n (λ k l. h k)

pub any_up_to_or : (f g : ℕ → Bool) (n : ℕ) → (any_up_to f n || any_up_to g n) ≡ any_up_to (λ (k : ℕ). f k || g k) n
unfolding any_up_to
any_up_to_or f g zero = refl
any_up_to_or f g (suc n) =
    or_swap (any_up_to f n) (f n) (any_up_to g n) (g n) ∙ ap (λ (t : Bool). t || (f n || g n)) (any_up_to_or f g n)

pub any_up_to_and : (a : Bool) (f : ℕ → Bool) (n : ℕ) → (a && any_up_to f n) ≡ any_up_to (λ (k : ℕ). a && f k) n
unfolding any_up_to
any_up_to_and true f zero = refl
any_up_to_and false f zero = refl
any_up_to_and a f (suc n) = and-or_distrib_left a (any_up_to f n) (f n) ∙ ap (λ (t : Bool). t || (a && f n)) (any_up_to_and a f n)

-- OF TWO NUMBERS, in either order
pub any_up_to_swap : (f : ℕ → ℕ → Bool) (n m : ℕ) →
    any_up_to (λ (k : ℕ). any_up_to (f k) m) n ≡ any_up_to (λ (l : ℕ). any_up_to (λ (k : ℕ). f k l) n) m
unfolding any_up_to
any_up_to_swap f zero m = sym (any_up_to_none (λ (l : ℕ). false) (λ l. refl) m)
any_up_to_swap f (suc n) m =
    ap (λ (t : Bool). t || any_up_to (f n) m) (any_up_to_swap f n m) ∙ any_up_to_or (λ (l : ℕ). any_up_to (λ (k : ℕ). f k l) n) (f n) m

-- OF ENTRIES: some entry of the first n
pub any_up_to_any : (f : Entry → Bool) (es : List Entry) (n : ℕ) → n ≤ length es →
    any_up_to (λ (k : ℕ). f (entry_at es k)) n ≡ any f (take n es)
unfolding any_up_to any
any_up_to_any f es zero h = refl
any_up_to_any f es (suc n) h =
    let l : n < length es = omega arith in
    ap (λ (t : Bool). t || f (entry_at es n)) (any_up_to_any f es n (omega arith)) ∙
    sym (ap (any f) (take-suc es n (plain nowhere) l) ∙ any_snoc f (take n es) (entry_at es n))
