-- The rows that pass a test, in rising number: what a step computes. Two such lists agree where their tests do.
use mathlib.Core.Path.{◌≡◌, refl, sym, ◌∙◌, ap, ap₂}
use mathlib.Core.Bool.{Bool, true, false, cond}
use mathlib.Core.List.{[], ◌∷◌, ◌++◌, map, append-nil, map-append}
use Prim.Native.Nat.{ℕ, zero, suc, ◌+◌, ◌<◌, ◌≤◌}
use native.Mathlib.Nat.{zero-add, suc-add, add-zero, add-suc}
use native.Mathlib.Omega.{arith}
use Rattle.model.specs.Base.{All, nothing, also}
use Rattle.model.specs.Step.{collect}
use Rattle.model.proofs.BoolLaws.{cond_cases}
use Rattle.model.proofs.ListLaws.{cond_append, cond_map}
use Rattle.model.proofs.Shift.{shift, shift_low, shift_high}

-- what passes the test
pub collect_all : {P : ℕ → Type 0} (f : ℕ → Bool) (i n : ℕ) → ((j : ℕ) → j < i + n → f j ≡ true → P j) → All P (collect f i n)
unfolding collect
collect_all f i zero h = nothing
collect_all {P} f i (suc n) h =
    let a = collect_all f (suc i) n (λ j k e. h j (omega arith) e) in
    cond_cases (All P) (f i) (λ e. also (h i (omega arith) e) a) (λ e. a)

-- two tests that agree collect the same
pub collect_same : (f g : ℕ → Bool) (i n : ℕ) → ((j : ℕ) → j < i + n → f j ≡ g j) → collect f i n ≡ collect g i n
unfolding collect
collect_same f g i zero h = refl
collect_same f g i (suc n) h =
    ap₂ (λ z l. cond z (i ∷ l) l) (h i (omega arith)) (collect_same f g (suc i) n (λ j k. h j (omega arith)))

-- JOINED
pub collect_append : (f : ℕ → Bool) (i a b : ℕ) → collect f i (a + b) ≡ collect f i a ++ collect f (i + a) b
unfolding collect
collect_append f i zero b = rw (zero-add, add-zero)
collect_append f i (suc a) b =
    rw (suc-add a b, add-suc i a)
    (ap (λ l. cond (f i) (i ∷ l) l)
    (collect_append f (suc i) a b ∙ ap (λ k. collect f (suc i) a ++ collect f k b) (suc-add i a)) ∙
    cond_append (f i) i (collect f (suc i) a) (collect f (suc (i + a)) b))

pub collect_none : (f : ℕ → Bool) (i n : ℕ) → ((j : ℕ) → i ≤ j → j < i + n → f j ≡ false) → collect f i n ≡ []
unfolding collect
collect_none f i zero h = refl
collect_none f i (suc n) h =
    rw (h i (omega arith) (omega arith))
    (collect_none f (suc i) n (λ j a b. h j (omega arith) (omega arith)))

-- RAISED by c
collect_raise : (f g : ℕ → Bool) (h : ℕ → ℕ) (i c n : ℕ) → ((j : ℕ) → i ≤ j → j < i + n → (h j ≡ j + c) × (f j ≡ g (j + c))) →
    map h (collect f i n) ≡ collect g (i + c) n
unfolding collect
collect_raise f g h i c zero k = refl
collect_raise f g h i c (suc n) k =
    let a : (h i ≡ i + c) × (f i ≡ g (i + c)) = k i (omega arith) (omega arith) in
    let r : map h (collect f (suc i) n) ≡ collect g (suc (i + c)) n =
    collect_raise f g h (suc i) c n (λ j p q. k j (omega arith) (omega arith)) ∙
    ap (λ m. collect g m n) (suc-add i c) in
    cond_map h (f i) i (collect f (suc i) n) ∙ rw (a.0, a.1, r)

-- THE TWO LISTS: tests that agree up to the shift, the second passing none of the rows in between
pub collect_shift : (f g : ℕ → Bool) (n m k : ℕ) → ((j : ℕ) → j < n + k → f j ≡ g (shift n m j)) →
    ((j : ℕ) → n ≤ j → j < n + m → g j ≡ false) → map (shift n m) (collect f 0 (n + k)) ≡ collect g 0 (n + m + k)
collect_shift f g n m k same hid =
    ap (map (shift n m)) (collect_append f 0 n k) ∙ map-append (shift n m) (collect f 0 n) (collect f (0 + n) k) ∙
    ap₂ (λ a b. a ++ b) low high ∙ sym (collect_append g 0 (n + m) k ∙ ap₂ (λ a b. a ++ b) middle last)
  where
    low : map (shift n m) (collect f 0 n) ≡ collect g 0 n
    low =
        collect_raise f g (shift n m) 0 0 n
        (λ j a b. (
          shift_low n m j (omega arith) ∙ sym (add-zero j),
          same j (omega arith) ∙ ap g (shift_low n m j (omega arith) ∙ sym (add-zero j)),
        ))

    high : map (shift n m) (collect f (0 + n) k) ≡ collect g (0 + n + m) k
    high =
        collect_raise f g (shift n m) (0 + n) m k
        (λ j a b.
        (shift_high n m j (omega arith), same j (omega arith) ∙ ap g (shift_high n m j (omega arith))))

    middle : collect g 0 (n + m) ≡ collect g 0 n
    middle =
        collect_append g 0 n m ∙
        ap (λ l. collect g 0 n ++ l)
        (collect_none g (0 + n) m (λ j a b. hid j (omega arith) (omega arith))) ∙
        append-nil (collect g 0 n)

    last : collect g (0 + (n + m)) k ≡ collect g (0 + n + m) k
    last = ap (λ j. collect g j k) (omega arith)
