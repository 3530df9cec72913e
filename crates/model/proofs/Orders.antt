-- The plans of the two orders are equal under the matching, row for row.
use mathlib.Core.Path.{◌≡◌, sym, ◌∙◌, ap, subst}
use mathlib.Core.Logic.{◌⊎◌, inl, inr}
use mathlib.Core.List.{List}
use mathlib.Core.Option.{some}
use Prim.Native.Nat.{ℕ, ◌+◌, ◌-◌, ◌<◌, ◌≤◌}
use native.Mathlib.Omega.{arith}
use native.Mathlib.Decide.{dec_lt}
use Rattle.model.specs.Table.{Row, Table, row_at, count}
use Rattle.model.specs.Run.{State}
use Rattle.model.specs.Promise.{matched, matched_row}
use Rattle.model.proofs.Labels.{Label}
use Rattle.model.proofs.Shift.{shift, shift_row, shift_high}
use Rattle.model.proofs.Twin.{Twin}
use Rattle.model.proofs.TwinLaws.{one_count_lem, two_count}
use Rattle.model.proofs.Beside.{Left, left_count, beside, unlinked, Settled, made_stays, plan_settled}
use Rattle.model.proofs.Matching.{matched_low, matched_first, matched_second, row_low, row_first, row_second}

-- ONE ORDER: the first script leaves l of plan x; the next makes u of the plan alone, and t of what was left
abbrev made : (before after : Table) → ℕ
made x y = count y - count x

pub record Order (x l u t : Table) : Type 0 where
  pub grown : count x ≤ count l
  pub total : count t ≡ count l + made x u
  pub settled : (i : ℕ) → i < count x → Settled (row_at x i) (row_at l i) (row_at u i) (row_at t i)
  pub stays : (i : ℕ) → count x ≤ i → i < count l → row_at t i ≡ row_at l i
  pub raised : (i : ℕ) → count x ≤ i → i < count u → row_at t (shift (count x) (made x l) i) ≡ shift_row (count x) (made x l) (row_at u i)

pub order_by : (L : Left) (news : List Label) (u t : State) → Twin (beside L) news u t →
    Order L.plan L.left.plan u.plan t.plan
order_by L news u t T =
    record {
      grown = omega (arith, left_count L);
      total = omega (arith, left_count L, one_count_lem (beside L) news u t T, two_count (beside L) news u t T);
      settled = plan_settled L news u t T;
      stays = made_stays L news u t T;
      raised =
          λ i a b.
          subst (λ m. row_at t.plan (shift (count L.plan) m i) ≡ shift_row (count L.plan) m (row_at u.plan i))
          (omega (arith, left_count L))
          (T.alike i b (λ h. omega (arith, h.0)));
    }

-- BOTH ORDERS
agree : (r l u s t : Row) → Settled r l u s → Settled r u l t → ((s ≡ r) × (t ≡ r)) ⊎ ((s ≡ unlinked r) × (t ≡ unlinked r))
agree r l u s t (inl (a, b)) (inl (c, d)) = inr (b, d)
agree r l u s t (inl (a, b)) (inr (c, inl d)) = inr (b, d ∙ a)
agree r l u s t (inl (a, b)) (inr (c, inr (d, e))) = inr (b, e ∙ ap unlinked a)
agree r l u s t (inr (a, inl b)) (inl (c, d)) = inr (b ∙ c, d)
agree r l u s t (inr (a, inl b)) (inr (c, inl d)) = inl (b ∙ c, d ∙ a)
agree r l u s t (inr (a, inl b)) (inr (c, inr (d, e))) = inl (b ∙ c, d)
agree r l u s t (inr (a, inr (b, f))) (inl (c, d)) = inr (f ∙ ap unlinked c, d)
agree r l u s t (inr (a, inr (b, f))) (inr (c, inl d)) = inl (b, d ∙ a)
agree r l u s t (inr (a, inr (b, f))) (inr (c, inr (d, e))) = inl (b, d)

abbrev Lower : Table → Type 0
Lower x = (i p : ℕ) → (row_at x i).parent ≡ some p → p < i

module _ (x l u s t : Table) (A : Order x l u s) (B : Order x u l t) (lowX : Lower x) (lowL : Lower l) where
  abbrev n : ℕ
  n = count x

  abbrev a : ℕ
  a = made x l

  abbrev b : ℕ
  b = made x u

  plan_equal : (i : ℕ) → i < n → row_at t (matched n a b i) ≡ matched_row n a b (row_at s i)
  plan_equal i h =
      ap (row_at t) (matched_low n a b i h) ∙
      go (agree (row_at x i) (row_at l i) (row_at u i) (row_at s i) (row_at t i) (A.settled i h) (B.settled i h))
    where
      go : ((row_at s i ≡ row_at x i) × (row_at t i ≡ row_at x i)) ⊎
          ((row_at s i ≡ unlinked (row_at x i)) × (row_at t i ≡ unlinked (row_at x i))) →
          row_at t i ≡ matched_row n a b (row_at s i)
      go (inl (e, f)) =
          f ∙
          sym (ap (matched_row n a b) e ∙
          row_low n a b (row_at x i) (λ p g. omega (arith, lowX i p g)))
      go (inr (e, f)) = f ∙ sym (ap (matched_row n a b) e)

  first_equal : (i : ℕ) → n ≤ i → i < n + a → row_at t (matched n a b i) ≡ matched_row n a b (row_at s i)
  first_equal i h k =
      let c : i < count l = omega (arith, A.grown) in
      ap (row_at t) (matched_first n a b i k) ∙ B.raised i h c ∙
      sym (ap (matched_row n a b) (A.stays i h c) ∙
      row_first n a b (row_at l i) (λ p g. omega (arith, lowL i p g)))

  second_equal : (i : ℕ) → n + a ≤ i → i < count s → row_at t (matched n a b i) ≡ matched_row n a b (row_at s i)
  second_equal i h k =
      subst (λ j. row_at t (matched n a b j) ≡ matched_row n a b (row_at s j)) back
      (ap (row_at t) (matched_second n a b (i - a)) ∙ B.stays (i - a) (omega arith) c ∙
      sym (ap (matched_row n a b) (A.raised (i - a) (omega arith) c) ∙ row_second n a b (row_at u (i - a))))
    where
      c : i - a < count u
      c = omega (arith, A.total, A.grown, B.grown)

      back : shift n a (i - a) ≡ i
      back = shift_high n a (i - a) (omega arith) ∙ omega arith

  pub rows_equal : (i : ℕ) → i < count s → row_at t (matched n a b i) ≡ matched_row n a b (row_at s i)
  rows_equal i h = go (dec_lt i n) (dec_lt i (n + a))
    where
      go : Dec (i < n) → Dec (i < n + a) → row_at t (matched n a b i) ≡ matched_row n a b (row_at s i)
      go (yes k) m = plan_equal i k
      go (no k) (yes m) = first_equal i (omega arith) m
      go (no k) (no m) = second_equal i (omega arith) h
