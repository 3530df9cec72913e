-- Which rows a step down reaches from a value, link by link; carried over from one table to another in which the rows have their like.
use mathlib.Core.Path.{◌≡◌, refl, sym, ◌∙◌, ap, subst}
use mathlib.Core.Bool.{true, false, or-false}
use mathlib.Core.Logic.{◌⊎◌, inl, inr}
use mathlib.Core.List.{List, [], ◌∷◌, Memᴰ as In}
use mathlib.Core.Option.{some}
use Prim.Native.Nat.{ℕ, ◌<◌}
use Rattle.model.specs.Base.{any}
use Rattle.model.specs.Table.{Table, row_at}
use Rattle.model.specs.Script.{Step}
use Rattle.model.specs.Step.{Letter, leaf_letter, named, letter_of, admits, is_below, reaches, is_reached, collect}
use Rattle.model.specs.Run.{descendants_from}
use Rattle.model.specs.Paths.{any_below, is_up}
use Rattle.model.proofs.BoolLaws.{and_left, and_right, and_both}
use Rattle.model.proofs.PathLaws.{down_axis}
use Rattle.model.proofs.ListLaws.{any_in, in_any}
use Rattle.model.proofs.TableLaws.{is_the_at, is_the_by}
use Rattle.model.proofs.Collect.{collect_same}
use Rattle.model.proofs.Below.{Below, under, further, below_is, is_below_lem}

-- REACH
pub data Reach (x : Table) (s : Step) (v : List ℕ) (j : ℕ) : Type 0 where
  by_child : {i : ℕ} → In i v → s.axis ≡ 0 → (row_at x j).parent ≡ some i → admits s (letter_of (row_at x j)) ≡ true → Reach x s v j
  by_deep : {i : ℕ} → In i v → s.axis ≡ 1 → Below x i j → admits s (letter_of (row_at x j)) ≡ true → Reach x s v j

pub reach_is : (x : Table) (s : Step) (v : List ℕ) (j : ℕ) → is_up s ≡ false → is_reached x s v j ≡ true → Reach x s v j
reach_is x s v j u e = go (any_in (λ i. reaches x s.axis i j) v (and_right (admits s (letter_of (row_at x j))) _ e))
  where
    z : admits s (letter_of (row_at x j)) ≡ true
    z = and_left (admits s (letter_of (row_at x j))) (any (λ i. reaches x s.axis i j) v) e

    go : (i : ℕ) × In i v × (reaches x s.axis i j ≡ true) → Reach x s v j
    go (i, k, f) = by (down_axis s u)
      where
        by : (s.axis ≡ 0) ⊎ (s.axis ≡ 1) → Reach x s v j
        by (inl a) = by_child k a (is_the_at i (row_at x j).parent (subst (λ n. reaches x n i j ≡ true) a f)) z
        by (inr a) = by_deep k a (below_is x i j (subst (λ n. reaches x n i j ≡ true) a f)) z

pub is_reach : (x : Table) (s : Step) (v : List ℕ) (j : ℕ) → ((i p : ℕ) → (row_at x i).parent ≡ some p → p < i) → Reach x s v j →
    is_reached x s v j ≡ true
is_reach x s v j l (by_child {i} k a e z) =
    and_both (admits s (letter_of (row_at x j))) (any (λ i. reaches x s.axis i j) v) z
    (in_any (λ i. reaches x s.axis i j) k
    (subst (λ n. reaches x n i j ≡ true) (sym a) (is_the_by i (row_at x j).parent e)))
is_reach x s v j l (by_deep {i} k a b z) =
    and_both (admits s (letter_of (row_at x j))) (any (λ i. reaches x s.axis i j) v) z
    (in_any (λ i. reaches x s.axis i j) k (subst (λ n. reaches x n i j ≡ true) (sym a) (is_below_lem x l i j b)))

-- descendants are what the step 'descendant, any node' reaches
pub any_admits : (a : Letter) → admits any_below a ≡ true
any_admits leaf_letter = refl
any_admits (named n) = refl

below_reached : (x : Table) (t i : ℕ) → is_below x t i ≡ is_reached x any_below (t ∷ []) i
unfolding any
below_reached x t i = rw (any_admits (letter_of (row_at x i))) (sym (or-false (is_below x t i)))

pub descendants_stepped : (x : Table) (t i n : ℕ) → descendants_from x t i n ≡ collect (is_reached x any_below (t ∷ [])) i n
descendants_stepped x t i n = collect_same (is_below x t) (is_reached x any_below (t ∷ [])) i n (λ j h. below_reached x t j)

-- ACROSS: R relates rows of x to their like in y; the parent's like is the like's parent
module _ (x y : Table) (R : ℕ → ℕ → Type 0) (one : (i j k : ℕ) → R i j → R i k → j ≡ k)
    (parents : (i j p : ℕ) → R i j → (row_at x i).parent ≡ some p → (q : ℕ) × R p q × ((row_at y j).parent ≡ some q)) where
  below_across : {t i : ℕ} (u j : ℕ) → Below x t i → R i j → R t u → Below y u j
  below_across {t} {i} u j (under e) r q =
      let (k, a, f) = parents i j t r e in
      under (f ∙ ap some (one t k u a q))
  below_across {t} {i} u j (further {p = p} e b) r q =
      let (k, a, f) = parents i j p r e in
      further f (below_across u k b a q)

  pub reach_across : (s : Step) (v w : List ℕ) (i j : ℕ) → ((t : ℕ) → In t v → (u : ℕ) × In u w × R t u) → R i j →
      letter_of (row_at x i) ≡ letter_of (row_at y j) → Reach x s v i → Reach y s w j
  reach_across s v w i j h r l (by_child {i = t} k a e z) =
      let (u, m, q) = h t k in
      let (p, b, f) = parents i j t r e in
      by_child m a (f ∙ ap some (one t p u b q)) (subst (λ a. admits s a ≡ true) l z)
  reach_across s v w i j h r l (by_deep {i = t} k a b z) =
      let (u, m, q) = h t k in
      by_deep m a (below_across u j b r q) (subst (λ a. admits s a ≡ true) l z)
