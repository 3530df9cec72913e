-- What a step reaches, row by row: going down from a row's parent, going up from a row's children.
use mathlib.Core.Path.{◌≡◌, refl, ap, sym, ◌∙◌, subst}
use mathlib.Core.Bool.{Bool, true, false, ◌&&◌, ◌||◌, or-false}
use mathlib.Core.List.{List, [], ◌∷◌, Memᴰ as In}
use mathlib.Core.Option.{Option, none, some}
use mathlib.Core.Logic.{◌⊎◌, inl, inr}
use Prim.Native.Nat.{ℕ, zero, suc, ◌+◌, ◌-◌, ◌≤◌, ◌<◌}
use native.Mathlib.Omega.{arith}
use lib.Dec.{eqb}
use Rattle.model.specs.Base.{any, among, bit}
use Rattle.model.specs.Table.{Table, row_at, count, is_the}
use Rattle.model.specs.Sweep.{through}
use Rattle.model.specs.Step.{parent_is, is_below, reaches}
use Rattle.model.proofs.BoolLaws.{or_swap, bool_iff, or_left, or_right, or_cases, and_left, and_right, and_both, true_false, eq_cases}
use Rattle.model.proofs.ListLaws.{any_same, any_in, in_any, among_in, in_among}
use Rattle.model.proofs.TableLaws.{is_the_at, is_the_by, parent_count}
use Rattle.model.proofs.Below.{Below, under, further, below_is, below_above, is_below_lem}

-- some row of those from i on
unfoldable pub any_from : (ℕ → Bool) → (from : ℕ) → ℕ → Bool
any_from f i zero = false
any_from f i (suc n) = f i || any_from f (suc i) n

-- reached by an axis that leads up, parent or ancestor; a child that counts on the way
abbrev pub up_to : Table → (deep : Bool) → (v : List ℕ) → (row : ℕ) → Bool
up_to x d v j = any (λ (i : ℕ). reaches x (2 + bit d) i j) v

abbrev pub child_counts : Table → (deep : Bool) → (v : List ℕ) → (row child : ℕ) → Bool
child_counts x d v j k = parent_is x j k && (among k v || (d && up_to x d v k))

-- reached by an axis that leads down, child or descendant; a row that counts for its children
abbrev pub down_to : Table → (deep : Bool) → (v : List ℕ) → (row : ℕ) → Bool
down_to x d v j = any (λ (i : ℕ). reaches x (bit d) i j) v

abbrev pub counts_down : Table → (deep : Bool) → (v : List ℕ) → (row : ℕ) → Bool
counts_down x d v j = among j v || (d && down_to x d v j)

-- SOME ITEM, SOME ROW
any_from_lem : (f : ℕ → Bool) (i n : ℕ) → any_from f i n ≡ true → (k : ℕ) × (i ≤ k) × (f k ≡ true)
unfolding any_from
any_from_lem f i zero h = absurd (true_false false h refl)
any_from_lem f i (suc n) h = go (or_cases (f i) (any_from f (suc i) n) h) (λ k. any_from_lem f (suc i) n k)
  where
    go : (f i ≡ true) ⊎ (any_from f (suc i) n ≡ true) → (any_from f (suc i) n ≡ true → (k : ℕ) × (suc i ≤ k) × (f k ≡ true)) →
        (k : ℕ) × (i ≤ k) × (f k ≡ true)
    go (inl e) r = (i, omega arith, e)
    go (inr e) r = let q = r e in (q.0, omega (arith, q.1), q.2)

from_any : (f : ℕ → Bool) (i n k : ℕ) → i ≤ k → k < i + n → f k ≡ true → any_from f i n ≡ true
unfolding any_from
from_any f i zero k a b e = absurd (omega arith)
from_any f i (suc n) k a b e =
    eq_cases i k (λ q. or_left (f i) (any_from f (suc i) n) (ap f q ∙ e))
    (λ q. let z : i < k = omega (arith, q) in
    or_right (f i) (any_from f (suc i) n) (from_any f (suc i) n k z (omega arith) e))

any_or : (f g : ℕ → Bool) (v : List ℕ) → any (λ (i : ℕ). f i || g i) v ≡ (any f v || any g v)
unfolding any
any_or f g [] = refl
any_or f g (x ∷ v) = ap (λ (t : Bool). f x || g x || t) (any_or f g v) ∙ or_swap (f x) (g x) (any f v) (any g v)

any_none : (v : List ℕ) → any (λ (i : ℕ). false) v ≡ false
unfolding any
any_none [] = refl
any_none (x ∷ v) = any_none v

any_through : (h : ℕ → ℕ → Bool) (v : List ℕ) (q : Option ℕ) →
    any (λ (i : ℕ). through (h i) q) v ≡ through (λ (p : ℕ). any (λ (i : ℕ). h i p) v) q
any_through h v none = any_none v
any_through h v (some p) = refl

pub among_any : (p : ℕ) (v : List ℕ) → any (λ (i : ℕ). eqb p i) v ≡ among p v
unfolding any among
among_any p [] = refl
among_any p (x ∷ v) = ap (λ (t : Bool). eqb p x || t) (among_any p v)

any_is_the : (q : Option ℕ) (v : List ℕ) → any (λ (i : ℕ). is_the i q) v ≡ through (λ (p : ℕ). among p v) q
any_is_the none v = any_none v
any_is_the (some p) v = among_any p v

through_or : (f g : ℕ → Bool) (q : Option ℕ) → (through f q || through g q) ≡ through (λ (p : ℕ). f p || g p) q
through_or f g none = refl
through_or f g (some p) = refl

-- DOWN
module _ (x : Table) (lower : (i p : ℕ) → (row_at x i).parent ≡ some p → p < i) where
  below_unrolled : (t i : ℕ) → is_below x t i ≡ (parent_is x t i || through (is_below x t) (row_at x i).parent)
  below_unrolled t i = bool_iff (is_below x t i) (parent_is x t i || through (is_below x t) (row_at x i).parent) (λ e. one (below_is x t i
      e)) back
    where
      one : Below x t i → (parent_is x t i || through (is_below x t) (row_at x i).parent) ≡ true
      one (under e) = or_left (parent_is x t i) (through (is_below x t) (row_at x i).parent) (is_the_by t (row_at x i).parent e)
      one (further {p = p} e b) =
          or_right (parent_is x t i) (through (is_below x t) (row_at x i).parent)
          (subst (λ q. through (is_below x t) q ≡ true) (sym e) (is_below_lem x lower t p b))

      deeper : (q : Option ℕ) → (row_at x i).parent ≡ q → through (is_below x t) q ≡ true → is_below x t i ≡ true
      deeper none e h = absurd (true_false false h refl)
      deeper (some p) e h = is_below_lem x lower t i (further e (below_is x t p h))

      back : (parent_is x t i || through (is_below x t) (row_at x i).parent) ≡ true → is_below x t i ≡ true
      back h = go (or_cases (parent_is x t i) (through (is_below x t) (row_at x i).parent) h)
        where
          go : (parent_is x t i ≡ true) ⊎ (through (is_below x t) (row_at x i).parent ≡ true) → is_below x t i ≡ true
          go (inl e) = is_below_lem x lower t i (under (is_the_at t (row_at x i).parent e))
          go (inr e) = deeper (row_at x i).parent refl e

  -- a row is reached where its parent counts: is an item, or along a deep axis reached itself
  pub down_parent : (d : Bool) (v : List ℕ) (j : ℕ) → down_to x d v j ≡ through (counts_down x d v) (row_at x j).parent
  down_parent false v j = any_is_the (row_at x j).parent v ∙ plain (row_at x j).parent
    where
      plain : (q : Option ℕ) → through (λ (p : ℕ). among p v) q ≡ through (λ (p : ℕ). among p v || false) q
      plain none = refl
      plain (some p) = sym (or-false (among p v))
  down_parent true v j =
      any_same (λ (i : ℕ). is_below x i j) (λ (i : ℕ). parent_is x i j || through (is_below x i) (row_at x j).parent) v
      (λ i m. below_unrolled i j) ∙
      any_or (λ (i : ℕ). parent_is x i j) (λ (i : ℕ). through (is_below x i) (row_at x j).parent) v ∙
      ap (λ (t : Bool). t || any (λ (i : ℕ). through (is_below x i) (row_at x j).parent) v) (any_is_the (row_at x j).parent v) ∙
      ap (λ (t : Bool). through (λ (p : ℕ). among p v) (row_at x j).parent || t) (any_through (λ (i : ℕ). is_below x i) v (row_at x j
      ).parent) ∙
      through_or (λ (p : ℕ). among p v) (λ (p : ℕ). any (λ (i : ℕ). is_below x i p) v) (row_at x j).parent

  pub below_higher : (t i : ℕ) → is_below x t i ≡ true → t < i
  below_higher t i e = below_above x lower (below_is x t i e)

  pub down_higher : (d : Bool) (i j : ℕ) → reaches x (bit d) i j ≡ true → i < j
  down_higher false i j e = lower j i (is_the_at i (row_at x j).parent e)
  down_higher true i j e = below_higher i j e

  -- UP
  -- an axis that leads up reaches a row's parent, and along a deep axis what is above it
  pub up_parent : (d : Bool) (i j : ℕ) → reaches x (2 + bit d) i j ≡ (parent_is x j i || (d && through (is_below x j) (row_at x i).parent))
  up_parent false i j = sym (or-false (parent_is x j i))
  up_parent true i j = below_unrolled j i

  -- the way to a row below starts at a child
  first_child : (j i : ℕ) → Below x j i → (c : ℕ) × ((row_at x c).parent ≡ some j) × ((c ≡ i) ⊎ Below x c i)
  first_child j i (under e) = (i, e, inl refl)
  first_child j i (further {p = p} e b) = go (first_child j p b)
    where
      go : (c : ℕ) × ((row_at x c).parent ≡ some j) × ((c ≡ p) ⊎ Below x c p) → (c : ℕ) × ((row_at x c).parent ≡ some j) ×
          ((c ≡ i) ⊎ Below x
          c i)
      go (c, f, inl q) = (c, f, inr (under (e ∙ ap some (sym q))))
      go (c, f, inr q) = (c, f, inr (further e q))

  below_child : (j k i : ℕ) → (row_at x k).parent ≡ some j → Below x k i → Below x j i
  below_child j k i e (under f) = further f (under e)
  below_child j k i e (further {p = p} f b) = further f (below_child j k p e b)

  child_there : (d : Bool) (v : List ℕ) (j t k : ℕ) → t ≤ j + 1 → (row_at x k).parent ≡ some j →
      (among k v || (d && up_to x d v k)) ≡ true →
      any_from (child_counts x d v j) t (count x - t) ≡ true
  child_there d v j t k low e h =
      from_any (child_counts x d v j) t (count x - t) k (omega (arith, lower k j e)) (omega (arith, lower k j e, parent_count x k j e))
      (and_both (parent_is x j k) (among k v || (d && up_to x d v k)) (is_the_by j (row_at x k).parent e) h)

  child_parts : (d : Bool) (v : List ℕ) (j k : ℕ) → child_counts x d v j k ≡ true →
      ((row_at x k).parent ≡ some j) × ((among k v ≡ true) ⊎ ((d && up_to x d v k) ≡ true))
  child_parts d v j k h = (
    is_the_at j (row_at x k).parent (and_left (parent_is x j k) (among k v || (d && up_to x d v k)) h),
    or_cases (among k v) (d && up_to x d v k) (and_right (parent_is x j k) (among k v || (d && up_to x d v k)) h),
  )

  -- a row is reached where a child counts; children are above it, so any start up to the next row serves
  pub up_children : (d : Bool) (v : List ℕ) (j t : ℕ) → t ≤ j + 1 → up_to x d v j ≡ any_from (child_counts x d v j) t (count x - t)
  up_children false v j t low =
      bool_iff (up_to x false v j) (any_from (child_counts x false v j) t (count x - t)) (λ e. there (any_in (λ (i : ℕ). parent_is x j i) v
      e))
      (λ e. back (any_from_lem (child_counts x false v j) t (count x - t) e))
    where
      there : (i : ℕ) × In i v × (parent_is x j i ≡ true) → any_from (child_counts x false v j) t (count x - t) ≡ true
      there (i, m, e) = child_there false v j t i low (is_the_at j (row_at x i).parent e) (or_left (among i v) false (in_among m))

      back : (k : ℕ) × (t ≤ k) × (child_counts x false v j k ≡ true) → up_to x false v j ≡ true
      back (k, l, h) = go (child_parts false v j k h)
        where
          go : ((row_at x k).parent ≡ some j) × ((among k v ≡ true) ⊎ (false ≡ true)) → up_to x false v j ≡ true
          go (e, inl m) = in_any (λ (i : ℕ). parent_is x j i) (among_in k v m) (is_the_by j (row_at x k).parent e)
          go (e, inr m) = absurd (true_false false m refl)
  up_children true v j t low =
      bool_iff (up_to x true v j) (any_from (child_counts x true v j) t (count x - t))
      (λ e. there (any_in (λ (i : ℕ). is_below x j i) v e))
      (λ e. back (any_from_lem (child_counts x true v j) t (count x - t) e))
    where
      there : (i : ℕ) × In i v × (is_below x j i ≡ true) → any_from (child_counts x true v j) t (count x - t) ≡ true
      there (i, m, e) = go (first_child j i (below_is x j i e))
        where
          go : (c : ℕ) × ((row_at x c).parent ≡ some j) × ((c ≡ i) ⊎ Below x c i) →
              any_from (child_counts x true v j) t (count x - t) ≡ true
          go (c, f, inl q) =
              child_there true v j t c low f (or_left (among c v) (up_to x true v c) (ap (λ (a : ℕ). among a v) q ∙ in_among m))
          go (c, f, inr q) =
              child_there true v j t c low f
              (or_right (among c v) (up_to x true v c) (in_any (λ (a : ℕ). is_below x c a) m (is_below_lem x lower c i q)))

      back : (k : ℕ) × (t ≤ k) × (child_counts x true v j k ≡ true) → up_to x true v j ≡ true
      back (k, l, h) = go (child_parts true v j k h)
        where
          deeper : (row_at x k).parent ≡ some j → (i : ℕ) × In i v × (is_below x k i ≡ true) → up_to x true v j ≡ true
          deeper e (i, m, b) = in_any (λ (a : ℕ). is_below x j a) m (is_below_lem x lower j i (below_child j k i e (below_is x k i b)))

          go : ((row_at x k).parent ≡ some j) × ((among k v ≡ true) ⊎ (up_to x true v k ≡ true)) → up_to x true v j ≡ true
          go (e, inl m) = in_any (λ (a : ℕ). is_below x j a) (among_in k v m) (is_below_lem x lower j k (under e))
          go (e, inr m) = deeper e (any_in (λ (a : ℕ). is_below x k a) v m)
