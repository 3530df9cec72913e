-- Values are lists of rows: in a table of more rows, and answered by steps, picks and documents. Runs that go on alike come to the same.
use mathlib.Core.Path.{◌≡◌, refl, ap, ◌∙◌}
use mathlib.Core.Bool.{Bool}
use mathlib.Core.List.{List}
use mathlib.Core.Option.{Option, none, some}
use Prim.Native.Nat.{ℕ, ◌+◌, ◌≤◌, ◌<◌}
use native.Mathlib.Omega.{arith}
use lib.ListN.{get_or}
use Rattle.model.specs.Base.{nothing, also}
use Rattle.model.specs.Table.{Table, count, Tree}
use Rattle.model.specs.Step.{collect}
use Rattle.model.specs.Run.{State, Out, refused, gives, and_then, marked, AreRows, AreValues}
use Rattle.model.proofs.All.{all_imp}
use Rattle.model.proofs.Collect.{collect_all}

-- more rows
pub are_rows_more : {n m : ℕ} {v : List ℕ} → n ≤ m → AreRows n v → AreRows m v
are_rows_more l = all_imp (λ i h. omega arith)

pub are_values_more : {n m : ℕ} {b : List (List ℕ)} → n ≤ m → AreValues n b → AreValues m b
are_values_more l = all_imp (λ v. are_rows_more l)

-- steps answer rows
pub collect_rows : (f : ℕ → Bool) (j k n : ℕ) → j + k ≤ n → AreRows n (collect f j k)
collect_rows f j k n l = collect_all f j k (λ i b e. omega arith)

pub marked_rows : (x : Table) → Tree x → (d : ℕ) → AreRows (count x) (marked (get_or x.marks d none))
marked_rows x t d = go (get_or x.marks d none) refl
  where
    go : (m : Option ℕ) → get_or x.marks d none ≡ m → AreRows (count x) (marked m)
    go none e = nothing
    go (some i) e = let h : i < count x = (t.roots d i e).0 in also h nothing

-- the same outcome that goes on alike
pub then_same : (o : Out) {p : Out} {f g : List ℕ → State → Out} → o ≡ p → ((v : List ℕ) (s : State) → f v s ≡ g v s) →
    and_then o f ≡ and_then p g
then_same (refused x) {g = g} e h = ap (λ (q : Out). and_then q g) e
then_same (gives v s) {g = g} e h = h v s ∙ ap (λ (q : Out). and_then q g) e
