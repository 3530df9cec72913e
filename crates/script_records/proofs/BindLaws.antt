-- What is bound in a second operand: a binder's own is set behind the others, any other record leaves them.
use mathlib.Core.Path.{◌≡◌}
use mathlib.Core.Bool.{true, false}
use mathlib.Core.List.{List}
use Prim.Native.Nat.{ℕ, ◌+◌, ◌<◌}
use lib.ListN.{length, take, set}
use Rattle.model.specs.Script.{is_binder}
use Rattle.model.proofs.ListLaws.{take_set}
use Rattle.script_records.specs.Walk.{inner, with_bound}

-- how many
pub inner_more : (k n : ℕ) → is_binder k ≡ true → n + 1 ≡ inner k n
unfolding inner
inner_more k n e = rw e

pub inner_same : (k n : ℕ) → is_binder k ≡ false → n ≡ inner k n
unfolding inner
inner_same k n e = rw e

-- which
module _ {A : Type 0} (k : ℕ) (env : List A) (n : ℕ) (x : A) where
  pub with_bound_set : is_binder k ≡ true → n < length env → take (inner k n) (set env n x) ≡ with_bound k (take n env) x
  unfolding inner
  with_bound_set e l = rw e (take_set env n x l)

  pub with_bound_same : is_binder k ≡ false → take (inner k n) env ≡ with_bound k (take n env) x
  unfolding inner
  with_bound_same e = rw e
