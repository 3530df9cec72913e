-- A test or a relation of a number that no type has is as the last one of them: a test of 3 or more is the named element's, a relation
-- of 2 or more is greater.
use mathlib.Core.Path.{◌≡◌}
use Prim.Native.Nat.{ℕ, ◌+◌}
use native.Mathlib.Omega.{arith}
use borrow.Author.Tests.{ne_eqb}
use Rattle.model.specs.Script.{step_by}
use Rattle.model.specs.Step.{Letter, leaf_letter, named, admits, relates}

pub test_any : (a t n : ℕ) (l : Letter) → admits (step_by a (t + 3) n) l ≡ admits (step_by a 3 n) l
test_any a t n leaf_letter = rw (ne_eqb (t + 3) 0 (omega arith), ne_eqb (t + 3) 2 (omega arith))
test_any a t n (named m) = rw (ne_eqb (t + 3) 0 (omega arith), ne_eqb (t + 3) 1 (omega arith), ne_eqb (t + 3) 2 (omega arith))

pub relation_any : (r c v : ℕ) → relates (r + 2) c v ≡ relates 2 c v
relation_any r c v = rw (ne_eqb (r + 2) 0 (omega arith), ne_eqb (r + 2) 1 (omega arith))
