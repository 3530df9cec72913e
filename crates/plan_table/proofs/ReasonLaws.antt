-- A reason's number is never 0, the number of no refusal.
use mathlib.Core.Path.{◌≡◌}
use native.Mathlib.Omega.{arith}
use Rattle.plan_table.specs.Refusals.{number_of}
use Rattle.plan_table.specs.declared.Reason as declared
use Rattle.plan_table.specs.declared.Reason.TheVariants.{Kind, Short, Tail, Field, Size, Link, Target, Items, Lent}
use Rattle.plan_table.specs.declared.Reason.TheVariants as reason

pub some_number : (r : declared.Reason) → number_of r ≡ 0 → ⊥
some_number Kind e = omega arith
some_number Short e = omega arith
some_number Tail e = omega arith
some_number Field e = omega arith
some_number Size e = omega arith
some_number Link e = omega arith
some_number Target e = omega arith
some_number Items e = omega arith
some_number reason.Table e = omega arith
some_number Lent e = omega arith
