-- The contracts of what is left of a record once its first operand has come to a value.
use Rattle.std.specs.Prelude.{◌≡◌, true, cond, List, [], ℕ, ◌+◌, ◌*◌, ◌≤◌, ◌<◌, eqb, length}
use Rattle.model.specs.Limits.{max_items, max_binders}
use Rattle.model.specs.Script.{is_binder}
use Rattle.model.specs.Run.{State, Out, and_then, loop, run}
use Rattle.script_records.specs.Walk.{inner, with_bound, end_at, expr_at}
use Rattle.script.specs.Accepted.{Accepted}
use Rattle.run_operators.specs.Machine.{max_place, Machine, Frame, state_in, bound_in, value_in}
use Rattle.run_operators.specs.Evaluating.{ScopeIn, Yields, binary_of, ValuePre, room_of, MarksHeld}
use Rattle.run_eval.specs.Loops.{body_run}

-- WHAT IS LEFT of a record, told by the place behind its first operand, the variables in scope and the first value: of a join, a let or an
-- insert at place z, of a for, of an if. The other operands are `left` deep at most
abbrev pub Rest : Type 0
Rest = (place : ℕ) → (bound : List (List ℕ)) → (value : List ℕ) → State → Out

abbrev pub binary_rest : (bytes : List ℕ) → (kind z left : ℕ) → Rest
binary_rest b k z left i vs v s = and_then (run (expr_at left b i) (with_bound k vs v) s) (binary_of k z v)

abbrev pub for_rest : (bytes : List ℕ) → (z left : ℕ) → Rest
for_rest b z left i vs v s = loop z (body_run b i left vs) v [] s

abbrev pub if_rest : (bytes : List ℕ) → (left : ℕ) → Rest
if_rest b left i vs v s = cond (eqb (length v) 0) (run (expr_at left b (end_at b i)) vs s) (run (expr_at left b i) vs s)

-- THE FIRST OPERAND came to a value, which stands from the frame's top on; the second is at the machine's place
pub record RestPre (b : List ℕ) (kind left : ℕ) (f : Frame) (s : Machine) : Type 0 where
  pub accepted : Accepted b s.place left (inner kind f.bound)
  pub binder : is_binder kind ≡ true → f.bound < max_binders
  pub value : ValuePre f.top s
  pub marks : MarksHeld f.marks s.progress.count
  pub scope : ScopeIn f s
  pub room : f.top + 2 * max_items + room_of left ≤ length s.work
  pub small : f.top + 2 * max_items + room_of left ≤ max_place

-- and what is left is run
abbrev pub RestPost : Rest → (next : ℕ) → Frame → (before after : Machine) → Type 0
RestPost rest next f s s' = Yields (rest s.place (bound_in f s) (value_in f s) (state_in f s)) next f s s'
