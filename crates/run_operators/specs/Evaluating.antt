-- The evaluator's contracts: what a value in the work area, the variables and the lent areas stand for in the model's run.
use Rattle.std.specs.Prelude.{◌≡◌, true, cond, ◌⊎◌, List, [], ℕ, ◌+◌, ◌*◌, ◌-◌, ◌≤◌, ◌<◌, ltb, eqb, length, get_or, take, Err}
use Rattle.model.specs.Limits.{max_items, max_binders, documents}
use Rattle.model.specs.Script.{step_by, step_kind, delete_kind, join_kind, insert_kind, pick_kind, test_fits, body_size, arity, is_binder}
use Rattle.model.specs.Step.{stepped, picked}
use Rattle.model.specs.Run.{State, Out, gives, cut_all, join_items, inserted, run, AreRows, AreValues}
use Rattle.script_records.specs.Steps.{step_of}
use Rattle.script_records.specs.Relations.{relation_number}
use Rattle.script_records.specs.Walk.{inner, with_bound, end_at, expr_at}
use Rattle.script.specs.Accepted.{Accepted}
use Rattle.plan_table.specs.declared.Reason.TheVariants.{Items}
use Rattle.run_updates.specs.State.{Progress, Held, After}
use Rattle.run_query.specs.Values.{value_at}
use Rattle.run_operators.specs.declared.value.Span.{Span}
use Rattle.run_operators.specs.declared.record.Operator.{Operator}
use Rattle.run_operators.specs.declared.record.Operator.TheVariants.{Step, Delete, Pick}
use Rattle.run_operators.specs.Machine.{max_place, no_span, span_of, bound_values, Evaluated, came_out}
use Rattle.run_operators.specs.Machine.{Machine, Frame, frame, state_in, bound_in, value_in, outcome_in}

-- VARIABLES: a variable's value lies below top
abbrev pub SpanFits : (top : ℕ) → Span → Type 0
SpanFits t s = (s.start + s.len ≤ t) × (s.len ≤ max_items)

-- and the items of all are rows
pub record InScope (w : List ℕ) (n : ℕ) (env : List Span) (top count : ℕ) : Type 0 where
  pub few : n ≤ max_binders
  pub size : length env ≡ max_binders
  pub spans : (v : ℕ) → v < n → SpanFits top (get_or env v no_span)
  pub values : AreValues count (bound_values w n env)

-- those of a frame in a machine
abbrev pub ScopeIn : Frame → Machine → Type 0
ScopeIn f s = InScope s.work f.bound s.env f.top s.progress.count

-- a binder's first value is one variable more in its second operand
pub record BindPre (kind : ℕ) (env : List Span) (n start end : ℕ) : Type 0 where
  pub size : length env ≡ max_binders
  pub scope : is_binder kind ≡ true → n < max_binders
  pub order : start ≤ end
  pub small : end < max_place

pub record BindPost (kind : ℕ) (env : List Span) (n start end : ℕ) (r : List Span) : Type 0 where
  pub size : length r ≡ max_binders
  pub is : take (inner kind n) r ≡ with_bound kind (take n env) (span_of start end)

-- COPYING a value to a place
pub record CopyPre (w : List ℕ) (from to top : ℕ) : Type 0 where
  pub order : from ≤ to
  pub within : to ≤ length w
  pub room : top + (to - from) ≤ length w
  pub apart : (top ≤ from) ⊎ (to ≤ top)

-- ANSWERS made of parts
abbrev pub ended_by : Progress → (at next end : ℕ) → List Span → Evaluated
ended_by p i j e ss = record { progress = p; place = cond (eqb p.number 0) j i; end = e; env = ss }

-- 8, past the limit of items
abbrev pub limited_by : Evaluated → (top at : ℕ) → Evaluated
limited_by x t i = cond (ltb max_items (x.end - t)) (came_out (Err (record { reason = Items; place = i }))) x

-- the same at another place
abbrev pub moved_to : (place : ℕ) → Evaluated → Evaluated
moved_to i x = record { progress = x.progress; place = i; end = x.end; env = x.env }

-- a value of one row
pub record PutPre (w : List ℕ) (top row : ℕ) : Type 0 where
  pub room : top < length w
  pub small : row < 65536

-- THE AREAS of a machine have their sizes and the rows their form; and from one machine to another rows and records are only added
abbrev pub HeldIn : Machine → Type 0
HeldIn s = Held s.rows s.history s.progress

-- only added
abbrev pub AfterIn : (before after : Machine) → Type 0
AfterIn s s' = After s.rows s.history s.progress s'.rows s'.history s'.progress

-- FINE: where nothing is refused, rows and records are only added, the value stands from top on, the area below is as it was, the place is
-- next, past the expression, and the variables in scope are handed back
pub record Fine (next : ℕ) (f : Frame) (s s' : Machine) : Type 0 where
  pub after : AfterIn s s'
  pub size : length s'.work ≡ length s.work
  pub below : take f.top s'.work ≡ take f.top s.work
  pub order : f.top ≤ s'.end
  pub short : s'.end ≤ f.top + max_items
  pub rows : AreRows s'.progress.count (value_in f s')
  pub place : s'.place ≡ next
  pub spans : length s'.env ≡ max_binders
  pub scope : take f.bound s'.env ≡ take f.bound s.env

-- YIELDS: what an expression or a part of one leaves of a machine is, in the model, the goal
pub record Yields (goal : Out) (next : ℕ) (f : Frame) (s s' : Machine) : Type 0 where
  pub same : outcome_in f s' ≡ goal
  pub fine : s'.progress.number ≡ 0 → Fine next f s s'

-- ON VALUES: what a record with one operand does with its value, and one with two with theirs
abbrev pub unary_of : (bytes : List ℕ) → (at : ℕ) → (value : List ℕ) → State → Out
unary_of b i v s =
    cond (eqb (get_or b i 0) step_kind)
    (gives (stepped s.plan (step_by (get_or b (i + 1) 0) (get_or b (i + 2) 0) (get_or b (i + 3) 0)) v) s)
    (cond (eqb (get_or b i 0) delete_kind) (gives [] (cut_all v s)) (gives (picked s.plan (get_or b (i + 1) 0) (get_or b (i + 2) 0) v) s))

abbrev pub binary_of : (kind at : ℕ) → (first second : List ℕ) → State → Out
binary_of k i v w s = cond (eqb k join_kind) (join_items i v w s) (cond (eqb k insert_kind) (inserted i v w s) (gives w s))

-- a value that stands from top on
pub record ValuePre (top : ℕ) (s : Machine) : Type 0 where
  pub held : HeldIn s
  pub order : top ≤ s.end
  pub short : s.end ≤ top + max_items
  pub room : top + max_items ≤ length s.work
  pub rows : AreRows s.progress.count (value_at s.work top s.end)
  pub spans : length s.env ≡ max_binders

-- ONE OPERAND: the record at a place is whole, and its fields are in range
pub record OperatorPre (b : List ℕ) (at : ℕ) : Type 0 where
  pub whole : at + body_size (get_or b at 0) < length b
  pub unary : arity (get_or b at 0) ≡ 1
  pub axis : get_or b at 0 ≡ step_kind → get_or b (at + 1) 0 < 4
  pub test : get_or b at 0 ≡ step_kind → test_fits (get_or b (at + 2) 0) (get_or b (at + 3) 0) ≡ true
  pub relation : get_or b at 0 ≡ pick_kind → get_or b (at + 1) 0 < 3

-- what it does with its value
abbrev pub unary_by : Operator → (value : List ℕ) → State → Out
unary_by (Step t) v s = gives (stepped s.plan (step_of t) v) s
unary_by Delete v s = gives [] (cut_all v s)
unary_by (Pick r c) v s = gives (picked s.plan (relation_number r) c v) s

-- read, it does what the record does
pub record OperatorPost (b : List ℕ) (at : ℕ) (o : Operator) : Type 0 where
  pub same : (v : List ℕ) (s : State) → unary_by o v s ≡ unary_of b at v s

-- whatever the variables in scope and the marks are
abbrev pub UnaryPost : Operator → (top : ℕ) → (before after : Machine) → Type 0
UnaryPost o t s s' =
    (n : ℕ) (ms : List ℕ) → Yields (unary_by o (value_in (frame n ms t) s) (state_in (frame n ms t) s)) s.place (frame n ms t) s s'

-- TWO OPERANDS: the first one's value stands from top up to mid, the second's from there on
pub record BinaryPre (top mid : ℕ) (s : Machine) : Type 0 where
  pub value : ValuePre mid s
  pub order : top ≤ mid
  pub short : mid ≤ top + max_items
  pub rows : AreRows s.progress.count (value_at s.work top mid)

abbrev pub BinaryPost : (kind at top mid : ℕ) → (before after : Machine) → Type 0
BinaryPost k i t m s s' =
    (n : ℕ) (ms : List ℕ) →
    Yields (binary_of k i (value_at s.work t m) (value_at s.work m s.end) (state_in (frame n ms t) s)) s.place (frame n ms t) s s'

-- the room that an expression so deep may take: each level keeps a value, and a loop its items and its results so far
abbrev pub room_of : (left : ℕ) → ℕ
room_of k = 2 * max_items * k + max_items

-- the marks are links to rows, a document's each
pub record MarksHeld (ms : List ℕ) (count : ℕ) : Type 0 where
  pub size : length ms ≡ documents
  pub rows : (d : ℕ) → get_or ms d 0 ≤ count

-- AN EXPRESSION at the machine's place, `left` deep at most, its value to stand from the frame's top on
pub record EvalPre (b : List ℕ) (left : ℕ) (f : Frame) (s : Machine) : Type 0 where
  pub accepted : Accepted b s.place left f.bound
  pub held : HeldIn s
  pub marks : MarksHeld f.marks s.progress.count
  pub scope : ScopeIn f s
  pub room : f.top + room_of left ≤ length s.work
  pub small : f.top + room_of left ≤ max_place

-- yields its run, and the place past it
abbrev pub EvalPost : (bytes : List ℕ) → (left : ℕ) → Frame → (before after : Machine) → Type 0
EvalPost b k f s s' = Yields (run (expr_at k b s.place) (bound_in f s) (state_in f s)) (end_at b s.place) f s s'
