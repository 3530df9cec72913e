-- The evaluator as an abstract machine: what it works in, what stays while an expression runs, and what both stand for in the model.
use Rattle.std.specs.Prelude.{List, [], map, ℕ, ◌-◌, take, drop, Result, Ok, Err}
use Rattle.model.specs.Run.{State, Out}
use Rattle.plan_table.specs.declared.Refusal.{Refusal}
use Rattle.run_updates.specs.State.{Progress, going, came, state_of, outcome}
use Rattle.run_query.specs.Values.{value_at}
use Rattle.run_operators.specs.declared.value.Span.{Span}
use Rattle.run_operators.specs.declared.record.Evaluated as declared

-- PLACES in the work area that the evaluator uses are below this, so that two bytes hold one
abbrev pub max_place : ℕ
max_place = 65536

-- VARIABLES: each is a start and a length in the work area
abbrev pub no_span : Span
no_span = record { start = 0; len = 0 }

-- from a place up to another
abbrev pub span_of : (start end : ℕ) → Span
span_of i j = record { start = i; len = j - i }

-- the value that a span holds
abbrev pub span_value : (work : List ℕ) → Span → List ℕ
span_value w s = take s.len (drop s.start w)

-- the values of the variables in scope, the outermost first
abbrev pub bound_values : (work : List ℕ) → (bound : ℕ) → List Span → List (List ℕ)
bound_values w n env = map (span_value w) (take n env)

-- AFTER AN EXPRESSION: how far the run has come; the place past it, or of the refusal; the end of its value; the variables
pub record Evaluated : Type 0 where
  pub progress : Progress
  pub place : ℕ
  pub end : ℕ
  pub env : List Span

-- as the functions tell it: refused nothing, or for a reason at a place, and then the rest is not known
abbrev pub going_on : declared.Evaluated → Evaluated
going_on x = record { progress = going x.progress; place = x.place; end = x.end; env = x.env }

abbrev pub came_out : Result declared.Evaluated Refusal → Evaluated
came_out (Ok x) = going_on x
came_out (Err e) = record { progress = came (Err e.reason); place = e.place; end = 0; env = [] }

-- THE MACHINE at one moment: the areas lent to be written, and how far the evaluator has come
pub record Machine : Type 0 where
  pub rows : List ℕ  -- the table's packed rows
  pub history : List ℕ  -- the history's bytes, and behind them the rest of its area
  pub work : List ℕ  -- the stack of values
  pub progress : Progress  -- the refusal, and how many rows, bytes and records there are
  pub place : ℕ  -- where it stands in the script, or the refusal's place
  pub end : ℕ  -- the end of the last value on the stack
  pub env : List Span  -- the variables' spans in the work area

-- THE FRAME of an expression: what stays while it runs
pub record Frame : Type 0 where
  pub bound : ℕ  -- how many variables are in scope
  pub marks : List ℕ  -- the documents' marks
  pub top : ℕ  -- where its value is to start in the work area

-- from a function's parameters: a frame
abbrev pub frame : (bound : ℕ) → (marks : List ℕ) → (top : ℕ) → Frame
frame n ms t = record { bound = n; marks = ms; top = t }

-- a machine with these areas, that has come to x
abbrev pub machine : (rows history work : List ℕ) → Evaluated → Machine
machine ws h w x =
    record { rows = ws; history = h; work = w; progress = x.progress; place = x.place; end = x.end; env = x.env }

-- about to run the expression at a place, its value to start at top
abbrev pub begun : Progress → (at top : ℕ) → List Span → Evaluated
begun p i t env = record { progress = p; place = i; end = t; env = env }

-- what a machine has come to
abbrev pub evaluated : Machine → Evaluated
evaluated s = record { progress = s.progress; place = s.place; end = s.end; env = s.env }

-- the same areas, come to x
abbrev pub came_to : Evaluated → Machine → Machine
came_to x s = machine s.rows s.history s.work x

-- IN THE MODEL: the state, the variables' values, the frame's value, the outcome
abbrev pub state_in : Frame → Machine → State
state_in f s = state_of s.rows f.marks s.history s.progress

-- the values of the variables in scope
abbrev pub bound_in : Frame → Machine → List (List ℕ)
bound_in f s = bound_values s.work f.bound s.env

-- the value from the frame's top up to the end
abbrev pub value_in : Frame → Machine → List ℕ
value_in f s = value_at s.work f.top s.end

-- that value and the state, or the refusal at the place
abbrev pub outcome_in : Frame → Machine → Out
outcome_in f s = outcome s.place (value_in f s) s.rows f.marks s.history s.progress
