-- What the C call for a run answers and leaves in its five lent areas, for every input.
use Rattle.std.specs.Prelude.{cond, List, ℕ, eqb, length, replicate}
use Rattle.model.specs.Call.{Ran}
use Rattle.model.specs.Refusal.{Values, values}
use Rattle.plan.specs.Calls as library
use Rattle.plan_table.specs.Results.{TableResult}
use Rattle.run.specs.Calls.{ran, run_result}
use Rattle.run.specs.Calls.{RunResult}
use Rattle.c_codes.specs.Codes.{lent_values}
use Rattle.c_lent.specs.Done.{lent_fit, done_over, end_values, end_out, end_done}

-- what the call answers, and the areas after it
pub record Called : Type 0 where
  pub values : Values
  pub answer : List ℕ
  pub history : List ℕ
  pub work : List ℕ
  pub out : List ℕ
  pub done : List ℕ

-- an area too short: 11 at place 0, and nothing is touched
abbrev pub untouched_call : (answer history work out done : List ℕ) → Called
untouched_call a h w o d = record { values = lent_values; answer = a; history = h; work = w; out = o; done = d }

-- refused after that: out is as it was; answer, history, work and the six numbers are zero
abbrev pub refused_call : Values → (answer history work out done : List ℕ) → Called
refused_call v a h w o d =
    record {
      values = v;
      answer = replicate (length a) 0;
      history = replicate (length h) 0;
      work = replicate (length w) 0;
      out = o;
      done = done_over 0 0 0 0 0 0 d;
    }

-- once the run is over: its refusal, or the plan written
abbrev pub ran_call : RunResult → Ran → (out done : List ℕ) → Called
ran_call r l o d =
    record { values = end_values r o; answer = l.answer; history = l.history; work = l.work; out = end_out r o; done = end_done r o d }

-- once the plan is read: its refusal, without a run; or the run
abbrev pub read_call : TableResult → (script answer history work out done : List ℕ) → Called
read_call q s a h w o d =
    cond (eqb q.refusal.number 0) (ran_call (run_result q.table s a h w) (ran q.table s a h w) o d)
    (refused_call (values q.refusal.number 1 q.refusal.place) a h w o d)

-- READ, RUN AND WRITE: 11 where one of the five areas is too short; then the plan's refusal; then the script's and the run's
abbrev pub run_called : (plan script answer history work out done : List ℕ) → Called
run_called p s a h w o d =
    cond (lent_fit (length a) (length h) (length w) (length o) (length d)) (read_call (library.plan_read p) s a h w o d)
    (untouched_call a h w o d)
