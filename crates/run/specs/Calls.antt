-- What a run answers, for every input, and leaves in the lent areas.
use Rattle.std.specs.Prelude.{◌≡◌, cond, List, ℕ, ◌≤◌, eqb, length, replicate, Result, Ok, Err}
use Rattle.model.specs.Limits.{answer_need, history_need, work_need}
use Rattle.model.specs.Refusal as refusal
use Rattle.model.specs.Script.{read_script}
use Rattle.model.specs.Run.{Out, refused}
use Rattle.model.specs.Call.{Ran, ran_by, in_areas}
use Rattle.model.specs.Call as call
use Rattle.plan_table.specs.Packed.{encode, decode, fits}
use Rattle.plan_table.specs.Results.{refusal_of}
use Rattle.plan_table.specs.Refusals.{number_of, refusal_in}
use Rattle.plan_table.specs.declared.Refusal.{Refusal}
use Rattle.plan_table.specs.declared.Refused.{Refused}
use Rattle.plan_table.specs.declared.Table.{Table}
use Rattle.run_updates.specs.Tallying.{none_yet}
use Rattle.run_updates.specs.declared.tally.Tally.{Tally}
use Rattle.run.specs.declared.RunResult as whole
use Rattle.run.specs.declared.lent.Ended as lent

-- WHAT A RUN GIVES BACK: the refusal or none, the table, the items of the answer, the bytes of the history, the tally
pub record RunResult : Type 0 where
  pub refusal : refusal.Refusal
  pub table : Table
  pub items : ℕ
  pub bytes : ℕ
  pub tally : Tally

-- HOW IT ENDED on a lent table: the refusal or none, the items of the answer, the bytes of the history, the tally
pub record Ended : Type 0 where
  pub refusal : refusal.Refusal
  pub items : ℕ
  pub bytes : ℕ
  pub tally : Tally

-- THE RUN on a table handed in: 6 at place 0; then the script's own refusal; then the run's
abbrev pub outcome_of : Table → (script : List ℕ) → Out
outcome_of t b = cond (fits t) (call.run_by (decode t) (read_script b)) (refused (refusal.link_at 0))

-- 11 comes first, and nothing is touched
abbrev pub ran : Table → (script answer history work : List ℕ) → Ran
ran t b a h w = in_areas (decode t) a h w (outcome_of t b)

-- what it gives back: refused, the table is as it was handed in and the tally zero
abbrev pub tally_of : Ran → Tally
tally_of r = record { made = r.made; cut = r.cut; records = r.records }

-- its refusal, table, lengths and tally
abbrev pub result_of : Table → Ran → RunResult
result_of t r =
    record {
      refusal = refusal_of r.refusal;
      table = cond (refusal.is_fine r.refusal) (encode r.plan) t;
      items = r.items;
      bytes = r.bytes;
      tally = tally_of r;
    }

-- what the call answers
abbrev pub run_result : Table → (script answer history work : List ℕ) → RunResult
run_result t b a h w = result_of t (ran t b a h w)

-- refused before the run
abbrev pub refused_result : (number place : ℕ) → Table → RunResult
refused_result n i t = record { refusal = record { number = n; place = i }; table = t; items = 0; bytes = 0; tally = none_yet }

-- ON A LENT TABLE: how a run ended, with a table
abbrev pub result_with : Ended → Table → RunResult
result_with e t = record { refusal = e.refusal; table = t; items = e.items; bytes = e.bytes; tally = e.tally }

-- with the lent table as it then is; refused, with the one handed in
abbrev pub result_in : (given : Table) → Ended → (lent : Table) → RunResult
result_in t e u = result_with e (cond (eqb e.refusal.number 0) u t)

-- refused before or in the run
abbrev pub refused_end : (number place : ℕ) → Ended
refused_end n i = record { refusal = record { number = n; place = i }; items = 0; bytes = 0; tally = none_yet }

-- a refusal or none, and what the call gives back with it
abbrev pub run_with : refusal.Refusal → whole.RunResult → RunResult
run_with f r = record { refusal = f; table = r.table; items = r.items; bytes = r.bytes; tally = r.tally }

-- what the call answers, told so
abbrev pub run_by : Result whole.RunResult (Refused whole.RunResult) → RunResult
run_by (Ok r) = run_with refusal.fine r
run_by (Err x) = run_with (refusal_in x.refusal) x.left

-- refused, it gives back the table that it was handed, and all else zero
abbrev pub given_back : Refusal → Table → Refused whole.RunResult
given_back x t = record { refusal = x; left = record { table = t; items = 0; bytes = 0; tally = none_yet } }

-- how a run on a lent table ended, told so: refused, all else is zero
abbrev pub ended_by : Result lent.Ended Refusal → Ended
ended_by (Ok e) = record { refusal = refusal.fine; items = e.items; bytes = e.bytes; tally = e.tally }
ended_by (Err x) = refused_end (number_of x.reason) x.place

-- IN AREAS that fit, answer and history cleared
pub record RunPre (a h w : List ℕ) : Type 0 where
  pub answer : answer_need ≤ length a
  pub history : history_need ≤ length h
  pub work : work_need ≤ length w
  pub answered : a ≡ replicate (length a) 0
  pub recorded : h ≡ replicate (length h) 0

pub record RunPost (t : Table) (b a h w : List ℕ) (u : Table) (a' h' : List ℕ) (r : Ended) : Type 0 where
  pub result : result_in t r u ≡ result_of t (ran_by (decode t) (length a) (length h) (length w) (outcome_of t b))
  pub answer : a' ≡ (ran_by (decode t) (length a) (length h) (length w) (outcome_of t b)).answer
  pub history : h' ≡ (ran_by (decode t) (length a) (length h) (length w) (outcome_of t b)).history
