-- What calls answer, from the model's refusals: each answer as a number, 0 where nothing is refused, and what comes with it.
use Rattle.std.specs.Prelude.{cond, List, ℕ, eqb, Result, Ok, Err}
use Rattle.model.specs.Refusal as refusal
use Rattle.model.specs.Table as model
use Rattle.plan_table.specs.Packed.{encode, table_of}
use Rattle.plan_table.specs.Refusals.{number_of, refusal_in}
use Rattle.plan_table.specs.declared.Reason.{Reason}
use Rattle.plan_table.specs.declared.Refusal.{Refusal}
use Rattle.plan_table.specs.declared.Refused.{Refused}
use Rattle.plan_table.specs.declared.Table.{Table}

-- THE ANSWER of a call that gives a table back: the refusal or none, and the table
pub record TableResult : Type 0 where
  pub refusal : refusal.Refusal
  pub table : Table

-- of a call that writes: the refusal or none, and the bytes written
pub record Written : Type 0 where
  pub refusal : refusal.Refusal
  pub bytes : ℕ

-- of a pass over records: a refusal's number and place, or 0 and the place reached (0 if the pass has none), and how many rows or records
-- were counted
pub record End : Type 0 where
  pub number : ℕ
  pub place : ℕ
  pub count : ℕ

-- a refusal as a call answers it
abbrev pub refusal_of : refusal.Refusal → refusal.Refusal
refusal_of x = refusal.refusal x.number x.place

-- a refusal or none, and the table given back
abbrev pub with_table : refusal.Refusal → Table → TableResult
with_table f t = record { refusal = refusal_of f; table = t }

-- and one of the model's, packed
abbrev pub result : refusal.Refusal → model.Table → TableResult
result f x = with_table f (encode x)

-- how a pass over lent rows and marks ended: refused, with another table given back; or with the one that they hold
abbrev pub left_by : Table → End → (rows marks : List ℕ) → TableResult
left_by t e ws ms =
    cond (eqb e.number 0) (with_table refusal.fine (table_of e.count ws ms)) (with_table (refusal.refusal e.number e.place) t)

-- writing: refused at place 0, or number 0 and the bytes written
abbrev pub written_by : (number bytes : ℕ) → Written
written_by n b = record { refusal = record { number = n; place = 0 }; bytes = b }

-- WHAT A RESULT SAYS. The number of the reason, 0 where there is none
abbrev pub number_by : {A : Type 0} → Result A Reason → ℕ
number_by (Ok x) = 0
number_by (Err r) = number_of r

-- the refusal, or none
abbrev pub refusal_by : {A : Type 0} → Result A Refusal → refusal.Refusal
refusal_by (Ok x) = refusal.fine
refusal_by (Err e) = refusal_in e

-- the refusal or none, and the table given back
abbrev pub table_by : Result Table (Refused Table) → TableResult
table_by (Ok u) = with_table refusal.fine u
table_by (Err e) = with_table (refusal_in e.refusal) e.left

-- of a call on a lent table: what it then holds; refused, another one
abbrev pub lent_by : {A : Type 0} → (other lent : Table) → Result A Refusal → TableResult
lent_by t u (Ok x) = with_table refusal.fine u
lent_by t u (Err e) = with_table (refusal_in e) t

-- the bytes written, none where it is refused
abbrev pub bytes_by : Result ℕ Refusal → Written
bytes_by (Ok n) = record { refusal = refusal.fine; bytes = n }
bytes_by (Err e) = record { refusal = refusal_in e; bytes = 0 }

-- the rows or records counted
abbrev pub end_by : Result ℕ Refusal → End
end_by (Ok n) = record { number = 0; place = 0; count = n }
end_by (Err e) = record { number = number_of e.reason; place = e.place; count = 0 }
