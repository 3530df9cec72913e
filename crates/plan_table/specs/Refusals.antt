-- Why a call refuses, and what calls answer, in the rules' numbers.
use Rattle.std.specs.Prelude.{ℕ}
use Rattle.model.specs.Refusal as refusal
use Rattle.plan_table.specs.declared.Reason as declared
use Rattle.plan_table.specs.declared.Reason.TheVariants.{Kind, Short, Tail, Field, Size, Link, Target, Items, Lent}
use Rattle.plan_table.specs.declared.Reason.TheVariants as reason
use Rattle.plan_table.specs.declared.Refusal.{Refusal}
use Rattle.plan_table.specs.declared.Script.{Script}
use Rattle.plan_table.specs.declared.Script.TheVariants.{First, Second}

-- A REASON has the number of the refusals' table
abbrev pub number_of : declared.Reason → ℕ
number_of Kind = 1
number_of Short = 2
number_of Tail = 3
number_of Field = 4
number_of Size = 5
number_of Link = 6
number_of Target = 7
number_of Items = 8
number_of reason.Table = 10
number_of Lent = 11

-- the refusal of the rules that an error is
abbrev pub refusal_in : Refusal → refusal.Refusal
refusal_in x = refusal.refusal (number_of x.reason) x.place

-- A SCRIPT of two has the number 1 or 2
abbrev pub script_number : Script → ℕ
script_number First = 1
script_number Second = 2

-- the other of the two
abbrev pub other_script : Script → Script
other_script First = Second
other_script Second = First
