-- What a C call answers: number, which and place, and the one number that carries them. And the end of a call that writes a plan.
use Rattle.std.specs.Prelude.{cond, List, ℕ, ◌+◌, ◌*◌, ◌/◌, ◌%◌, eqb}
use Rattle.model.specs.Refusal.{Values, values, lent_short}
use Rattle.plan_writer.specs.Writing.{plan_written, written_out}
use Rattle.model.specs.Refusal.{Refusal}
use Rattle.plan_table.specs.declared.Refusal as declared
use Rattle.plan_table.specs.Refusals.{number_of}
use Rattle.c_codes.specs.declared.answer.Whose.{Whose}
use Rattle.c_codes.specs.declared.answer.Whose.TheVariants.{Area, Plan, Script}
use Rattle.plan_table.specs.Results.{TableResult}
use Rattle.plan_table.specs.Results.{Written}

-- a place of 2^48 or more, past any memory, is taken modulo that
abbrev pub place_limit : ℕ
place_limit = 281474976710656

-- number + 256 × which + 65,536 × place
abbrev pub code_of : Values → ℕ
code_of v = v.number + 256 * v.which + 65536 * (v.place % place_limit)

-- and back: the three that a number carries
abbrev pub decoded : ℕ → Values
decoded c = values (c % 256) (c / 256 % 256) (c / 65536)

-- whose refusal it is, as `which`
abbrev pub which_of : Whose → ℕ
which_of Area = 0
which_of Plan = 1
which_of Script = 2

-- a refusal that a call answers, and whose it is
abbrev pub refused_values : (which : ℕ) → declared.Refusal → Values
refused_values w x = values (number_of x.reason) w x.place

-- 11 at place 0 for an area too short
abbrev pub lent_values : Values
lent_values = values lent_short.number 0 lent_short.place

-- a plan written: its bytes as the place, or the refusal of the area
abbrev pub written_values : Written → Values
written_values w = values w.refusal.number 0 w.bytes

-- A REFUSAL, of which `which` says whose it is, or what else is answered
abbrev pub values_unless : Refusal → (which : ℕ) → (rest : Values) → Values
values_unless f w v = cond (eqb f.number 0) v (values f.number w f.place)

-- and what an area is left with: the rest, or where something is refused what is kept
abbrev pub area_unless : Refusal → (rest kept : List ℕ) → List ℕ
area_unless f b o = cond (eqb f.number 0) b o

-- THE END of a call that gives a table: its refusal, or the table written
abbrev pub finished_values : TableResult → (which : ℕ) → (out : List ℕ) → Values
finished_values r w o = values_unless r.refusal w (written_values (plan_written r.table o))

-- and the area
abbrev pub finished_out : TableResult → (out : List ℕ) → List ℕ
finished_out r o = area_unless r.refusal (written_out r.table o) o
