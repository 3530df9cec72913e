-- Document 01, 'The program `pair`': the two orders of two scripts on a table.
use Rattle.std.specs.Prelude.{cond, List, ℕ, eqb, length, Result, Ok, Err}
use Rattle.model.specs.Run.{Out, refused, gives}
use Rattle.plan_table.specs.Packed.{encode}
use Rattle.plan_table.specs.Refusals.{number_of, script_number}
use Rattle.plan_table.specs.declared.Reason.{Reason}
use Rattle.plan_table.specs.declared.Table.{Table}
use Rattle.run.specs.Calls.{outcome_of}
use Rattle.pair_orders.specs.declared.orders.Ending as alone
use Rattle.pair_orders.specs.declared.orders.Ended as whole
use Rattle.pair_orders.specs.declared.orders.Refused as failed

-- HOW A RUN ENDS: the number of its refusal, or 0; the items of its answer; the table after it
pub record Ending : Type 0 where
  pub number : ℕ
  pub items : ℕ
  pub table : Table

-- how an order ends: the script refused, 1 or 2, and the number; or the items of the two answers and the rows at the end
pub data Order : Type 0 where
  Refused : (script number : ℕ) → Order
  Ended : (first second rows : ℕ) → Order

-- what the code answers, told so: refused, the table another one
abbrev pub ending_told : Table → Result alone.Ending Reason → Ending
ending_told t (Ok x) = record { number = 0; items = x.items; table = x.table }
ending_told t (Err r) = record { number = number_of r; items = 0; table = t }

abbrev pub order_told : Result whole.Ended failed.Refused → Order
order_told (Ok x) = Ended x.first x.second x.rows
order_told (Err x) = Refused (script_number x.script) (number_of x.reason)

-- A RUN of a script on a table, as `ran` has it for all areas that suffice: refused, with its number; or its items and the table after it
abbrev pub ending_by : Table → Out → Ending
ending_by t (refused f) = record { number = f.number; items = 0; table = t }
ending_by t (gives v s) = record { number = 0; items = length v; table = encode s.plan }

-- a script's bytes run on a table
unfoldable pub ending : Table → (script : List ℕ) → Ending
ending t b = ending_by t (outcome_of t b)

-- AN ORDER: the script that follows gets the table as the one that leads left it; after a refusal no script runs
abbrev pub order_then : (items : ℕ) → Ending → Order
order_then i r = cond (eqb r.number 0) (Ended i r.items r.table.count) (Refused 2 r.number)

-- the script that follows, unless the one that leads is refused
abbrev pub order_from : Ending → (follows : List ℕ) → Order
order_from r c = cond (eqb r.number 0) (order_then r.items (ending r.table c)) (Refused 1 r.number)

-- both scripts, one after the other
unfoldable pub order : Table → (leads follows : List ℕ) → Order
order t b c = order_from (ending t b) c

-- 1 is `first` in either order: an order that the second leads, with each script under its own number
abbrev pub swap : Order → Order
swap (Refused s n) = Refused (cond (eqb s 1) 2 1) n
swap (Ended i j r) = Ended j i r
