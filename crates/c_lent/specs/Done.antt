-- The areas lent to a run through C: what each needs, and what they hold once the run is over.
use Rattle.std.specs.Prelude.{◌≡◌, Bool, true, ◌&&◌, List, [], ◌∷◌, ℕ, ◌+◌, ◌*◌, ◌≤◌, leb, length}
use Rattle.model.specs.Base.{at_front}
use Rattle.model.specs.Call.{lengths_fit}
use Rattle.model.specs.Limits.{max_rows, documents}
use Rattle.model.specs.Refusal.{Values, values}
use Rattle.model.specs.Stored.{record_size}
use Rattle.plan_writer.specs.Writing.{plan_written}
use Rattle.plan_table.specs.Packed.{fits}
use Rattle.plan_table.specs.declared.Table.{Table}
use Rattle.run.specs.Calls.{result_with}
use Rattle.run.specs.Calls.{RunResult}
use Rattle.run.specs.Calls.{Ended}
use Rattle.c_codes.specs.Codes.{values_unless, area_unless, finished_out}

-- what out needs, 2,080 bytes: a record for each row and mark of the longest plan
abbrev pub out_need : ℕ
out_need = record_size * (max_rows + documents)

-- what done needs: six numbers
abbrev pub done_need : ℕ
done_need = 6

-- asked before all else: each of the five areas is as long as its need
abbrev pub lent_fit : (answer history work out done : ℕ) → Bool
lent_fit a h w o d = lengths_fit a h w && leb out_need o && leb done_need d

-- six numbers over the front of done: items, rows made, links cut, records written, history bytes, bytes in out
abbrev pub done_over : (items made cut records bytes written : ℕ) → (done : List ℕ) → List ℕ
done_over i m c r b n d = at_front (i ∷ m ∷ c ∷ r ∷ b ∷ n ∷ []) d

-- ONCE THE RUN IS OVER: the script's refusal or the run's, out as it was and done zero; or the plan written, and its six numbers
abbrev pub end_values : RunResult → (out : List ℕ) → Values
end_values r o = values_unless r.refusal 2 (values (plan_written r.table o).refusal.number 0 0)

-- out after it
abbrev pub end_out : RunResult → (out : List ℕ) → List ℕ
end_out r o = finished_out (record { refusal = r.refusal; table = r.table }) o

-- done after it
abbrev pub end_done : RunResult → (out done : List ℕ) → List ℕ
end_done r o d =
    area_unless r.refusal
    (done_over r.items r.tally.made r.tally.cut r.tally.records r.bytes (plan_written r.table o).bytes d)
    (done_over 0 0 0 0 0 0 d)

-- how a run ended, with what the lent table then holds
abbrev pub left_in : Ended → (lent : Table) → RunResult
left_in e u = result_with e u

-- a run that is not refused leaves a table that fits
pub record EndPre (e : Ended) (u : Table) (done : List ℕ) : Type 0 where
  pub table : e.refusal.number ≡ 0 → fits u ≡ true
  pub room : done_need ≤ length done
