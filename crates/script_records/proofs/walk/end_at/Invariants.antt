-- `walk::end_at` meets its contract. The loop's invariant is `Walked`; the measure is what is left of the bytes.
use Rattle.std.proofs.Common.{◌-◌, length}
use Rattle.script_records.proofs.WalkLaws.{Walked}
use Rattle.script_records.proofs.walk.end_at.Given as goal

abbrev pub invariant-loop-pending : goal.invariant-loop-pending
invariant-loop-pending l = Walked l.bytes l.at l.next l.pending

abbrev pub decreases-loop-pending : goal.decreases-loop-pending
decreases-loop-pending l = length l.bytes - l.next
