-- `read::records` reads every record. The loop's invariant is `Held`: reading on from the table so far gives the whole reading.
use Rattle.std.proofs.Common.{length, drop, ◌≡◌, ◌-◌, ◌≤◌}
use Rattle.plan_reader.specs.Reading.{Held}
use Rattle.plan_table.specs.Packed.{decode_parts}
use Rattle.model.specs.Stored.{read_from, read_plan}
use Rattle.plan_reader.proofs.read.records.Given as goal

abbrev pub invariant-loop-at : goal.invariant-loop-at
invariant-loop-at l = Held l.rows l.marks l.count l.last × (l.at-counter ≤ length l.bytes) × (read_from
    (length l.bytes - l.at-counter) (decode_parts l.count l.rows l.marks) l.at-counter (drop l.at-counter l.bytes) ≡ read_plan l.bytes)
