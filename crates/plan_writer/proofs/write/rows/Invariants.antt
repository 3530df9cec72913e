-- `write::rows` puts the rows over the area. The loop's invariant: those passed stand there.
use Rattle.std.proofs.Common.{take, ◌≡◌}
use Rattle.model.specs.Base.{over}
use Rattle.plan_table.specs.Packed.{rows_of}
use Rattle.model.specs.Stored.{rows_bytes}
use Rattle.plan_writer.proofs.write.rows.Given as goal

abbrev pub invariant-loop-i : goal.invariant-loop-i
invariant-loop-i l = l.out ≡ over 0 (rows_bytes (take l.i (rows_of l.count l.rows))) l.initial.out
