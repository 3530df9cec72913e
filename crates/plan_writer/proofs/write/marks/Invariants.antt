-- `write::marks` puts the marks over the area. The loop's invariant: those passed stand there.
use Rattle.std.proofs.Common.{length, take, map, ◌≡◌, ◌+◌}
use Rattle.model.specs.Base.{over}
use Rattle.plan_table.specs.Packed.{of_link}
use Rattle.model.specs.Stored.{marks_bytes}
use Rattle.plan_writer.proofs.write.marks.Given as goal

abbrev pub invariant-loop-d : goal.invariant-loop-d
invariant-loop-d l =
    (l.at ≡ l.start + length (marks_bytes 0 (map of_link (take l.d l.marks)))) ×
    (l.out ≡ over l.start (marks_bytes 0 (map of_link (take l.d l.marks))) l.initial.out)
