-- `write::stored_length` is the length of the stored form. The loop's invariant: the marks passed are counted.
use Rattle.std.proofs.Common.{length, take, map, ◌≡◌, ◌+◌, ◌*◌, ◌≤◌}
use Rattle.plan_table.specs.Packed.{of_link}
use Rattle.model.specs.Limits.{max_rows}
use Rattle.model.specs.Stored.{marks_bytes, record_size}
use Rattle.plan_writer.proofs.write.stored_length.Given as goal

abbrev pub invariant-loop-m : goal.invariant-loop-m
invariant-loop-m l =
    (l.n ≤ record_size * (max_rows + l.m-index)) ×
    (l.n ≡ record_size * l.count + length (marks_bytes 0 (map of_link (take l.m-index
    l.marks))))
