-- `undoing::undo_all` undoes every record, the last first. The loop's invariant is `Backing`.
use Rattle.std.proofs.Common.{length, ◌-◌}
use Rattle.run_undo.proofs.UndoLawsBack.{Backing}
use Rattle.run_undo.proofs.undoing.undo_all.Given as goal

abbrev pub invariant-loop-place : goal.invariant-loop-place
invariant-loop-place l =
    Backing l.initial.rows l.marks l.initial.left l.bytes l.places (length l.places) l.rows l.left (length l.places - length l.yielded)
