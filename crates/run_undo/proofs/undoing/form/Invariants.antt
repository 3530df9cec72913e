-- `undoing::form` finds the records' places, or the first refusal. The loop's invariant is `Forming`.
use Rattle.std.proofs.Common.{length, ◌-◌}
use Rattle.run_undo.proofs.UndoLaws.{Forming}
use Rattle.run_undo.proofs.undoing.form.Given as goal

abbrev pub invariant-loop-at : goal.invariant-loop-at
invariant-loop-at l = Forming l.bytes l.places l.at l.records

abbrev pub decreases-loop-at : goal.decreases-loop-at
decreases-loop-at l = length l.bytes - l.at
