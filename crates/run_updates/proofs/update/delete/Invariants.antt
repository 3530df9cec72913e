-- `update::delete` cuts every row of a value. The loop's invariant is `Deleting`.
use Rattle.run_updates.specs.State.{going}
use Rattle.run_updates.proofs.UpdateLaws.{Deleting}
use Rattle.run_updates.proofs.update.delete.Given as goal

abbrev pub invariant-loop-item : goal.invariant-loop-item
invariant-loop-item l = Deleting l.initial.rows l.initial.history (going l.initial.now) l.items l.rows l.history (going l.now) l.item-index
