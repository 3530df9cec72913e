-- `insert::copy_items` copies every item. The loop's invariant is `Inserting`.
use Rattle.run_updates.specs.State.{going}
use Rattle.run_insert.proofs.InsertLawsItems.{Inserting}
use Rattle.run_insert.specs.Inserting.{copier}
use Rattle.run_insert.proofs.insert.copy_items.Given as goal

abbrev pub invariant-loop-item : goal.invariant-loop-item
invariant-loop-item l =
    Inserting l.items l.target.0 (copier l.initial.rows l.initial.history l.initial.map (going l.initial.now))
    (copier l.rows l.history l.map (going l.now)) l.item-index
