-- `insert::copy_rest` copies the descendants of the top. The loop's invariant is `Copying`.
use Rattle.run_updates.specs.State.{going}
use Rattle.run_insert.proofs.InsertLawsRest.{Copying}
use Rattle.run_insert.specs.Inserting.{copier}
use Rattle.run_insert.proofs.insert.copy_rest.Given as goal

abbrev pub invariant-loop-j : goal.invariant-loop-j
invariant-loop-j l =
    Copying l.old l.top.0 (copier l.initial.rows l.initial.history l.initial.map (going l.initial.now))
    (copier l.rows l.history l.map (going l.now)) l.j
