-- `index::build` enters the rows from the highest down. The loop's invariant: the rows from here on are entered.
use Rattle.run_query.proofs.IndexLaws.{Entering}
use Rattle.run_query.proofs.index.build.Given as goal

abbrev pub invariant-loop-j : goal.invariant-loop-j
invariant-loop-j l = Entering l.index l.count l.rows l.j
