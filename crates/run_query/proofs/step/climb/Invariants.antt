-- `step::climb` flags the rows above the items. The loop's invariant is `Climbing`.
use Rattle.run_query.proofs.PassLaws.{Climbing}
use Rattle.run_query.proofs.step.climb.Given as goal

abbrev pub invariant-loop-j : goal.invariant-loop-j
invariant-loop-j l = Climbing l.rows l.count l.deep l.flags l.j l.reached
