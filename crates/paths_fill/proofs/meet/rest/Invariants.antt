-- `meet::rest` goes pair by pair.
use Rattle.paths_fill.proofs.RestLaws.{LeftTo}
use Rattle.paths_fill.proofs.meet.rest.Given as goal

abbrev pub invariant-loop-l : goal.invariant-loop-l
invariant-loop-l l = LeftTo l.first l.second l.columns l.initial.table l.k l.l l.table
