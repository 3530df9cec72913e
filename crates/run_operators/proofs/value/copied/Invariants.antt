-- `copied`: the loop copies item by item; what it has not reached is as it was.
use Rattle.run_operators.proofs.ValueLaws.{Copying}
use Rattle.run_operators.proofs.value.copied.Given as goal

abbrev pub invariant-loop-k : goal.invariant-loop-k
invariant-loop-k l = Copying l.initial.work l.from l.to l.top l.work l.k l.at
