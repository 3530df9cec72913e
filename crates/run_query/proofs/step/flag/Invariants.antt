-- `step::flag` flags the items of a value. The loop's invariant: the flags are those of the items passed.
use Rattle.std.proofs.Common.{take}
use Rattle.run_query.specs.Stepping.{ClearBelow, Flagged}
use Rattle.run_query.proofs.step.flag.Given as goal

abbrev pub invariant-loop-item : goal.invariant-loop-item
invariant-loop-item l = Flagged (take l.item-index l.items) l.flags × ClearBelow l.count l.low l.flags
