-- `sweep::flag` flags the marked rows. The loop's invariant: the flags are those of the marks passed.
use Rattle.std.proofs.Common.{take}
use Rattle.plan_sweep.specs.Sweeping.{Flagged}
use Rattle.plan_sweep.proofs.sweep.flag.Given as goal

abbrev pub invariant-loop-m : goal.invariant-loop-m
invariant-loop-m l = Flagged (take l.m-index l.marks) l.numbers
