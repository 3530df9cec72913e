-- `sweep::renumber` gives each mark its new link. The loop's invariant: the marks passed have theirs.
use Rattle.std.proofs.Common.{take, drop, ◌++◌, ◌≡◌}
use Rattle.plan_sweep.specs.Sweeping.{new_links}
use Rattle.plan_sweep.proofs.sweep.renumber.Given as goal

abbrev pub invariant-loop-m : goal.invariant-loop-m
invariant-loop-m l = l.marks ≡ new_links l.numbers (take l.m-index l.initial.marks) ++ drop l.m-index l.initial.marks
