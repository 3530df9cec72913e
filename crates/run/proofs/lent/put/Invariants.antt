-- `put`: the loop puts the value at the front, item by item; what is behind it stays.
use Rattle.std.proofs.Common.{◌≡◌, length}
use lib.Seq.{paste}
use Rattle.run.proofs.lent.put.Given as goal

abbrev pub invariant-loop-j : goal.invariant-loop-j
invariant-loop-j l = (length l.area ≡ length l.initial.area) × (l.area ≡ paste l.initial.area 0 l.value l.j)
