-- `meet::unions` marks one relation after the other.
use Rattle.paths_fill.proofs.TableLaws.{UnionsTo}
use Rattle.paths_fill.proofs.meet.unions.Given as goal

abbrev pub invariant-loop-r : goal.invariant-loop-r
invariant-loop-r l = UnionsTo l.initial.table l.m l.k l.l l.a l.b l.r-index l.table
