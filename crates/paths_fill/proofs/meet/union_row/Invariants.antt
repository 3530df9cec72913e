-- `meet::union_row` goes relation by relation.
use Rattle.paths_fill.proofs.TableLaws.{UnionTo}
use Rattle.paths_fill.proofs.meet.union_row.Given as goal

abbrev pub invariant-loop-r : goal.invariant-loop-r
invariant-loop-r l = UnionTo l.first l.second l.initial.table l.k l.r-index l.table
