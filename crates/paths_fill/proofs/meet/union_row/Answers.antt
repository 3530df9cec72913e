use Rattle.std.proofs.Common.{arith}
use Rattle.paths_fill.proofs.TableLaws.{relation_at, row_asks, union_next, union_done}
use Rattle.paths_fill.proofs.meet.union_row.Goals as goal

pub union-requires : goal.union-requires
union-requires c =
    rw (relation_at c.loop-r.r-index (omega arith)) (row_asks c.requires c.loop-r.invariant (omega arith))

pub loop-r-preserved : goal.loop-r-preserved
loop-r-preserved c =
    union_next c.requires c.loop-r.invariant (omega arith) (rw (relation_at c.loop-r.r-index (omega arith)) at c.union.ensures)

pub returns : goal.returns
returns c =
    union_done c.requires c.loop-r.invariant (omega arith)
