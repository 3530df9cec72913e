use Rattle.std.proofs.Common.{arith}
use Rattle.paths_fill.proofs.TableLaws.{relation_at, part_asks, unions_mark, unions_next}
use Rattle.paths_fill.proofs.meet.unions.Goals as goal

pub is_marked-requires : goal.is_marked-requires
is_marked-requires c =
    rw (relation_at c.loop-r.r-index (omega arith))
    (part_asks c.requires c.loop-r.invariant (omega arith) _ (omega (arith, c.requires.first)))

pub is_marked-requires-in-loop-r : goal.is_marked-requires-in-loop-r
is_marked-requires-in-loop-r c =
    rw (relation_at c.loop-r.r-index (omega arith))
    (part_asks c.requires c.loop-r.invariant (omega arith) _ (omega (arith, c.requires.second)))

pub mark-requires : goal.mark-requires
mark-requires c =
    rw (relation_at c.loop-r.r-index (omega arith)) (unions_mark c.requires c.loop-r.invariant (omega arith) _)

pub loop-r-preserved : goal.loop-r-preserved
loop-r-preserved c =
    let is = relation_at c.loop-r.r-index (omega arith) in
    unions_next c.requires c.loop-r.invariant (omega arith) _ _ (rw is at c.is_marked.ensures) (rw is at c.is_marked-in-loop-r.ensures)
    (rw is at c.mark.ensures)
