use Rattle.std.proofs.Common.{rules}
use Rattle.pair.proofs.ReadLaws.{filled_more}
use Rattle.pair.proofs.read_full.Goals as goal

pub loop-done-preserved : goal.loop-done-preserved
loop-done-preserved g c =
    let kept = c.loop-done.invariant in
    let read = c.in-Ok.ensures in
    (search rules, search rules, search rules, filled_more _ _ _ _ _ _ _ _ kept.1 read.bound.0 kept.3 read.bytes.0)
