use Rattle.std.proofs.Common.{arith}
use Rattle.paths_fill.proofs.RestLaws.{pair_asks}
use Rattle.paths_fill.proofs.meet.rest.Goals as goal

pub pair-requires : goal.pair-requires
pair-requires c =
    pair_asks c.requires c.loop-l.invariant (omega arith)
