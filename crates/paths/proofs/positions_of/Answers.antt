-- `positions_of` gives the positions of the expression that the script is.
use Rattle.std.proofs.Common.{refl}
use Rattle.paths.proofs.AnalysisLaws.{positions_asks, positions_done}
use Rattle.paths.proofs.positions_of.Goals as goal

pub emit-requires : goal.emit-requires
emit-requires c =
    positions_asks c.requires refl

pub returns : goal.returns
returns c =
    positions_done c.requires c.emit.ensures
