-- `pairs::mark` writes one byte: 1 where the pair is to be marked, and else the 0 that stands there.
use Rattle.std.proofs.Common.{arith}
use Rattle.paths_cells.proofs.MarkLaws.{pair_within}
use Rattle.paths_cells.proofs.pairs.mark.Goals as goal

pub bounds-table-at : goal.bounds-table-at
bounds-table-at c =
    omega (arith, c.place-at.ensures, pair_within c.requires.pair)
