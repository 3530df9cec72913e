-- `pairs::is_marked` reads one byte.
use Rattle.std.proofs.Common.{arith}
use Rattle.paths_cells.proofs.MarkLaws.{pair_within}
use Rattle.paths_cells.proofs.pairs.is_marked.Goals as goal

pub bounds-table-at : goal.bounds-table-at
bounds-table-at c =
    omega (arith, c.place-at.ensures, pair_within c.requires)
