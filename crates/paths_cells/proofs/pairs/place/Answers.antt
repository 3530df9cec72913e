-- `pairs::place` is where a mark stands.
use Rattle.std.proofs.Common.{rules}
use Rattle.paths_cells.proofs.MarkLaws.{pair_within, row_within}
use Rattle.paths_cells.proofs.pairs.place.Goals as goal

pub overflow_mul-result : goal.overflow_mul-result
overflow_mul-result c =
    search (row_within c.requires, rules)

pub overflow_add-result : goal.overflow_add-result
overflow_add-result c =
    search (row_within c.requires, rules)

pub overflow_mul-result-2 : goal.overflow_mul-result-2
overflow_mul-result-2 c =
    search (pair_within c.requires, rules)

pub overflow_add-result-2 : goal.overflow_add-result-2
overflow_add-result-2 c =
    search (pair_within c.requires, rules)
