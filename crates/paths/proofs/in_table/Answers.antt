-- `in_table` has a table for each size.
use Rattle.std.proofs.Common.{arith}
use Rattle.paths.proofs.AnalysisLaws.{pairs_most}
use Rattle.paths.proofs.in_table.Goals as goal

pub overflow_mul-size : goal.overflow_mul-size
overflow_mul-size c =
    omega (arith, pairs_most c.requires.first c.requires.second)

pub in_marks-requires-2-clause-room : goal.in_marks-requires-2-clause-room
in_marks-requires-2-clause-room c =
    omega (arith, pairs_most c.requires.first c.requires.second)
