-- `in_marks` has room for all pairs, cleared.
use Rattle.std.proofs.Common.{arith, ap, ◌∙◌, length}
use Rattle.std.proofs.lemmas.List.{length-replicate}
use Rattle.paths_cells.proofs.MarkLaws.{cleared_length}
use Rattle.paths.proofs.AnalysisLaws.{table_asks, clear_all}
use Rattle.paths.proofs.in_marks.Goals as goal

pub answer_in-requires : goal.answer_in-requires
answer_in-requires g c =
    table_asks c.requires.first c.requires.second _
    (omega (arith, ap length c.clear.ensures ∙ cleared_length _ ∙ length-replicate g.row.MARKS 0)) (clear_all _ c.clear.ensures)
