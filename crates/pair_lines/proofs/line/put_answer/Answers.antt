-- `lines::put_answer` places the line of the answer.
use Rattle.pair_lines.proofs.LineLaws.{answer_placed}
use Rattle.pair_lines.proofs.line.put_answer.Goals as goal

pub returns : goal.returns
returns c =
    answer_placed c.requires c.put-n.ensures c.put-m.ensures c.put.ensures
