-- `lines::put_file` places the line of a refused file.
use Rattle.std.proofs.Common.{◌∙◌}
use Rattle.pair_lines.proofs.LineLaws.{file_placed}
use Rattle.pair_lines.proofs.line.put_file.Goals as goal

pub returns : goal.returns
returns c =
    file_placed c.requires c.put-n.ensures c.put-m.ensures (rw (c.from-2.ensures ∙ c.from.ensures) at c.put_field-k.ensures)
    c.put_field-j.ensures c.put.ensures
