-- `marks::is_marked` finds a row's link among the marks.
use Rattle.std.proofs.Common.{◌∙◌}
use Rattle.plan_table.proofs.DecodeLaws.{marked_listed}
use Rattle.plan_table.proofs.marks.is_marked.Goals as goal

pub returns : goal.returns
returns c = c.contains.ensures.value ∙ marked_listed c.args.marks.now c.args.row.0
