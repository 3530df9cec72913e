use Rattle.paths_rows.specs.Rows.{element_by}
use Rattle.paths_rows.proofs.rows.on_elements.Goals as goal

pub returns : goal.returns
returns c =
    (c.mark_row.ensures.is (element_by c.args.columns.now c.args.parents.now c.args.named c.args.low c.args.high) (λ x l b h w p. p)).0
