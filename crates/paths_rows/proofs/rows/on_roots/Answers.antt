use Rattle.paths_rows.specs.Rows.{root_by}
use Rattle.paths_rows.proofs.rows.on_roots.Goals as goal

pub returns : goal.returns
returns c =
    (c.mark_row.ensures.is (root_by c.args.columns.now c.args.low c.args.high) (λ x l b h w p. p)).0
