use Rattle.paths_rows.specs.Rows.{leaf_by}
use Rattle.paths_rows.proofs.rows.on_leaves.Goals as goal

pub returns : goal.returns
returns c =
    let all = c.mark_row.ensures.is (leaf_by c.args.columns.now c.args.parents.now) (λ x l b h w p. p) in
    record { row_marked = all.0; value = all.1 }
