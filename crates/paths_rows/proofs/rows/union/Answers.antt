use Rattle.std.proofs.Common.{◌∙◌}
use Rattle.paths_cells.specs.Pairs.{relation_number}
use Rattle.paths_rows.specs.Rows.{either_by}
use Rattle.paths_rows.proofs.RowLaws.{pair_asks, either_same}
use Rattle.paths_rows.proofs.rows.union.Goals as goal

pub mark_row-requires-clause-calls : goal.mark_row-requires-clause-calls
mark_row-requires-clause-calls c =
    λ x l h e. (
      pair_asks c.args.table.now x.now _ e c.requires.first c.requires.relation h,
      pair_asks c.args.table.now x.now _ e c.requires.second c.requires.relation h,
    )

pub returns : goal.returns
returns c =
    (c.mark_row.ensures.is (either_by c.args.table.now c.args.m (relation_number c.args.relation) c.args.a c.args.b)
    (λ x l b h w p. p ∙ either_same c.args.a c.args.b w c.requires.relation h)).0
