use Rattle.std.proofs.Common.{◌∙◌, arith}
use Rattle.paths_rows.specs.Rows.{down_by}
use Rattle.paths_rows.proofs.RowLaws.{pair_asks, down_same}
use Rattle.paths_rows.proofs.rows.down.Goals as goal

pub mark_row-requires-clause-calls : goal.mark_row-requires-clause-calls
mark_row-requires-clause-calls c =
    λ x l h e. (
      record { size = c.requires.pass.size; column = omega (arith, c.requires.pass.few) },
      (
        pair_asks c.args.table.now x.now _ e c.requires.source (omega arith) h,
        pair_asks c.args.table.now x.now _ e c.requires.pass.room (omega arith) h,
      ),
    )

pub returns : goal.returns
returns c =
    let all = c.mark_row.ensures.is
    (down_by c.args.table.now c.args.m c.args.columns.now c.args.i c.args.k c.args.element c.args.deep)
    (λ x l b h w p. p ∙ down_same c.args.columns.now c.args.i c.args.element c.args.deep w h) in
    record { row_marked = all.0; value = all.1 }
