use Rattle.std.proofs.Common.{ℕ, List, ap, ◌∙◌, arith, get_or}
use Rattle.paths_rows.proofs.ColumnLaws.{field_written}
use Rattle.paths_rows.proofs.columns.column.Goals as goal

pub loop-f-preserved : goal.loop-f-preserved
loop-f-preserved c =
    let inv = c.loop-f.invariant in
    let pre = c.requires.fits in
    field_written (record { size = inv.size ∙ pre.size; field = omega arith; column = pre.column })
    (ap (λ (x : List ℕ). get_or x c.loop-f.f 0) c.fields-fields.ensures) inv
