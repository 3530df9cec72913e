use Rattle.std.proofs.Common.{get_or, ◌∙◌, sym, ap, ◌*◌}
use Rattle.plan_writer.proofs.WriteRecordLaws.{rows_start, rows_grown}
use Rattle.model.specs.Base.{over}
use Rattle.plan_table.specs.Packed.{row_of, rows_of}
use Rattle.model.specs.Stored.{row_bytes}
use Rattle.plan_writer.proofs.write.rows.Goals as goal

pub loop-i-init : goal.loop-i-init
loop-i-init c = sym (rows_start c.args.out.now (rows_of c.args.count c.args.rows.now))

pub loop-i-preserved : goal.loop-i-preserved
loop-i-preserved c =
    c.row.ensures ∙ ap (over (4 * c.loop-i.i) (row_bytes (row_of (get_or c.args.rows.now c.loop-i.i 0)))) c.loop-i.invariant ∙
    rows_grown c.args.rows.now c.args.count c.loop-i.i c.requires.rows c.loop-i-test.true c.args.out.now c.requires.room
