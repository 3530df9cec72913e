use Rattle.std.proofs.Common.{length, get_or, ◌≡◌, ap, arith}
use Rattle.plan_writer.proofs.WriteRecordLaws.{length_mark, length_marks, marks_start}
use Rattle.plan_table.specs.Packed.{of_link}
use Rattle.model.specs.Stored.{mark_bytes}
use Rattle.plan_writer.proofs.write.stored_length.Goals as goal

pub loop-m-init : goal.loop-m-init
loop-m-init c =
    (omega (arith, c.requires.0), omega (arith, ap length (marks_start c.args.marks.now)))

pub overflow_add-n : goal.overflow_add-n
overflow_add-n c =
    let told : let a = c.args in
    c.mark_length-n.result ≡ length (mark_bytes c.loop-m.m-index (of_link (get_or a.marks.now
    c.loop-m.m-index 0))) = rw c.from.ensures at (c.mark_length-n.ensures c.loop-m.m-index) in
    record {
      fits = omega (
        arith,
        c.loop-m.invariant.0,
        c.requires.1,
        told,
        length_mark c.loop-m.m-index (of_link (get_or c.args.marks.now c.loop-m.m-index 0)),
      );
    }

pub loop-m-preserved : goal.loop-m-preserved
loop-m-preserved c =
    let told : let a = c.args in
    c.mark_length-n.result ≡ length (mark_bytes c.loop-m.m-index (of_link (get_or a.marks.now
    c.loop-m.m-index 0))) = rw c.from.ensures at (c.mark_length-n.ensures c.loop-m.m-index) in (
      omega (
        arith,
        c.loop-m.invariant.0,
        told,
        length_mark c.loop-m.m-index (of_link (get_or c.args.marks.now c.loop-m.m-index 0)),
      ),
      omega (
        arith,
        c.loop-m.invariant.1,
        length_marks c.args.marks.now c.loop-m.m-index c.loop-m-test.true,
        told,
      ),
    )
