use Rattle.std.proofs.Common.{length, get_or, take, List, map, ◌≡◌, ◌∙◌, sym, ap, ℕ, ◌+◌, ◌≤◌, arith}
use Rattle.plan_writer.proofs.WriteRecordLaws.{length_marks, marks_start, marks_front, marks_grown}
use Rattle.model.proofs.ListLaws.{over_nil}
use Rattle.model.specs.Base.{over}
use Rattle.plan_table.specs.Packed.{of_link}
use Rattle.model.specs.Stored.{mark_bytes, marks_bytes}
use Rattle.plan_writer.proofs.write.marks.Goals as goal

pub loop-d-init : goal.loop-d-init
loop-d-init c = (
  omega (arith, ap length (marks_start c.args.marks.now)),
  sym (ap (λ (b : List ℕ). over
      c.args.start b c.args.out.now) (marks_start c.args.marks.now) ∙
      over_nil c.args.start c.args.out.now),
)

pub mark-requires-clause-link_in_bounds : goal.mark-requires-clause-link_in_bounds
mark-requires-clause-link_in_bounds c =
    let room : let a = c.args in
    c.loop-d.at + length (mark_bytes c.loop-d.d (of_link (get_or a.marks.now c.loop-d.d 0))) ≤ length
    a.out.now = omega (
      arith,
      c.loop-d.invariant.0,
      c.requires.room,
      length_marks c.args.marks.now c.loop-d.d c.loop-d-test.true,
      marks_front 0 (c.loop-d.d + 1) c.args.marks.now,
    ) in
    rw c.from-link.ensures (omega (arith, room))

pub loop-d-preserved : goal.loop-d-preserved
loop-d-preserved c =
    let room : let a = c.args in
    c.loop-d.at + length (mark_bytes c.loop-d.d (of_link (get_or a.marks.now c.loop-d.d 0))) ≤ length
    a.out.now = omega (
      arith,
      c.loop-d.invariant.0,
      c.requires.room,
      length_marks c.args.marks.now c.loop-d.d c.loop-d-test.true,
      marks_front 0 (c.loop-d.d + 1) c.args.marks.now,
    ) in
    let told : let a = c.args in
    c.mark_length-at.result ≡ length (mark_bytes c.loop-d.d (of_link
    (get_or a.marks.now c.loop-d.d 0))) = rw c.from-link.ensures at (c.mark_length-at.ensures
    c.loop-d.d) in
    let m = get_or c.args.marks.now c.loop-d.d 0 in (
      omega (
        arith,
        c.loop-d.invariant.0,
        length_marks c.args.marks.now c.loop-d.d c.loop-d-test.true,
        told,
      ),
      rw c.from-link.ensures at c.mark.ensures ∙
          ap (λ (i : ℕ). over i (mark_bytes c.loop-d.d (of_link m)) c.loop-d.out) c.loop-d.invariant.0 ∙
          ap (over (c.args.start + length (marks_bytes 0 (map of_link (take c.loop-d.d c.args.marks.now)))) (mark_bytes
          c.loop-d.d (of_link m)))
          c.loop-d.invariant.1 ∙
          marks_grown c.args.marks.now c.loop-d.d c.loop-d-test.true c.args.out.now c.args.start
          (omega (arith, room, c.loop-d.invariant.0)),
    )
