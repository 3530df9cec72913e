use Rattle.std.proofs.Common.{false, true, ◌∙◌, sym, arith}
use Rattle.plan_table.proofs.FitCheckLaws.{marks_end, marks_go, marks_pass, marks_unfit}
use Rattle.plan_table.proofs.PackedLaws.{linked, unlinked}
use Rattle.plan_table.proofs.fit.marks_fit.Goals.{in-Some+else-is_marked, in_default}
use Rattle.plan_table.proofs.fit.marks_fit.Goals as goal

pub returns-then-not-mark_fits : goal.returns-then-not-mark_fits
returns-then-not-mark_fits c =
    sym (c.loop-d.invariant ∙ marks_unfit c.args.rows.now c.args.count c.args.marks.now c.loop-d.d c.loop-d-test.true _
    c.from.ensures (sym c.if-not-mark_fits.true ∙ c.mark_fits.ensures))

pub returns-then-is_marked : goal.returns-then-is_marked
returns-then-is_marked c =
    let w = linked c.from.result c.in-Some.ensures in
    sym (c.loop-d.invariant ∙ marks_go c.args.rows.now c.args.count c.args.marks.now c.loop-d.d c.loop-d-test.true _
    c.from.ensures true (sym c.if-not-mark_fits.false ∙ c.mark_fits.ensures) w.0
    (rw w.1 at (sym c.if-is_marked.true ∙ c.is_marked.ensures)))

pub loop-d-preserved : goal.loop-d-preserved
loop-d-preserved c =
    let x = c.args in
    let fits = sym c.if-not-mark_fits.false ∙ c.mark_fits.ensures in
    let here = c.from.ensures in
    elim c.match-row.branch [
      | in-Some+else-is_marked w ↦ let k = linked c.from.result w.in-Some.ensures in c.loop-d.invariant ∙
          marks_go x.rows.now x.count x.marks.now c.loop-d.d c.loop-d-test.true _ here false fits k.0
          (rw k.1 at (sym w.if-is_marked.false ∙ w.is_marked.ensures))
      | in_default w ↦ c.loop-d.invariant ∙
          marks_pass x.rows.now x.count x.marks.now c.loop-d.d c.loop-d-test.true _ here fits (unlinked c.from.result w.in_default.ensures)
    ]

pub returns : goal.returns
returns c =
    sym (c.loop-d.invariant ∙ marks_end c.args.rows.now c.args.count c.args.marks.now c.loop-d.d
    (omega arith))
