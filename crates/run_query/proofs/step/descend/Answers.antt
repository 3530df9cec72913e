use Rattle.std.proofs.Common.{sym, get_or, ℕ, ◌+◌, ap, ◌∙◌, subst, arith}
use Rattle.model.specs.Base.{bit}
use Rattle.model.specs.Script.{step_by}
use Rattle.model.specs.Step.{is_reached}
use Rattle.plan_table.specs.Packed.{decode_parts}
use Rattle.run_query.proofs.PassLaws.{Descending, within, link_in_lem, descending_none, descending_next, above_is}
use Rattle.run_query.proofs.ValueLaws.{collected_above, collected_by, kept_row, not_yet}
use Rattle.run_query.proofs.ValueLaws.{cond_low}
use Rattle.script_records.specs.Steps.{test_number, test_name}
use Rattle.run_query.proofs.step.descend.Goals as goal

pub loop-j-init : goal.loop-j-init
loop-j-init c = (
  descending_none c.args.rows.now c.args.count c.requires.held c.args.deep c.args.flags.now c.args.low
      c.requires.flags c.requires.size,
  (λ v f ms. collected_above c.args.work.now c.args.from _ c.args.low
      (λ j h. not_yet c.args.rows.now c.args.count
      c.requires.held c.args.deep c.args.flags.now c.args.low c.requires.flags (test_number c.args.test) (test_name c.args.test)
      ms v f j h)),
  omega arith,
)

pub bounds-flags-l : goal.bounds-flags-l
bounds-flags-l c =
    omega (
      arith,
      c.link-l.ensures,
      c.loop-j.invariant.0.size,
      link_in_lem c.args.rows.now c.args.count c.requires.held
          c.loop-j.j c.loop-j-test.true,
    )

pub loop-j-preserved : goal.loop-j-preserved
loop-j-preserved c = (
  subst (Descending c.args.rows.now c.args.count c.args.deep c.args.flags.now (c.loop-j.j + 1))
      (sym c.mark.ensures)
      (descending_next c.args.rows.now c.args.count c.requires.held c.args.deep c.args.flags.now
      c.loop-j.j c.loop-j-test.true
      c.loop-j.flags c.loop-j.invariant.0 c.link-l.result.0 c.link-l.ensures),
  (λ v f ms. collected_by (is_reached (decode_parts c.args.count c.args.rows.now ms)
      (step_by (bit c.args.deep) (test_number c.args.test)
      (test_name c.args.test)) v) c.loop-j.j c.args.work.now c.loop-j.work c.args.from c.loop-j.at
      (omega (arith, c.loop-j.invariant.2, c.requires.room, c.requires.held.few)) (c.loop-j.invariant.1 v f ms)
      c.keeps-keep.result
      _ c.append_if-at.result (c.keeps-keep.ensures ∙ kept_row c.args.rows.now c.args.count
      (bit c.args.deep) (test_number c.args.test)
      (test_name c.args.test) v ms (within c.args.rows.now c.args.count c.requires.held) c.loop-j.j
      c.loop-j-test.true (get_or c.loop-j.flags c.link-l.result.0 0)
      (ap (λ (a : ℕ). get_or c.loop-j.flags a 0) c.link-l.ensures ∙ above_is c.args.rows.now c.args.count
      c.requires.held c.args.deep c.args.flags.now c.loop-j.j c.loop-j-test.true
      c.loop-j.flags c.loop-j.invariant.0 ms v f)) c.append_if-at.ensures.work_after
      c.append_if-at.ensures.value),
  omega (arith, c.append_if-at.ensures.value, cond_low c.keeps-keep.result c.loop-j.at),
)
