use Rattle.std.proofs.Common.{ℕ, ◌+◌, ◌<◌, [], ◌∷◌, ◌≡◌, subst, arith}
use Rattle.run_query.proofs.ItemLaws.{collected_next, collected_past, no_child}
use Rattle.run_query.proofs.IndexLaws.{led_first, led_next}
use Rattle.run_query.proofs.ValueLaws.{collected_above}
use Rattle.run_query.specs.Values.{SteppedTo}
use Rattle.model.specs.Script.{step_by}
use Rattle.script_records.specs.Steps.{test_number, test_name}
use Rattle.run_query.proofs.item.children.Goals as goal

pub returns-then-many-link : goal.returns-then-many-link
returns-then-many-link c =
    (rw c.to-link.ensures at c.scanned.ensures) c.args.work.now c.args.from
    (λ ms. collected_above c.args.work.now c.args.from _ (c.args.item.0 + 1)
    (λ j h. no_child c.args.rows.now c.args.count c.requires.item_pre.held (test_number c.args.test) (test_name c.args.test) ms
    c.args.item.0 j h))

pub loop-j-init : goal.loop-j-init
loop-j-init c =
    let l = led_first c.args.index.now c.args.rows.now c.args.count c.from-many.result c.from-many.ensures
    (c.args.item.0 + 1)
    (omega arith) c.requires.index_held (omega (arith, c.requires.item_pre.low, c.requires.item_pre.held.few))
    c.from-j.result (rw c.to-link.ensures at c.from-j.ensures) in (
      l.high,
      l.there,
      (λ ms. collected_past c.args.rows.now c.args.count c.requires.item_pre.held (test_number c.args.test) (test_name c.args.test) ms
          c.args.item.0
          c.args.work.now c.args.from c.args.work.now c.args.from 0 c.from-j.result l.past
          (collected_above c.args.work.now c.args.from _ 0 (λ j h. absurd (omega arith)))),
      omega arith,
    )

pub loop-j-preserved : goal.loop-j-preserved
loop-j-preserved c =
    let l = led_next c.args.index.now c.args.rows.now c.args.count c.from-many.result
    c.from-many.ensures (c.args.item.0 + 1)
    (omega arith) c.requires.index_held c.loop-j.j c.loop-j-test.true c.loop-j.invariant.1 c.from-j-in-loop-j.result
    c.from-j-in-loop-j.ensures in
    let h : c.loop-j.j < c.args.count = omega (
      arith,
      c.requires.index_held.few,
      c.requires.index_held.index.rows,
      c.from-many.ensures,
      c.loop-j-test.true,
    ) in (
      l.high,
      l.there,
      (λ ms. collected_next c.args.rows.now c.args.count c.requires.item_pre.held (test_number c.args.test) (test_name c.args.test) ms
          c.args.item.0 c.loop-j.j
          c.from-j-in-loop-j.result h (c.loop-j.invariant.2 ms) (rw c.to-link.ensures at c.append_child-at.ensures) l.past),
      omega (arith, c.loop-j.invariant.3, c.append_child-at.ensures.short, l.past.low),
    )

pub returns : goal.returns
returns c =
    let e : c.loop-j.j ≡ c.from-many.result = omega (arith, c.loop-j.invariant.0) in
    c.scanned-2.ensures c.args.work.now c.args.from
    (subst (λ (k : ℕ). SteppedTo c.args.rows.now c.args.count (step_by 0 (test_number c.args.test) (test_name c.args.test))
    (c.args.item.0 ∷ []) k
    c.args.work.now c.args.from c.loop-j.work c.loop-j.at) e c.loop-j.invariant.2)
