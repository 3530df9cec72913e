use Rattle.std.proofs.Common.{get_or, ℕ, ◌+◌, ◌-◌, true, List, [], refl, ap, sym, subst, arith}
use Rattle.plan_table.specs.Packed.{link_in}
use Rattle.run_query.specs.Values.{Appended, way_from}
use Rattle.run_query.proofs.PassLaws.{link_below}
use Rattle.run_query.proofs.ItemLaws.{Rising, step_way, way_none, way_more, short}
use Rattle.run_query.proofs.ItemLaws.{rising_by, rising_more, rising_all, some_before}
use Rattle.script_records.specs.Steps.{test_number, test_name}
use Rattle.run_query.proofs.item.ancestors.Goals as goal

pub overflow_add-end : goal.overflow_add-end
overflow_add-end c =
    omega (
      arith,
      c.count_above.ensures [],
      c.requires.room,
      short c.args.rows.now c.args.count c.requires.held (test_number c.args.test) (test_name c.args.test) [] true 3
          (link_in (get_or c.args.rows.now c.args.item.0 0)),
      link_below c.args.rows.now c.args.count c.requires.held c.args.item.0 c.requires.low,
      c.requires.low,
      c.requires.held.few,
    )

pub loop-l-init : goal.loop-l-init
loop-l-init c = (
  omega (
    arith,
    c.link-l.ensures,
    c.requires.low,
    link_below c.args.rows.now c.args.count c.requires.held
        c.args.item.0 c.requires.low,
  ),
  (λ ms. rising_by c.args.work.now c.args.from (way_from c.args.rows.now c.args.count (test_number c.args.test)
      (test_name c.args.test) (link_in (get_or c.args.rows.now c.args.item.0 0)) ms)
      (way_from c.args.rows.now c.args.count (test_number c.args.test) (test_name c.args.test) c.link-l.result.0 ms)
      (ap (λ (k : ℕ). (way_from c.args.rows.now c.args.count (test_number c.args.test) (test_name c.args.test) k ms))
      c.link-l.ensures) (c.args.from + c.count_above.result)
      (ap (λ (k : ℕ). c.args.from + k) (c.count_above.ensures ms))),
)

pub prepend_if-at-requires-clause-at_in_bounds : goal.prepend_if-at-requires-clause-at_in_bounds
prepend_if-at-requires-clause-at_in_bounds c =
    omega (
      arith,
      c.loop-l.invariant.0,
      (c.loop-l.invariant.1 []).place,
      (c.loop-l.invariant.1 []).size,
      short c.args.rows.now
          c.args.count c.requires.held (test_number c.args.test) (test_name c.args.test) [] true 3 c.loop-l.l,
      c.requires.room,
      c.requires.held.few,
    )

pub prepend_if-at-requires-clause-at_nonzero : goal.prepend_if-at-requires-clause-at_nonzero
prepend_if-at-requires-clause-at_nonzero c =
    λ q. some_before c.admits-keep.result (c.loop-l.l - 1) (way_from c.args.rows.now c.args.count (test_number c.args.test)
    (test_name c.args.test) (link_in (get_or c.args.rows.now (c.loop-l.l - 1) 0)) []) q
    (way_more c.args.rows.now c.args.count c.requires.held (test_number c.args.test) (test_name c.args.test) [] c.loop-l.l
    (λ z. omega (arith, c.loop-l-test.true))
    (omega (arith, c.loop-l.invariant.0, c.loop-l-test.true))
    c.admits-keep.result c.admits-keep.ensures 3 (link_in (get_or c.args.rows.now (c.loop-l.l - 1) 0)) refl)
    (c.loop-l.invariant.1 [])

pub loop-l-smaller : goal.loop-l-smaller
loop-l-smaller c =
    omega (
      arith,
      c.link-l-in-loop-l.ensures,
      link_below c.args.rows.now c.args.count c.requires.held (c.loop-l.l - 1)
          (omega (arith, c.loop-l.invariant.0)),
    )

pub loop-l-preserved : goal.loop-l-preserved
loop-l-preserved c = (
  omega (
    arith,
    c.link-l-in-loop-l.ensures,
    link_below c.args.rows.now c.args.count c.requires.held (c.loop-l.l - 1)
        (omega (arith, c.loop-l.invariant.0, c.loop-l-test.true)),
    c.loop-l.invariant.0,
  ),
  (λ ms. rising_more c.admits-keep.result (way_from c.args.rows.now c.args.count (test_number c.args.test) (test_name c.args.test)
      (link_in (get_or c.args.rows.now c.args.item.0 0)) ms) c.args.work.now c.args.from
      (way_from c.args.rows.now c.args.count (test_number c.args.test) (test_name c.args.test) c.link-l-in-loop-l.result.0 ms)
      (way_from c.args.rows.now c.args.count (test_number c.args.test) (test_name c.args.test) c.loop-l.l ms)
      c.loop-l.work c.loop-l.at (c.loop-l.l - 1)
      (omega (
        arith,
        c.requires.room,
        short c.args.rows.now c.args.count c.requires.held (test_number c.args.test)
            (test_name c.args.test) ms true 3 (link_in (get_or c.args.rows.now c.args.item.0 0)),
        link_below
            c.args.rows.now c.args.count c.requires.held c.args.item.0 c.requires.low,
        c.requires.low,
        c.requires.held.few,
      ))
      (way_more c.args.rows.now c.args.count c.requires.held (test_number c.args.test) (test_name c.args.test) ms c.loop-l.l
      (λ z. omega (arith, c.loop-l-test.true)) (omega (arith, c.loop-l.invariant.0, c.loop-l-test.true)) c.admits-keep.result
      c.admits-keep.ensures 3 c.link-l-in-loop-l.result.0
      c.link-l-in-loop-l.ensures) (c.loop-l.invariant.1 ms) _ c.prepend_if-at.result c.prepend_if-at.ensures.work_after
      c.prepend_if-at.ensures.value),
)

pub returns : goal.returns
returns c =
    λ ms. subst (λ (v : List ℕ). Appended v c.args.work.now c.args.from c.loop-l.work
    (c.args.from + c.count_above.result))
    (sym (step_way c.args.rows.now c.args.count c.requires.held (test_number c.args.test) (test_name c.args.test) ms true
    c.args.item.0 c.requires.low))
    (rising_all (way_from c.args.rows.now c.args.count (test_number c.args.test) (test_name c.args.test)
    (link_in (get_or c.args.rows.now c.args.item.0 0)) ms) c.args.work.now c.args.from
    c.loop-l.work c.loop-l.at
    (c.args.from + c.count_above.result) (ap (λ (k : ℕ). c.args.from + k) (c.count_above.ensures ms))
    (subst (λ (u : List ℕ). Rising (way_from c.args.rows.now c.args.count (test_number c.args.test) (test_name c.args.test)
    (link_in (get_or c.args.rows.now c.args.item.0 0)) ms) c.args.work.now c.args.from u
    c.loop-l.work c.loop-l.at)
    (way_none c.args.rows.now c.args.count c.requires.held (test_number c.args.test) (test_name c.args.test) ms true 3
    c.loop-l.l (omega (arith, c.loop-l-test.false))) (c.loop-l.invariant.1 ms)))
