use Rattle.std.proofs.Common.{true, cond, ◌<◌, length, get_or, ℕ, ◌+◌, ◌-◌, ◌≤◌, ◌≡◌, ap, sym, ◌∙◌, arith}
use Rattle.model.proofs.BoolLaws.{cond_true, cond_false}
use Rattle.run_query.proofs.ValueLaws.{cond_low}
use Rattle.run_query.proofs.ItemLaws.{counted_way}
use Rattle.plan_table.specs.Packed.{link_in}
use Rattle.run_query.specs.Values.{way_from}
use Rattle.run_query.proofs.PassLaws.{link_below}
use Rattle.run_query.proofs.ItemLaws.{way_none, way_more}
use Rattle.script_records.specs.Steps.{test_number, test_name}
use Rattle.run_query.proofs.item.count_above.Goals as goal
use Rattle.run_query.proofs.item.count_above.Goals.{then-admits, else-admits}

pub loop-l-init : goal.loop-l-init
loop-l-init c = (
  omega (
    arith,
    c.link-l.ensures,
    c.requires.low,
    link_below c.args.rows.now c.args.count c.requires.held
        c.args.item.0 c.requires.low,
  ),
  (λ ms. let e = ap (λ (k : ℕ). length (way_from c.args.rows.now c.args.count (test_number c.args.test) (test_name c.args.test) k ms))
      c.link-l.ensures in
      omega arith),
  omega (
    arith,
    c.link-l.ensures,
    c.requires.low,
    link_below c.args.rows.now c.args.count c.requires.held
        c.args.item.0 c.requires.low,
  ),
)

pub loop-l-smaller : goal.loop-l-smaller
loop-l-smaller c =
    omega (
      arith,
      c.link-l-in-loop-l.ensures,
      link_below c.args.rows.now c.args.count c.requires.held (c.loop-l.l - 1)
          (omega (arith, c.loop-l.invariant.0)),
    )

pub loop-l-preserved : goal.loop-l-preserved
loop-l-preserved c =
    let low : c.loop-l.l - 1 < c.args.count = omega (arith, c.loop-l.invariant.0, c.loop-l-test.true) in
    let moved : c.if-admits.n ≡ cond c.admits.result (c.loop-l.n + 1) c.loop-l.n =
    elim c.if-admits.branch [
      | then-admits w ↦ w.n-is ∙ sym (cond_true c.admits.result (c.loop-l.n + 1) c.loop-l.n w.if-admits.true)
      | else-admits w ↦ w.n-is ∙ sym (cond_false c.admits.result (c.loop-l.n + 1) c.loop-l.n w.if-admits.false)
    ] in
    let fewer : c.link-l-in-loop-l.result.0 ≤ c.loop-l.l - 1 = omega (
      arith,
      c.link-l-in-loop-l.ensures,
      link_below c.args.rows.now
          c.args.count c.requires.held (c.loop-l.l - 1) low,
    ) in (
      omega (arith, c.loop-l.invariant.0),
      (λ ms. counted_way c.admits.result (c.loop-l.l - 1) (way_from c.args.rows.now c.args.count (test_number c.args.test)
          (test_name c.args.test) c.link-l-in-loop-l.result.0 ms) (way_from c.args.rows.now c.args.count (test_number c.args.test)
          (test_name c.args.test) c.loop-l.l ms)
          (way_from c.args.rows.now c.args.count (test_number c.args.test) (test_name c.args.test)
          (link_in (get_or c.args.rows.now c.args.item.0 0)) ms)
          (way_more c.args.rows.now c.args.count c.requires.held (test_number c.args.test) (test_name c.args.test) ms
          c.loop-l.l (λ q. omega (arith, c.loop-l-test.true)) low
          c.admits.result c.admits.ensures 3 c.link-l-in-loop-l.result.0 c.link-l-in-loop-l.ensures) c.loop-l.n
          c.if-admits.n moved (c.loop-l.invariant.1 ms)),
      omega (arith, moved, fewer, c.loop-l.invariant.2, cond_low c.admits.result c.loop-l.n, c.loop-l-test.true),
    )

pub returns : goal.returns
returns c =
    λ ms. let e : c.loop-l.l ≡ 0 = omega (arith, c.loop-l-test.false) in
    let z : length (way_from c.args.rows.now c.args.count (test_number c.args.test) (test_name c.args.test) c.loop-l.l ms) ≡ 0 =
    ap length (way_none c.args.rows.now c.args.count c.requires.held (test_number c.args.test) (test_name c.args.test) ms true 3
    c.loop-l.l e) in omega (arith, c.loop-l.invariant.1 ms, z)
