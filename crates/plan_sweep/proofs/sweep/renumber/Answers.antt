use Rattle.std.proofs.Common.{get_or, take, drop, set, ℕ, List, ◌++◌, ◌≡◌, ◌∙◌, ap, arith}
use Rattle.plan_sweep.proofs.SweepLaws.{links_next, links_at}
use Rattle.plan_sweep.specs.Sweeping.{new_links}
use Rattle.plan_sweep.proofs.sweep.renumber.Goals as goal

pub loop-m-preserved : goal.loop-m-preserved
loop-m-preserved c =
    let link_here : c.from.result ≡ get_or c.args.marks.now c.loop-m.m-index 0 = c.from.ensures ∙
    ap (λ (l : List ℕ). get_or l c.loop-m.m-index 0) c.loop-m.invariant ∙
    links_at c.args.numbers.now c.args.marks.now c.loop-m.m-index (omega (
      arith,
      c.loop-m-test.true,
    )) in
    ap (λ (v : List ℕ). set v c.loop-m.m-index (get_or c.args.numbers.now c.from.result 0)) c.loop-m.invariant ∙
    ap (λ (j : ℕ). set (new_links c.args.numbers.now (take c.loop-m.m-index c.args.marks.now) ++ drop c.loop-m.m-index
    c.args.marks.now) c.loop-m.m-index (get_or c.args.numbers.now j 0)) link_here ∙
    links_next c.args.numbers.now c.args.marks.now c.loop-m.m-index (omega (arith, c.loop-m-test.true))
