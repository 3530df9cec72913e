use Rattle.std.proofs.Common.{ℕ, ◌+◌, ◌-◌, ◌<◌, ◌≡◌, List, length, get_or, replicate, drop, sym, ◌∙◌, ap, subst, arith}
use Rattle.std.proofs.Common.{length-append, length-drop, length-take-le}
use Rattle.std.proofs.lemmas.List.{get_or_append_left, get_or-replicate, length-replicate}
use Rattle.model.specs.Limits.{max_links}
use Rattle.run_query.proofs.IndexLaws.{Entering, entering_none, entering_next}
use Rattle.run_query.proofs.PassLaws.{link_in_lem}
use Rattle.run_query.proofs.index.build.Goals as goal

pub slice_bounds-fill-end-2 : goal.slice_bounds-fill-end-2
slice_bounds-fill-end-2 c =
    sym (length-take-le max_links c.args.index.now (omega arith))

pub loop-j-init : goal.loop-j-init
loop-j-init c =
    let t = length-take-le max_links c.args.index.now (omega arith) in
    let v : c.fill.new.self ≡ replicate max_links c.args.count =
    c.fill.ensures.after (λ y q. q) ∙ ap (λ (k : ℕ). replicate k c.args.count) t in
    let m : length c.fill.new.self ≡ max_links = ap length v ∙ length-replicate max_links c.args.count in
    entering_none c.args.rows.now c.args.count _
    (omega (arith, length-append c.fill.new.self (drop max_links c.args.index.now), m, length-drop max_links c.args.index.now))
    (λ l h. get_or_append_left c.fill.new.self (drop max_links c.args.index.now) 0 l (omega arith) ∙
    ap (λ (w : List ℕ). get_or w l 0) v ∙ get_or-replicate max_links l c.args.count 0 h)

pub enter-requires-clause-row_bound : goal.enter-requires-clause-row_bound
enter-requires-clause-row_bound c =
    omega (arith, link_in_lem c.args.rows.now c.args.count c.requires.held (c.loop-j.j - 1) (omega arith))

pub loop-j-preserved : goal.loop-j-preserved
loop-j-preserved c =
    let h : c.loop-j.j - 1 < c.args.count = omega arith in
    let e : c.loop-j.j ≡ c.loop-j.j - 1 + 1 = omega arith in
    subst (λ (ix : List ℕ). Entering ix c.args.count c.args.rows.now (c.loop-j.j - 1))
    (sym c.enter.ensures)
    (entering_next c.args.rows.now c.args.count (c.loop-j.j - 1) c.loop-j.index c.requires.held.few
    (link_in_lem c.args.rows.now c.args.count c.requires.held (c.loop-j.j - 1) h) h
    (subst (λ (j : ℕ). Entering c.loop-j.index c.args.count c.args.rows.now j) e c.loop-j.invariant))
