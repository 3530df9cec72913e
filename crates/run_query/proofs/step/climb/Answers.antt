use Rattle.std.proofs.Common.{◌≡◌, sym, subst, ℕ, ◌-◌, ◌+◌, arith}
use Rattle.run_query.proofs.PassLaws.{Climbing, link_in_lem, climbing_none, climbing_next, climbed_all}
use Rattle.run_query.proofs.step.climb.Goals as goal

pub loop-j-init : goal.loop-j-init
loop-j-init c =
    climbing_none c.args.rows.now c.args.count c.requires.held c.args.deep c.args.flags.now
    c.args.reached.now
    c.requires.clear

pub climb_one-requires : goal.climb_one-requires
climb_one-requires c =
    record {
      low = omega (arith, c.requires.held.few);
      link =
          link_in_lem c.args.rows.now c.args.count c.requires.held (c.loop-j.j - 1) (omega arith);
      flags = c.requires.flags;
      reached = c.loop-j.invariant.size;
    }

pub loop-j-preserved : goal.loop-j-preserved
loop-j-preserved c =
    let e : c.loop-j.j ≡ c.loop-j.j - 1 + 1 = omega arith in
    subst (Climbing c.args.rows.now c.args.count c.args.deep c.args.flags.now (c.loop-j.j - 1)) (sym
    c.climb_one.ensures) (climbing_next c.args.rows.now c.args.count c.requires.held c.args.deep c.args.flags.now (c.loop-j.j - 1)
    (omega arith) c.loop-j.reached
    (subst (λ (t : ℕ). Climbing c.args.rows.now c.args.count c.args.deep c.args.flags.now t
    c.loop-j.reached) e c.loop-j.invariant))

pub returns : goal.returns
returns c =
    let e : c.loop-j.j ≡ 0 = omega arith in climbed_all c.args.rows.now c.args.count c.requires.held c.args.deep
    c.args.flags.now c.loop-j.reached (subst
    (λ (t : ℕ). Climbing c.args.rows.now c.args.count c.args.deep c.args.flags.now t c.loop-j.reached) e c.loop-j.invariant)
