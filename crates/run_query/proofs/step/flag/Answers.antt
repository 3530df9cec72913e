use Rattle.std.proofs.Common.{Bool, List, take, set, refl, sym, subst, ℕ, ◌+◌, arith}
use Rattle.run_query.proofs.PassLaws.{clear_none, clear_next}
use Rattle.run_query.proofs.StepLaws.{among_snoc}
use Rattle.plan_table.proofs.FlagLaws.{flags_none, flags_more}
use Rattle.model.specs.Base.{among}
use Rattle.run_query.specs.Stepping.{Flagged}
use Rattle.run_query.proofs.step.flag.Goals as goal

abbrev has : (items : List ℕ) → (row : ℕ) → Bool
has v k = among k v

pub loop-item-init : goal.loop-item-init
unfolding among
loop-item-init c = (
  flags_none has c.args.flags.now c.args.items.now c.requires.clear (λ k. refl),
  clear_none c.args.count c.args.flags.now c.requires.few
      c.requires.clear,
)

pub loop-item-preserved : goal.loop-item-preserved
loop-item-preserved c = (
  subst (λ (j : ℕ). Flagged (take (c.loop-item.item-index + 1) c.args.items.now) (set c.loop-item.flags (j + 1) 1))
      (sym c.from-at.ensures)
      (flags_more has c.loop-item.flags c.args.items.now (λ (j : ℕ). j + 1) among_snoc c.loop-item.item-index c.loop-item-test.true
      c.loop-item.invariant.0 (λ e. omega arith) (omega (arith, c.requires.low c.loop-item.item-index c.loop-item-test.true))),
  clear_next c.loop-item.invariant.1 c.from-at.result c.if-at-low.low
      (omega arith) (omega arith),
)
