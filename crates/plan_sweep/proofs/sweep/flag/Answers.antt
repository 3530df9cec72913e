use Rattle.std.proofs.Common.{Bool, List, map, take, refl, sym, subst, ℕ, ◌+◌}
use Rattle.plan_table.proofs.DecodeLaws.{marked_snoc}
use Rattle.plan_table.proofs.FlagLaws.{flags_none, flags_next}
use Rattle.plan_table.specs.Packed.{of_link}
use Rattle.model.specs.Base.{any}
use Rattle.model.specs.Table as model
use Rattle.plan_sweep.specs.Sweeping.{Flagged}
use Rattle.plan_sweep.proofs.sweep.flag.Goals as goal

abbrev has : (marks : List ℕ) → (row : ℕ) → Bool
has v k = any (model.is_the k) (map of_link v)

pub loop-m-init : goal.loop-m-init
unfolding any
loop-m-init c = flags_none has c.args.numbers.now c.args.marks.now c.requires.clear (λ k. refl)

pub loop-m-preserved : goal.loop-m-preserved
loop-m-preserved c =
    subst (Flagged (take (c.loop-m.m-index + 1) c.args.marks.now)) (sym (rw c.from.ensures at
    c.flag_one.ensures))
    (flags_next has c.loop-m.numbers c.args.marks.now (λ (m : ℕ). m) marked_snoc c.loop-m.m-index
    c.loop-m-test.true
    c.loop-m.invariant (c.requires.links c.loop-m.m-index))
