-- `fit::rest_zero`: what stands past the count is zero.
use Rattle.std.proofs.Common.{length-drop, take_all, drop, length, ◌-◌, arith, ◌∙◌, rules, tests}
use Rattle.std.proofs.lemmas.Iterator.{YieldsList-from_slice}
use Rattle.std.proofs.lemmas.Iterator.Search.{all_from_yields_List}
use Rattle.plan_table.proofs.FitCheckLaws.{all_listed}
use Rattle.plan_table.specs.Packed.{is_zero}
use Rattle.plan_table.proofs.fit.rest_zero.Goals as goal

pub returns : goal.returns
returns c =
    let rest = drop c.args.count c.args.rows.now in
    all_from_yields_List is_zero _ _ _ c.all.ensures.ran
    (YieldsList-from_slice rest
    (c.iter.ensures.rest ∙
    take_all (length c.args.rows.now - c.args.count) rest (omega (arith, length-drop c.args.count c.args.rows.now))))
    (λ x b q k. search (rules, tests)) ∙ all_listed is_zero rest
