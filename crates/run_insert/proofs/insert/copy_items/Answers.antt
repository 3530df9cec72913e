use Rattle.std.proofs.Common.{refl, ◌∙◌}
use Rattle.std.proofs.lemmas.Result.{err_from_is_err_and}
use Rattle.plan_table.proofs.ReasonLaws.{some_number}
use Rattle.run_insert.proofs.InsertLawsItems.{inserting_item, inserting_end}
use Rattle.run_insert.proofs.InsertLawsItems.{inserting_refused, inserting_again}
use Rattle.run_insert.proofs.insert.copy_items.Goals as goal

pub copy_item-requires : goal.copy_item-requires
copy_item-requires c =
    inserting_item c.requires c.loop-item.invariant c.loop-item-test.true c.from.ensures

pub returns-in_err-now : goal.returns-in_err-now
returns-in_err-now c =
    let p = err_from_is_err_and c.from_residual.result c.from_residual.ensures.1 in
    rw (p.1, p.2)
    (inserting_refused c.requires c.loop-item.invariant c.loop-item-test.true c.from.ensures c.in_err-now.ensures
    (some_number c.in_err-now.field-0.0))

pub loop-item-preserved : goal.loop-item-preserved
loop-item-preserved c =
    inserting_again c.requires c.loop-item.invariant c.loop-item-test.true c.from.ensures c.in_ok-now.ensures refl
    (c.copy_item.auto.map ∙ c.loop-item.invariant.size)

pub returns : goal.returns
returns c =
    inserting_end c.requires c.loop-item.invariant c.loop-item-test.false
