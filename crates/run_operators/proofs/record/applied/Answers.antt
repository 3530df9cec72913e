-- `applied`: a record with one operand, one law of OperatorLaws for what each call asks and for each way out.
use Rattle.std.proofs.Common.{refl}
use Rattle.run_operators.proofs.OperatorLaws.{delete_asks, pick_asks, step_asks, delete_yields, pick_yields, step_yields}
use Rattle.run_operators.proofs.record.applied.Goals as goal

pub stepped-requires-clause-step_pre : goal.stepped-requires-clause-step_pre
stepped-requires-clause-step_pre c =
    step_asks c.requires.value_pre c.in-Step.step.axis

pub delete-requires : goal.delete-requires
delete-requires c =
    delete_asks c.requires.value_pre

pub picked-requires : goal.picked-requires
picked-requires c =
    pick_asks c.requires.value_pre

pub returns-in-Step : goal.returns-in-Step
returns-in-Step c =
    step_yields c.requires.value_pre c.stepped.auto.work refl c.in-Step.is c.stepped.ensures

pub returns-in-Delete : goal.returns-in-Delete
returns-in-Delete c =
    delete_yields c.requires.value_pre c.in-Delete.is c.delete.ensures refl

pub returns-in-Pick : goal.returns-in-Pick
returns-in-Pick c =
    pick_yields c.requires.value_pre c.picked.auto.work refl c.in-Pick.is c.picked.ensures
