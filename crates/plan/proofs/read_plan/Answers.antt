-- `read_plan` answers the plan read, or its refusal.
use Rattle.std.proofs.Common.{Ok, refl}
use Rattle.plan_table.specs.Results.{end_by}
use Rattle.plan.proofs.ReadPlanLaws.{plan_read_lem}
use Rattle.plan.proofs.read_plan.Goals as goal

pub returns-in-Ok : goal.returns-in-Ok
returns-in-Ok c =
    let r = c.records in
    plan_read_lem c.args.bytes.now r.new.rows r.new.marks (end_by (Ok c.in-Ok.count)) c.in-Ok.ensures refl
