-- `yegnabit_plan` answers and leaves what reading and writing back owe, by its three ways out.
use Rattle.std.proofs.Common.{refl, arith}
use Rattle.plan_table.specs.declared.Table.{Table}
use Rattle.plan_table.proofs.ByteLaws.{bytes_known}
use Rattle.plan_table.proofs.ReasonLaws.{some_number}
use Rattle.yegnabit.proofs.CallLaws.{area_short, plan_refused, plan_done}
use Rattle.plan_writer.specs.Writing.{plan_written, written_out}
use Rattle.c_codes.specs.Codes.{written_values}
use Rattle.yegnabit.proofs.FittingLaws.{read_refused, read_fine, table_fits}
use Rattle.yegnabit.proofs.yegnabit_plan.Goals as goal

pub returns-then-out-lt-OUT : goal.returns-then-out-lt-OUT
returns-then-out-lt-OUT c =
    let all = area_short c.args.out.now _ _ c.lent_short.ensures c.if-out-lt-OUT.true in
    record { value = all.0; out_after = all.1 }

pub returns-in-Err : goal.returns-in-Err
returns-in-Err c =
    let z = some_number c.in-Err.refusal.reason in
    let all = plan_refused c.args.out.now _ _ (omega (arith, c.if-out-lt-OUT.false))
    (read_refused c.args.plan.now _ _ _ c.in-Err.ensures z) c.plan_refused.ensures z in
    record { value = all.0; out_after = all.1 }

pub finish-requires : goal.finish-requires
finish-requires c =
    table_fits c.args.plan.now _ _ _ c.in-Ok.ensures refl (bytes_known c.args.plan.now (λ i. (c.type_inv.plan i).fits))

pub returns : goal.returns
returns c =
    let x = c.args in
    let all = plan_done x.out.now (omega (arith, c.if-out-lt-OUT.false)) (read_fine x.plan.now _ _ _ c.in-Ok.ensures refl)
    (λ (t : Table). written_values (plan_written t x.out.now)) (λ (t : Table). written_out t x.out.now)
    c.finish.ensures.value c.finish.ensures.out_after in
    record { value = all.0; out_after = all.1 }
