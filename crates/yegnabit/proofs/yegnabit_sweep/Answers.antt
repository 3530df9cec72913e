-- `yegnabit_sweep` answers and leaves what reading, sweeping and writing owe, by its three ways out.
use Rattle.std.proofs.Common.{refl, ap, ◌≡◌, ◌∙◌, true, arith}
use Rattle.plan_table.specs.declared.Table.{Table}
use Rattle.plan_table.proofs.ByteLaws.{bytes_known}
use Rattle.plan_table.proofs.ReasonLaws.{some_number}
use Rattle.yegnabit.proofs.CallLaws.{area_short, plan_refused, plan_done}
use Rattle.plan_table.specs.Packed.{fits, table_of}
use Rattle.plan_table.specs.Results.{TableResult}
use Rattle.plan_sweep.specs.Sweeping.{plan_swept}
use Rattle.plan_sweep.proofs.SweepLaws.{sweep_done}
use Rattle.c_codes.specs.Codes.{code_of, finished_values, finished_out}
use Rattle.yegnabit.proofs.FittingLaws.{read_refused, read_fine, table_fits, swept_fits}
use Rattle.yegnabit.proofs.yegnabit_sweep.Goals as goal

pub returns-then-out-lt-OUT : goal.returns-then-out-lt-OUT
returns-then-out-lt-OUT c =
    let all = area_short c.args.out.now _ _ c.lent_short.ensures c.if-out-lt-OUT.true in
    record { value = all.0; out_after = all.1 }

pub returns-in-Err : goal.returns-in-Err
returns-in-Err c =
    let z = some_number c.in-Err.refusal.reason in
    let all = plan_refused c.args.out.now _ _ (omega (arith, c.if-out-lt-OUT.false))
    (read_refused c.args.plan.now _ _ _ c.in-Err.ensures z) c.plan_refused.ensures z in
    record { value = all.0; out_after = all.1 }

pub fitting-swept-requires : goal.fitting-swept-requires
fitting-swept-requires c =
    table_fits c.args.plan.now _ _ _ c.in-Ok.ensures refl (bytes_known c.args.plan.now (λ i. (c.type_inv.plan i).fits))

pub finish-requires : goal.finish-requires
finish-requires c =
    let t = table_of c.in-Ok.count c.records.new.rows c.records.new.marks in
    let f : fits t ≡ true =
    table_fits c.args.plan.now _ _ _ c.in-Ok.ensures refl (bytes_known c.args.plan.now (λ i. (c.type_inv.plan i).fits)) in
    swept_fits t f _ c.fitting-swept.ensures

pub returns : goal.returns
returns c =
    let t = table_of c.in-Ok.count c.records.new.rows c.records.new.marks in
    let f : fits t ≡ true =
    table_fits c.args.plan.now _ _ _ c.in-Ok.ensures refl (bytes_known c.args.plan.now (λ i. (c.type_inv.plan i).fits)) in
    let x = c.args in
    let o = x.out.now in
    let done = sweep_done t _ f c.fitting-swept.ensures in
    let all = plan_done o (omega (arith, c.if-out-lt-OUT.false)) (read_fine x.plan.now _ _ _ c.in-Ok.ensures refl)
    (λ (t : Table). finished_values (plan_swept t) 1 o) (λ (t : Table). finished_out (plan_swept t) o)
    (c.finish.ensures.value ∙ ap (λ (r : TableResult). code_of (finished_values r 1 o)) done)
    (c.finish.ensures.out_after ∙ ap (λ (r : TableResult). finished_out r o) done) in
    record { value = all.0; out_after = all.1 }
