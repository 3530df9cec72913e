-- `yegnabit_undo` answers and leaves what reading, taking back and writing owe, by its four ways out.
use Rattle.std.proofs.Common.{refl, ap, ◌≡◌, ◌∙◌, arith}
use Rattle.plan_table.specs.declared.Table.{Table}
use Rattle.plan_table.proofs.ByteLaws.{bytes_known}
use Rattle.plan_table.proofs.ReasonLaws.{some_number}
use Rattle.yegnabit.proofs.CallLaws.{area_short, plan_refused, plan_done}
use Rattle.plan_table.specs.Packed.{table_of}
use Rattle.plan_table.specs.Results.{with_table}
use Rattle.plan_table.specs.Results.{TableResult}
use Rattle.plan_table.specs.Refusals.{refusal_in}
use Rattle.model.specs.Refusal.{fine}
use Rattle.run_undo.specs.Undoing.{plan_undone}
use Rattle.c_codes.specs.Codes.{code_of, finished_values, finished_out}
use Rattle.c_codes.proofs.FinishLaws.{finish_refused}
use Rattle.yegnabit.proofs.FittingLaws.{read_refused, read_fine, table_fits, left_fits}
use Rattle.yegnabit.proofs.yegnabit_undo.Goals as goal

pub returns-then-out-lt-OUT : goal.returns-then-out-lt-OUT
returns-then-out-lt-OUT c =
    let all = area_short c.args.out.now _ _ c.lent_short.ensures c.if-out-lt-OUT.true in
    record { value = all.0; out_after = all.1 }

pub returns-in-Err : goal.returns-in-Err
returns-in-Err c =
    let z = some_number c.in-Err.refusal.reason in
    let all = plan_refused c.args.out.now _ _ (omega (arith, c.if-out-lt-OUT.false))
    (read_refused c.args.plan.now _ _ _ c.in-Err.ensures z) c.plan_refused.ensures z in
    record { value = all.0; out_after = all.1 }

pub fitting-requires : goal.fitting-requires
fitting-requires c =
    table_fits c.args.plan.now _ _ _ c.in-Ok.ensures refl (bytes_known c.args.plan.now (λ i. (c.type_inv.plan i).fits))

pub returns-in-Err-fitting : goal.returns-in-Err-fitting
returns-in-Err-fitting c =
    let x = c.args in
    let o = x.out.now in
    let t = table_of c.in-Ok.count c.records.new.rows c.records.new.marks in
    let is : with_table (refusal_in c.in-Err-fitting.refusal) t ≡ plan_undone t x.history.now = c.in-Err-fitting.ensures.table_after in
    let told = finish_refused (with_table (refusal_in c.in-Err-fitting.refusal) t) 2 o _ (some_number c.in-Err-fitting.refusal.reason)
    c.refused.ensures in
    let all = plan_done o (omega (arith, c.if-out-lt-OUT.false)) (read_fine x.plan.now _ _ _ c.in-Ok.ensures refl)
    (λ (u : Table). finished_values (plan_undone u x.history.now) 2 o) (λ (u : Table). finished_out (plan_undone u x.history.now) o)
    (told.0 ∙ ap (λ (r : TableResult). code_of (finished_values r 2 o)) is)
    (told.1 ∙ ap (λ (r : TableResult). finished_out r o) is) in
    record { value = all.0; out_after = all.1 }

pub finish-requires : goal.finish-requires
finish-requires c =
    let t = table_of c.in-Ok.count c.records.new.rows c.records.new.marks in
    left_fits t
    (table_fits c.args.plan.now _ _ _ c.in-Ok.ensures refl (bytes_known c.args.plan.now (λ i. (c.type_inv.plan i).fits)))
    c.args.history.now c.in-Ok-fitting.ensures.table_after

pub returns-in-Ok-fitting : goal.returns-in-Ok-fitting
returns-in-Ok-fitting c =
    let x = c.args in
    let o = x.out.now in
    let t = table_of c.in-Ok.count c.records.new.rows c.records.new.marks in
    let is : with_table fine c.fitting.new.table ≡ plan_undone t x.history.now = c.in-Ok-fitting.ensures.table_after in
    let all = plan_done o (omega (arith, c.if-out-lt-OUT.false)) (read_fine x.plan.now _ _ _ c.in-Ok.ensures refl)
    (λ (u : Table). finished_values (plan_undone u x.history.now) 2 o) (λ (u : Table). finished_out (plan_undone u x.history.now) o)
    (c.finish.ensures.value ∙ ap (λ (r : TableResult). code_of (finished_values r 2 o)) is)
    (c.finish.ensures.out_after ∙ ap (λ (r : TableResult). finished_out r o) is) in
    record { value = all.0; out_after = all.1 }
