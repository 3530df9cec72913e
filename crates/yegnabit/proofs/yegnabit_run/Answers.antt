-- `yegnabit_run` answers and leaves what `run_called` says, by its three ways out: an area too short, the plan refused, the run over.
use Rattle.std.proofs.Common.{refl}
use borrow.Author.Tests.{not-true, not-false}
use Rattle.plan_table.specs.Packed.{table_of}
use Rattle.plan_table.proofs.ByteLaws.{bytes_known}
use Rattle.plan_table.proofs.ReasonLaws.{some_number}
use Rattle.run.specs.Calls.{ended_by}
use Rattle.run.proofs.Promised.{lent_fits}
use Rattle.c_lent.proofs.EndLaws.{left_ends}
use Rattle.yegnabit.proofs.FittingLaws.{read_refused, read_fine, table_fits}
use Rattle.yegnabit.proofs.RunLaws.{six_fit, three_fit, call_short, call_plan_refused, call_ended}
use Rattle.yegnabit.proofs.yegnabit_run.Goals as goal

pub returns-then-not-fit : goal.returns-then-not-fit
returns-then-not-fit c =
    let x = c.args in
    let all = call_short x.plan.now x.script.now x.answer.now x.history.now x.work.now x.out.now x.done.now
    c.fit.result c.fit.ensures c.lent_short.result c.lent_short.ensures
    (not-true c.fit.result c.if-not-fit.true-raw) in
    record {
      value = all.0;
      answer_after = all.1.0;
      history_after = all.1.1.0;
      work_after = all.1.1.1.0;
      out_after = all.1.1.1.1.0;
      done_after = all.1.1.1.1.1;
    }

pub put_done-requires : goal.put_done-requires
put_done-requires c =
    let x = c.args in
    six_fit x.plan.now x.script.now x.answer.now x.history.now x.work.now x.out.now x.done.now
    c.fit.result c.fit.ensures (not-false c.fit.result c.if-not-fit.false-raw)

pub returns-in-Err : goal.returns-in-Err
returns-in-Err c =
    let x = c.args in
    let all = call_plan_refused x.plan.now x.script.now x.answer.now x.history.now x.work.now x.out.now x.done.now
    c.fit.result c.fit.ensures (not-false c.fit.result c.if-not-fit.false-raw) _
    (read_refused x.plan.now _ _ _ c.in-Err.ensures (some_number c.in-Err.refusal.reason)) c.plan_refused.result _ _ _ _
    (some_number c.in-Err.refusal.reason)
    c.plan_refused.ensures c.clear.ensures.answer_after c.clear.ensures.history_after c.clear.ensures.work_after c.put_done.ensures in
    record {
      value = all.0;
      answer_after = all.1.0;
      history_after = all.1.1.0;
      work_after = all.1.1.1.0;
      out_after = all.1.1.1.1.0;
      done_after = all.1.1.1.1.1;
    }

pub fitting-ended-requires : goal.fitting-ended-requires
fitting-ended-requires c =
    let x = c.args in
    record {
      fits = table_fits x.plan.now _ _ _ c.in-Ok.ensures refl (bytes_known x.plan.now (λ i. (c.type_inv.plan i).fits));
      work_value = three_fit x.plan.now x.script.now x.answer.now x.history.now x.work.now x.out.now x.done.now
          c.fit.result c.fit.ensures (not-false c.fit.result c.if-not-fit.false-raw);
    }

pub end-requires : goal.end-requires
end-requires c =
    let x = c.args in
    let t = table_of c.in-Ok.count c.records.new.rows c.records.new.marks in
    record {
      table = lent_fits t x.script.now x.answer.now x.history.now x.work.now _ (ended_by c.fitting-ended.result)
          (bytes_known x.script.now (λ i. (c.type_inv.script i).fits))
          (table_fits x.plan.now _ _ _ c.in-Ok.ensures refl (bytes_known x.plan.now (λ i. (c.type_inv.plan i).fits)))
          c.fitting-ended.ensures.table_after;
      room = six_fit x.plan.now x.script.now x.answer.now x.history.now x.work.now x.out.now x.done.now
          c.fit.result c.fit.ensures (not-false c.fit.result c.if-not-fit.false-raw);
    }

pub returns : goal.returns
returns c =
    let x = c.args in
    let t = table_of c.in-Ok.count c.records.new.rows c.records.new.marks in
    let over = left_ends t (ended_by c.fitting-ended.result) _ x.out.now x.done.now
    (c.end.ensures.value, (c.end.ensures.out_after, c.end.ensures.done_after)) in
    let all = call_ended x.plan.now x.script.now x.answer.now x.history.now x.work.now x.out.now x.done.now
    c.fit.result c.fit.ensures (not-false c.fit.result c.if-not-fit.false-raw) _
    (read_fine x.plan.now _ _ _ c.in-Ok.ensures refl) refl _ _ _ _
    c.fitting-ended.ensures.table_after c.fitting-ended.ensures.answer_after c.fitting-ended.ensures.history_after
    c.fitting-ended.ensures.work_after
    c.end.result _ _
    over.0 over.1.0 over.1.1 in
    record {
      value = all.0;
      answer_after = all.1.0;
      history_after = all.1.1.0;
      work_after = all.1.1.1.0;
      out_after = all.1.1.1.1.0;
      done_after = all.1.1.1.1.1;
    }
