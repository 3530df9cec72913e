-- `pair` answers and leaves what `pair_text` says: an area too short, a refused file, or three lines.
use Rattle.std.proofs.Common.{◌∙◌, refl, ap, arith}
use Rattle.plan_table.specs.Packed.{fits}
use Rattle.plan_table.specs.Results.{TableResult}
use Rattle.plan_table.proofs.ByteLaws.{bytes_known}
use Rattle.plan_table.proofs.ReasonLaws.{some_number}
use Rattle.plan.proofs.ReadPlanLaws.{read_fits}
use Rattle.pair_report.proofs.PairLaws.{plan_refused, plan_read_lem}
use Rattle.pair_report.proofs.pair.Goals as goal

pub answer_lines-requires : goal.answer_lines-requires
answer_lines-requires c = (
  omega (arith, c.if-out-lt-ROOM.false),
  ap (λ (q : TableResult). fits q.table) c.in-Ok.ensures ∙
      read_fits c.args.plan.now (bytes_known c.args.plan.now (λ i. (c.type_inv.plan i).fits)),
)

pub returns-in-Ok-clause-value : goal.returns-in-Ok-clause-value
returns-in-Ok-clause-value c =
    (plan_read_lem c.args.plan.now c.args.first.now c.args.second.now (omega (arith, c.if-out-lt-ROOM.false)) c.answer_lines.auto.out
    c.in-Ok.ensures refl c.analyse-analysis.ensures c.answer_lines.ensures).0

pub returns-in-Ok-clause-out_after : goal.returns-in-Ok-clause-out_after
returns-in-Ok-clause-out_after c =
    (plan_read_lem c.args.plan.now c.args.first.now c.args.second.now (omega (arith, c.if-out-lt-ROOM.false)) c.answer_lines.auto.out
    c.in-Ok.ensures refl c.analyse-analysis.ensures c.answer_lines.ensures).1

pub returns-in-Err-clause-value : goal.returns-in-Err-clause-value
returns-in-Err-clause-value c =
    (plan_refused c.args.plan.now c.args.first.now c.args.second.now (omega (arith, c.if-out-lt-ROOM.false)) c.put_file.auto.out
    c.in-Err.ensures (some_number c.in-Err.refused.refusal.reason) c.put_file.ensures.text (omega (arith, c.put_file.ensures.few))).0

pub returns-in-Err-clause-out_after : goal.returns-in-Err-clause-out_after
returns-in-Err-clause-out_after c =
    (plan_refused c.args.plan.now c.args.first.now c.args.second.now (omega (arith, c.if-out-lt-ROOM.false)) c.put_file.auto.out
    c.in-Err.ensures (some_number c.in-Err.refused.refusal.reason) c.put_file.ensures.text (omega (arith, c.put_file.ensures.few))).1
