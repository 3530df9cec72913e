-- `yegnabit_sweep_table` answers a table that does not fit with the plan's refusal.
use Rattle.std.proofs.Common.{rules, ◌≡◌, ◌∙◌, ap}
use Rattle.plan_table.proofs.ReasonLaws.{some_number}
use Rattle.model.specs.Refusal.{values}
use Rattle.c_codes.specs.Codes.{code_of}
use Rattle.c_probe.proofs.ProbeLaws.{is_given_lem, sweep_refused}
use Rattle.c_probe.proofs.yegnabit_sweep_table.Goals as goal

pub returns-in-Err-clause-value : goal.returns-in-Err-clause-value
returns-in-Err-clause-value c =
    let x = c.args in
    (sweep_refused x.count x.rows.now x.marks.now c.table_of-t.result c.table_of-t.ensures _
    (is_given_lem x.rows.now x.marks.now (search (c.if-rows-ne-ROWS.false, rules)) (search (c.if-marks-ne-DOCUMENTS.false, rules)))
    c.in-Err.ensures c.code-in-Err.result
    (c.code-in-Err.ensures ∙ ap (λ n. code_of (values n 1 0)) c.from.ensures) (some_number c.in-Err.refused.refusal.reason)).0
