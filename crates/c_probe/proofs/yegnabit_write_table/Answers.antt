-- `yegnabit_write_table` answers what is refused for another reason than the table as the area's.
use Rattle.std.proofs.Common.{rules, ◌≡◌, ◌∙◌, ap}
use Rattle.plan_table.specs.Results.{bytes_by}
use Rattle.model.specs.Refusal.{values}
use Rattle.c_codes.specs.Codes.{code_of}
use Rattle.c_probe.proofs.ProbeLaws.{is_given_lem, write_rest, link_alone}
use Rattle.c_probe.proofs.yegnabit_write_table.Goals as goal

pub returns-in_default : goal.returns-in_default
returns-in_default c =
    let x = c.args in
    let all = write_rest x.count x.rows.now x.marks.now x.out.now c.table_of.result c.table_of.ensures _ _
    (is_given_lem x.rows.now x.marks.now (search (c.if-rows-ne-ROWS.false, rules)) (search (c.if-marks-ne-DOCUMENTS.false, rules)))
    c.in-Err.ensures.value c.in-Err.ensures.out_after c.code-in_default.result
    (c.code-in_default.ensures ∙ ap (λ n. code_of (values n 0 0)) c.from-in_default.ensures)
    (link_alone c.in-Err.refusal.reason c.in_default.not-Link) in
    record { value = all.0; out_after = all.1 }
