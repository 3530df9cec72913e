-- `undoing::cut_fits` is the model's test of a cut link's record, by one law of UndoLaws for each way out.
use Rattle.std.proofs.Common.{get_or, map, ◌≡◌, sym, ◌∙◌, arith, rules}
use Rattle.run_undo.proofs.UndoLaws.{cut_child, cut_element}
use Rattle.model.specs.Base.{any}
use Rattle.model.specs.Table.{is_the}
use Rattle.plan_table.specs.Packed.{of_link, link_in}
use Rattle.run_undo.proofs.undoing.cut_fits.Goals as goal

pub returns-then-link-ne0 : goal.returns-then-link-ne0
returns-then-link-ne0 c =
    sym
    (cut_child c.requires c.args.marks.now c.number_at-row.ensures.value (omega
    (arith, c.if-count-row.false))
    (λ q. c.if-link-ne0.true (c.link.ensures ∙ q)))

pub returns : goal.returns
returns c =
    let is_root : let a = c.args in
    link_in (get_or a.rows.now c.number_at-row.result 0) ≡ 0 = sym c.link.ensures ∙ search (c.if-link-ne0.false, rules) in
    let marked_by : any (is_the c.number_at-row.result) (map of_link
    c.args.marks.now) ≡ c.is_marked.result = sym c.is_marked.ensures in
    c.is_lower_element.ensures ∙ sym (cut_element c.requires c.args.marks.now c.number_at-row.ensures.value (omega (
      arith,
      c.if-count-row.false,
    )) (is_root) (marked_by ∙ c.if-is_marked.false) c.number_at-parent.ensures.value)
