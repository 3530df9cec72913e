-- `undoing::made_fits` is the model's test of a made row's record, by one law of UndoLaws for each way out.
use Rattle.std.proofs.Common.{map, ◌≡◌, sym, ◌∙◌, ap, ℕ, ◌+◌, rules}
use Rattle.run_undo.proofs.UndoLaws.{made_parent}
use Rattle.model.specs.Base.{any}
use Rattle.model.specs.Table.{is_the}
use Rattle.model.specs.Stored.{parent_in, number_at}
use Rattle.model.specs.Undo.{same_parent}
use Rattle.plan_table.specs.Packed.{of_link}
use Rattle.run_undo.proofs.undoing.made_fits.Goals as goal

pub returns : goal.returns
returns c =
    let is_last : c.number_at-row.result + 1 ≡ c.args.count = search (c.if-row-count.false, rules) in
    let marked_by : any (is_the c.number_at-row.result) (map of_link
    c.args.marks.now) ≡ c.is_marked.result = sym c.is_marked.ensures in
    let x = c.args in
    c.same_parent.ensures ∙ ap (λ (j : ℕ). same_parent (of_link j) (parent_in (number_at x.s.now 4))) c.link.ensures ∙
    sym (made_parent c.requires.fit x.marks.now c.number_at-row.ensures.value (is_last) (marked_by ∙ c.if-is_marked.false)
    (sym (rw c.requires.front at c.same_kind.ensures) ∙ c.if-not-same_kind.false)
    (sym c.tag.ensures ∙ search (c.if-tag-from.false, rules) ∙ c.from.ensures))
