-- `undoing::undo_record` puts a link back or takes the last row away, where the record fits.
use Rattle.std.proofs.Common.{sym, ◌∙◌, ap, ◌≡◌, get_or}
use Rattle.model.specs.History.{cut_kind}
use Rattle.run_updates.specs.HistoryKinds.{byte_of}
use Rattle.run_undo.proofs.UndoLawsBack.{cut_back, made_back, made_byte}
use Rattle.run_undo.proofs.undoing.undo_record.Goals as goal

pub returns-else-not-cut_fits : goal.returns-else-not-cut_fits
returns-else-not-cut_fits c =
    let kind : get_or c.args.s.now 0 0 ≡ cut_kind = sym c.in_ok-kind.ensures ∙ ap byte_of c.in-Cut.is in
    cut_back c.requires c.args.marks.now kind (sym c.cut_fits.ensures ∙ c.if-not-cut_fits.false) c.number_at-row.ensures.value
    c.number_at-link.ensures.value c.relinked.ensures

pub returns-else-not-made_fits : goal.returns-else-not-made_fits
returns-else-not-made_fits c =
    made_back c.requires c.args.marks.now (made_byte c.in_ok-kind.ensures c.in-Element.is)
    (sym c.made_fits.ensures ∙ c.if-not-made_fits.false)
