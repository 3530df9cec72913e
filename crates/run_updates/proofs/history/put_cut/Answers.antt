-- `history::put_cut` puts the record of a cut link over the history, field by field.
use Rattle.std.proofs.Common.{◌∙◌, ap, ◌+◌, ◌∷◌, ◌++◌}
use Rattle.model.specs.Base.{over}
use Rattle.model.specs.Stored.{number_bytes}
use Rattle.run_updates.proofs.PutLaws.{five_over}
use Rattle.run_updates.proofs.history.put_cut.Goals as goal

pub returns : goal.returns
returns c =
    let x = c.args in
    c.put-2.ensures ∙ ap (over (x.at + 3) (number_bytes x.parent.0)) c.put.ensures ∙
    five_over x.history.now x.at c.from.result x.row.0 x.parent.0 c.requires.cut_size_in_bounds ∙
    ap (λ k. over x.at ((k ∷ number_bytes x.row.0) ++ number_bytes x.parent.0) x.history.now) c.from.ensures
