-- `history::put_six` puts the six bytes of a made row's record over the history, field by field.
use Rattle.std.proofs.Common.{List, ◌∷◌, ◌++◌, ◌∙◌, ap, ap₂, ℕ, ◌+◌, set}
use Rattle.model.specs.Base.{over}
use Rattle.model.specs.Stored.{number_bytes}
use Rattle.run_updates.proofs.PutLaws.{six_over}
use Rattle.run_updates.proofs.history.put_six.Goals as goal

pub returns : goal.returns
returns c =
    let x = c.args in
    c.put-2.ensures ∙
    ap (λ (v : List ℕ). over (x.at + 4) (number_bytes c.parent-number.result) (set v (x.at + 3) x.tag)) c.put.ensures ∙
    six_over x.history.now x.at c.from.result x.row.0 x.tag c.parent-number.result c.requires.made_size_in_bounds ∙
    ap₂ (λ k (l : List ℕ). over x.at ((k ∷ number_bytes x.row.0) ++ (x.tag ∷ l)) x.history.now) c.from.ensures
    c.parent-number.ensures.result_value
