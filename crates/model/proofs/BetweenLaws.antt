-- What two lists of paths have in common, taken the other way round: two unions meet in either order.
use mathlib.Core.Path.{◌≡◌, refl, ap, sym, ◌∙◌}
use mathlib.Core.List.{List, [], ◌∷◌}
use Rattle.model.specs.Paths.{Path}
use Rattle.model.specs.Meeting.{Cell, join_cell, sum, cell, between, is_met, any_meet}
use Rattle.model.proofs.MirrorLaws.{mirror, cell_mirror}
use Rattle.model.proofs.CellLaws.{Respects, sum_same, sum_join, sum_through, sum_none, is_met_between}

sum_swap : (f : Path → Path → Cell) (ps qs : List Path) →
    sum (λ (q : Path). sum (λ (p : Path). f p q) ps) qs ≡ sum (λ (p : Path). sum (f p) qs) ps
unfolding sum
sum_swap f [] qs = sum_none qs
sum_swap f (p ∷ ps) qs =
    sum_join (f p) (λ (q : Path). sum (λ (p : Path). f p q) ps) qs ∙ ap (join_cell (sum (f p) qs)) (sum_swap f ps qs)

mirror_respects : Respects mirror
mirror_respects = record { none = refl; join = λ c d. refl }

between_mirror : (ps qs : List Path) → between qs ps ≡ mirror (between ps qs)
between_mirror ps qs =
    sum_same (λ (q : Path). sum (cell q) ps) (λ (q : Path). mirror (sum (λ (p : Path). cell p q) ps))
    (λ q. sum_same (cell q) (λ (p : Path). mirror (cell p q)) (λ p. cell_mirror p q) ps ∙
    sum_through mirror mirror_respects (λ (p : Path). cell p q) ps) qs ∙
    sum_through mirror mirror_respects (λ (q : Path). sum (λ (p : Path). cell p q) ps) qs ∙ ap mirror (sum_swap cell ps qs)

pub any_meet_mirror : (ps qs : List Path) → any_meet qs ps ≡ any_meet ps qs
any_meet_mirror ps qs = sym (is_met_between qs ps) ∙ ap is_met (between_mirror ps qs) ∙ is_met_between ps qs
