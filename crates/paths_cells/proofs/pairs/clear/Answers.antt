use Rattle.std.proofs.Common.{◌∙◌, refl}
use Rattle.std.proofs.lemmas.Simd.{splat_is_map}
use Rattle.paths_cells.specs.Pairs.{cleared}
use Rattle.paths_cells.proofs.pairs.clear.Goals as goal

pub returns : goal.returns
unfolding cleared
returns c =
    c.fill.ensures.after (λ y e. e) ∙ splat_is_map c.args.table.now _ 0 refl
