-- A step's flags, by the ways out of the code that makes them.
use mathlib.Core.Path.{◌≡◌, ap₂, sym, ◌∙◌}
use mathlib.Core.Bool.{Bool, ◌||◌}
use mathlib.Core.List.{List, [], ◌∷◌, ◌++◌}
use Prim.Native.Nat.{ℕ, ◌+◌}
use native.Mathlib.Omega.{arith}
use lib.Dec.{eqb}
use Rattle.model.specs.Base.{among}
use Rattle.model.proofs.BoolLaws.{eqb_iff}
use Rattle.model.proofs.ListLaws.{any_snoc}
use Rattle.run_query.proofs.ReachLaws.{among_any}

-- FLAGS: one item more
pub among_snoc : (v : List ℕ) (j k : ℕ) → among k (v ++ (j ∷ [])) ≡ (among k v || eqb (j + 1) (k + 1))
among_snoc v j k =
    sym (among_any k (v ++ (j ∷ []))) ∙ any_snoc (eqb k) v j ∙
    ap₂ (λ (a b : Bool). a || b) (among_any k v) (eqb_iff k j (j + 1) (k + 1) (λ e. omega arith) (λ e. omega arith))
