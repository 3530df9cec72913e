-- What a call returned, from what a closure made of its error.
use mathlib.Core.Path.{◌≡◌, refl, sym, subst, ◌∙◌}
use Rattle.std.specs.Prelude.{Result, Ok, Err}
use Rattle.std.specs.Result.{MatchResult, IsErrAnd}

module _ {A D E : Type 0} (P : D → E → Type 0) where
  pub told_ok : (r : Result A D) {m : Result A E} {q : A} → MatchResult r (λ x. m ≡ Ok x) (λ e. IsErrAnd m (P e)) → m ≡ Ok q → r ≡ Ok q
  told_ok (Ok x) h e = cc
  told_ok (Err y) h e = absurd (subst (λ (m : Result A E). IsErrAnd m (P y)) e h)

  pub told_err : (r : Result A D) {m : Result A E} {e : E} → MatchResult r (λ x. m ≡ Ok x) (λ e. IsErrAnd m (P e)) → m ≡ Err e →
      (y : D) × (r ≡ Err y) × P y e
  told_err (Ok x) h e = absurd (subst (λ (m : Result A E). MatchResult m (λ _. Unit {0}) (λ _. ⊥)) (sym h ∙ e) tt)
  told_err (Err y) h e = (y, refl, subst (λ (m : Result A E). IsErrAnd m (P y)) e h)
