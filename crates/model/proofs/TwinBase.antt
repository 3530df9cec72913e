-- Where a script may make rows, and the label of a row that it makes there.
use mathlib.Core.Path.{◌≡◌, refl, sym, ◌∙◌, ap, subst}
use mathlib.Core.Bool.{false}
use mathlib.Core.Logic.{inl}
use mathlib.Core.List.{List, [], ◌∷◌, ◌++◌}
use mathlib.Core.Option.{Option, none, some}
use Prim.Native.Nat.{ℕ, ◌<◌}
use native.Mathlib.Omega.{arith}
use Rattle.model.specs.Table.{Row, row_at, count, is_element}
use Rattle.model.specs.Step.{Letter, letter_of}
use Rattle.model.specs.Run.{State, with_made}
use Rattle.model.proofs.GrowLaws.{count_with_row, row_at_with_row_new, row_at_with_row_old}
use Rattle.model.proofs.Words.{made}
use Rattle.model.proofs.Labels.{Label, label, grow, label_at, EndsIn, NewFit, fit_elements}
use Rattle.model.proofs.Twin.{World, Touched, ones, Twin}
use Rattle.model.proofs.TwinLaws.{touched_grow, one_count_lem, label_last}
use Rattle.model.proofs.SimLaws.{label_more}

module _ (W : World) where
  -- A BASE: an element that is not hidden and under which the script may make rows
  pub record Base (news : List Label) (s : State) (p : ℕ) : Type 0 where
    pub bound : p < count s.plan
    pub is_element : (row_at s.plan p).is_leaf ≡ false
    pub clear : W.one.hidden p → ⊥
    pub grows : (a : Letter) → Touched W.script (grow (label_at (ones W news) p) a)

  pub base_more : (news : List Label) (s t : State) → Twin W news s t → (r : Row) (l : Label) (p : ℕ) → Base news s p →
      Base (news ++ (l ∷ [])) (with_made s r) p
  base_more news s t T r l p b =
      record {
        bound = omega (arith, b.bound, count_with_row s.plan r);
        is_element = ap (λ r. r.is_leaf) (row_at_with_row_old s.plan r p b.bound) ∙ b.is_element;
        clear = b.clear;
        grows =
            λ a.
            subst (λ m. Touched W.script (grow m a))
            (sym (label_more W news (l ∷ []) p (omega (arith, b.bound, T.one.fit.size)))) (b.grows a);
      }

  pub base_new : (news : List Label) (s t : State) → Twin W news s t → (r : Row) (l : Label) → r.is_leaf ≡ false → Touched W.script l →
      Base (news ++ (l ∷ [])) (with_made s r) (count s.plan)
  base_new news s t T r l e k =
      record {
        bound = omega (arith, count_with_row s.plan r);
        is_element = ap (λ r. r.is_leaf) (row_at_with_row_new s.plan r) ∙ e;
        clear = λ h.
            omega (arith, W.one_fits.early (count s.plan) h, W.one_count, one_count_lem W news s t T);
        grows = λ a. touched_grow W.script (label_at (ones W (news ++ (l ∷ []))) (count s.plan)) a
            (subst (Touched W.script) (sym (label_last W news s t T l)) k);
      }

  -- the label of a row more: its parent's grown, or the script's own
  abbrev pub new_label : List Label → Option ℕ → Letter → Label
  new_label news none a = label (made W.script.owner) []
  new_label news (some p) a = grow (label_at (ones W news) p) a

  module _ (news : List Label) (s t : State) (T : Twin W news s t) (r : Row) (base : (p : ℕ) → r.parent ≡ some p → Base news s p) where
    pub new_fit : NewFit (ones W news) s.plan r (new_label news r.parent (letter_of r))
    new_fit =
        record {
          link =
              λ p e.
              ((base p e).bound, (base p e).is_element, ap (λ o. new_label news o (letter_of r)) e);
          word = word r.parent refl;
        }
      where
        word : (o : Option ℕ) → r.parent ≡ o → EndsIn (new_label news o (letter_of r)).word (letter_of r)
        word none e = tt
        word (some p) e = (refl, fit_elements T.one.fit p (base p e).bound (base p e).is_element)

    pub new_touched : Touched W.script (new_label news r.parent (letter_of r))
    new_touched = go r.parent refl
      where
        go : (o : Option ℕ) → r.parent ≡ o → Touched W.script (new_label news o (letter_of r))
        go none e = inl refl
        go (some p) e = (base p e).grows (letter_of r)
