-- A node on both, of a step that may let none pass: where it does, as the loop marks it; where it does not, nothing is marked.
use mathlib.Core.Path.{◌≡◌, refl, ap, sym, ◌∙◌}
use mathlib.Core.Bool.{Bool, true, false, ◌&&◌}
use mathlib.Core.List.{List}
use Prim.Native.Nat.{ℕ, ◌/◌, ◌%◌}
use Rattle.model.specs.Base.{bit}
use Rattle.model.specs.Script.{Step}
use Rattle.model.specs.Meeting.{admits_element, admits_leaf, is_named}
use Rattle.paths_positions.specs.Answer.{any_up_to}
use Rattle.paths_positions.proofs.AnyUpToLaws.{any_up_to_none, any_up_to_same}
use Rattle.paths_cells.specs.Pairs.{on_element, on_leaf}
use Rattle.paths_rows.specs.Rows.{RowMarked, PassPre, element_by, leaf_by}
use Rattle.paths_fill.specs.Filling.{step_elements, step_leaves}

-- the same test at every column
same_row : {t t' : List ℕ} {m r k n : ℕ} (f g : ℕ → Bool) → ((l : ℕ) → f l ≡ g l) → RowMarked t m r k f n t' → RowMarked t m r k g n t'
same_row f g e w = record { size = w.size; here = λ l h. w.here l h ∙ ap bit (e l); others = w.others }

-- nothing to mark
none_row : {t c : List ℕ} {m r k : ℕ} (f : ℕ → Bool) → ((l : ℕ) → f l ≡ false) → PassPre t m r k c → RowMarked t m r k f m t
none_row f e pre = record { size = refl; here = λ l h. pre.clear l h ∙ ap bit (sym (e l)); others = λ s i j h g n. refl }

module _ (c ps : List ℕ) (s : Step) {t : List ℕ} {m k : ℕ} where
  pub elements_some : {t' : List ℕ} {x n : Bool} → x ≡ admits_element s → x ≡ true → n ≡ is_named s →
      RowMarked t m on_element k (element_by c ps n (s.name % 256) (s.name / 256)) m t' →
      RowMarked t m on_element k (step_elements s c ps) m t'
  elements_some e f g w =
      same_row _ _ (λ l. ap (λ (y : Bool). element_by c ps y (s.name % 256) (s.name / 256) l) g ∙
      sym (ap (λ (y : Bool). y && element_by c ps (is_named s) (s.name % 256) (s.name / 256) l) (sym e ∙ f))) w

  pub elements_none : {x : Bool} → PassPre t m on_element k c → x ≡ admits_element s → x ≡ false →
      RowMarked t m on_element k (step_elements s c ps) m t
  elements_none pre e f =
      none_row _ (λ l. ap (λ (y : Bool). y && element_by c ps (is_named s) (s.name % 256) (s.name / 256) l) (sym e ∙ f)) pre

  pub leaves_some : {t' : List ℕ} {x r : Bool} → x ≡ admits_leaf s → x ≡ true → RowMarked t m on_leaf k (leaf_by c ps) m t' →
      r ≡ any_up_to (leaf_by c ps) m → RowMarked t m on_leaf k (step_leaves s c ps) m t' × (r ≡ any_up_to (step_leaves s c ps) m)
  leaves_some e f w g =
      let h : (l : ℕ) → leaf_by c ps l ≡ step_leaves s c ps l = λ l. sym (ap (λ (y : Bool). y && leaf_by c ps l) (sym e ∙ f)) in
      (same_row _ _ h w, g ∙ any_up_to_same _ _ m h)

  pub leaves_none : {x : Bool} → PassPre t m on_leaf k c → x ≡ admits_leaf s → x ≡ false →
      RowMarked t m on_leaf k (step_leaves s c ps) m t × (false ≡ any_up_to (step_leaves s c ps) m)
  leaves_none pre e f =
      let h : (l : ℕ) → step_leaves s c ps l ≡ false = λ l. ap (λ (y : Bool). y && leaf_by c ps l) (sym e ∙ f) in
      (none_row _ h pre, sym (any_up_to_none _ h m))
