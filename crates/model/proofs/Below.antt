-- Below: a row under another, link by link; this is what is_below computes, and the lower row's label is grown from the upper's. Labels on
-- a path.
use mathlib.Core.Path.{◌≡◌, refl, sym, ◌∙◌, ap, subst}
use mathlib.Core.Bool.{true, ◌||◌, false≢true}
use mathlib.Core.Logic.{◌⊎◌, inl, inr}
use mathlib.Core.List.{List, ◌∷◌}
use mathlib.Core.Option.{Option, none, some}
use Prim.Native.Nat.{ℕ, zero, suc, ◌<◌}
use native.Mathlib.Nat.{not-suc-le-zero}
use native.Mathlib.Omega.{arith}
use lib.ListN.{get_or}
use Rattle.model.specs.Table.{Table, row_at}
use Rattle.model.specs.Sweep.{through}
use Rattle.model.specs.Script.{Step}
use Rattle.model.specs.Step.{letter_of, admits, parent_is, is_below_from, is_below}
use Rattle.model.specs.Paths.{Place, Path, ◌▸◌, place_of}
use Rattle.model.proofs.BoolLaws.{or_left, or_right, or_cases}
use Rattle.model.proofs.TableLaws.{is_the_at, is_the_by}
use Rattle.model.proofs.Words.{Word, Root, first, Grown, same, more}
use Rattle.model.proofs.Spells.{Spells, child, deep}
use Rattle.model.proofs.Labels.{Label, label, grow, label_at, Fit}

pub data Below (x : Table) (top : ℕ) : ℕ → Type 0 where
  under : {i : ℕ} → (row_at x i).parent ≡ some top → Below x top i
  further : {i p : ℕ} → (row_at x i).parent ≡ some p → Below x top p → Below x top i

-- COMPUTED
below_step : (n : ℕ) (x : Table) (t i : ℕ) → ((p : ℕ) → is_below_from n x t p ≡ true → Below x t p) →
    (parent_is x t i || through (is_below_from n x t) (row_at x i).parent) ≡ true → Below x t i
below_step n x t i h e = go (or_cases (parent_is x t i) (through (is_below_from n x t) (row_at x i).parent) e)
  where
    deeper : (q : Option ℕ) → (row_at x i).parent ≡ q → through (is_below_from n x t) q ≡ true → Below x t i
    deeper none f g = absurd (false≢true g)
    deeper (some p) f g = further f (h p g)

    go : (parent_is x t i ≡ true) ⊎ (through (is_below_from n x t) (row_at x i).parent ≡ true) → Below x t i
    go (inl f) = under (is_the_at t (row_at x i).parent f)
    go (inr f) = deeper (row_at x i).parent refl f

below_from : (n : ℕ) (x : Table) (t i : ℕ) → is_below_from n x t i ≡ true → Below x t i
unfolding is_below_from
below_from zero x t i e = absurd (false≢true e)
below_from (suc n) x t i e = below_step n x t i (λ p f. below_from n x t p f) e

pub below_is : (x : Table) (t i : ℕ) → is_below x t i ≡ true → Below x t i
below_is x t i e = below_from (suc i) x t i e

-- where parents are lower, a row is higher than all that it is below
pub below_above : (x : Table) → ((i p : ℕ) → (row_at x i).parent ≡ some p → p < i) → {t i : ℕ} → Below x t i → t < i
below_above x l {t} {i} (under e) = l i t e
below_above x l {t} {i} (further {p = p} e b) = omega (arith, l i p e, below_above x l b)

-- and fuel is enough
is_below_from_lem : (x : Table) → ((i p : ℕ) → (row_at x i).parent ≡ some p → p < i) → (n t i : ℕ) → Below x t i → i < n →
    is_below_from n x t i ≡ true
unfolding is_below_from
is_below_from_lem x l zero t i b h = absurd (not-suc-le-zero h)
is_below_from_lem x l (suc n) t i (under e) h =
    or_left (parent_is x t i) (through (is_below_from n x t) (row_at x i).parent) (is_the_by t (row_at x i).parent e)
is_below_from_lem x l (suc n) t i (further {p = p} e b) h =
    or_right (parent_is x t i) (through (is_below_from n x t) (row_at x i).parent)
    (subst (λ q. through (is_below_from n x t) q ≡ true) (sym e)
    (is_below_from_lem x l n t p b (omega (arith, l i p e))))

pub is_below_lem : (x : Table) → ((i p : ℕ) → (row_at x i).parent ≡ some p → p < i) → (t i : ℕ) → Below x t i → is_below x t i ≡ true
is_below_lem x l t i b = is_below_from_lem x l (suc i) t i b (omega arith)

-- LABELS: below a row, a label has the row's root, its own letter last, and the rest grown from the row's word
pub below_label : {ls : List Label} {x : Table} → Fit ls x → (t i : ℕ) → Below x t i →
    (w : Word) × (label_at ls i ≡ label (label_at ls t).root (letter_of (row_at x i) ∷ w)) × Grown (label_at ls t).word w
below_label {ls} f t i (under e) = ((label_at ls t).word, (f.links i t e).2, same)
below_label {ls} {x} f t i (further {p = p} e b) =
    let (w, q, g) = below_label f t p b in
    (letter_of (row_at x p) ∷ w, (f.links i p e).2 ∙ ap (λ l. grow l (letter_of (row_at x i))) q, more g)

-- ON A PATH: the root is at the path's place, and the steps spell the word
pub record OnBy (At : Place → Root → Type 0) (p : Path) (l : Label) : Type 0 where
  pub root : At (place_of p) l.root
  pub spells : Spells p l.word

-- what a step reaches is on the path with the step
pub on_step : {At : Place → Root → Type 0} {p : Path} {s : Step} {l : Label} {w : Word} → OnBy At p l → Spells (p ▸ s) w →
    OnBy At (p ▸ s) (label l.root w)
unfolding place_of
on_step o h = record { root = o.root; spells = h }

module _ {At : Place → Root → Type 0} {ls : List Label} {x : Table} {p : Path} (f : Fit ls x) (s : Step) (t i : ℕ)
    (o : OnBy At p (label_at ls t)) where
  pub on_child : (row_at x i).parent ≡ some t → s.axis ≡ 0 → admits s (letter_of (row_at x i)) ≡ true → OnBy At (p ▸ s) (label_at ls i)
  on_child e a z = subst (OnBy At (p ▸ s)) (sym (f.links i t e).2) (on_step o (child o.spells a z))

  pub on_below : Below x t i → s.axis ≡ 1 → admits s (letter_of (row_at x i)) ≡ true → OnBy At (p ▸ s) (label_at ls i)
  on_below b a z = let (w, q, g) = below_label f t i b in subst (OnBy At (p ▸ s)) (sym q) (on_step o (deep o.spells g a z))

-- at a document's place is the row that it marks
pub record MarkedAt (marks : List (Option ℕ)) (p : Place) (r : Root) : Type 0 where
  pub row : ℕ
  pub is_first : r ≡ first row
  pub document : p.owner ≡ 0
  pub marked : get_or marks p.number none ≡ some row

abbrev pub OnPath : List (Option ℕ) → Path → Label → Type 0
OnPath marks = OnBy (MarkedAt marks)

-- where no row is marked twice, a root has one place
pub marked_once : {marks : List (Option ℕ)} {p q : Place} {r : Root} →
    ((d e i : ℕ) → get_or marks d none ≡ some i → get_or marks e none ≡ some i → d ≡ e) → MarkedAt marks p r → MarkedAt marks q r → p ≡ q
marked_once {p} {q} once f g =
    let i : g.row ≡ f.row = cc in
    let o : p.owner ≡ q.owner = cc in
    let n : p.number ≡ q.number = once _ _ _ f.marked (g.marked ∙ ap some i) in
    λ j. record { owner = o j; number = n j }
