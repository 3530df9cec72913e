-- Rows on a path: the label of such a row has a root at the path's place and a word that its steps spell.
use mathlib.Core.Path.{◌≡◌, refl, sym, ap, subst}
use mathlib.Core.Bool.{Bool, true, false, not, cond}
use mathlib.Core.List.Memᴰ.{head as here}
use mathlib.Core.List.Memᴰ.{tail as there}
use mathlib.Core.List.{List, ◌∷◌, Memᴰ as In}
use Prim.Native.Nat.{ℕ, zero, suc, ◌+◌, ◌≤◌, ◌<◌}
use native.Mathlib.Omega.{arith}
use lib.Dec.{eqb}
use borrow.Author.Tests.{eqb-true, eqb-false}
use Rattle.model.specs.Table.{Table, row_at, count}
use Rattle.model.specs.Script.{Step}
use Rattle.model.specs.Step.{is_reached, collect}
use Rattle.model.specs.Paths.{Place, Path, start, ◌▸◌, place_of}
use Rattle.model.specs.Promise.{Places, ArePlaces, rows_at, rows_on}
use Rattle.model.proofs.BoolLaws.{true_false}
use Rattle.model.proofs.TableLaws.{has_parent_none}
use Rattle.model.proofs.All.{all_in}
use Rattle.model.proofs.Collect.{collect_all}
use Rattle.model.proofs.Words.{Root, first}
use Rattle.model.proofs.Labels.{Label, label_at}
use Rattle.model.proofs.Below.{OnBy, on_child, on_below}
use Rattle.model.proofs.Reach.{Reach, by_child, by_deep, reach_is}
use Rattle.model.proofs.PathLaws.{PathFits, starts, steps}
use Rattle.model.proofs.Spells.{spelled}
use Rattle.model.proofs.Start.{Started}

-- THE ROWS at a place, or that a step reaches
collect_in : (f : ℕ → Bool) (n i : ℕ) → In i (collect f 0 n) → (i < n) × (f i ≡ true)
collect_in f n i h = all_in (collect_all {P = λ (j : ℕ). (j < n) × (f j ≡ true)} f 0 n (λ j l e. (omega arith, e))) h

in_collect_from : (f : ℕ → Bool) (i j n : ℕ) → j ≤ i → i < j + n → f i ≡ true → In i (collect f j n)
unfolding collect
in_collect_from f i j zero a b e = absurd (omega arith)
in_collect_from f i j (suc n) a b e = go (f j) (eqb i j) refl refl (λ c. in_collect_from f i (suc j) n c (omega arith) e)
  where
    go : (t u : Bool) → f j ≡ t → eqb i j ≡ u → (suc j ≤ i → In i (collect f (suc j) n)) →
        In i (cond t (j ∷ collect f (suc j) n) (collect f (suc j) n))
    go true true c d h = here (eqb-true i j d)
    go true false c d h = there (h (omega (arith, eqb-false i j d)))
    go false true c d h = absurd (true_false (f j) (subst (λ (k : ℕ). f k ≡ true) (eqb-true i j d) e) c)
    go false false c d h = h (omega (arith, eqb-false i j d))

pub in_collect : (f : ℕ → Bool) (n i : ℕ) → i < n → f i ≡ true → In i (collect f 0 n)
in_collect f n i l e = in_collect_from f i 0 n (omega arith) (omega arith) e

rows_at_collect : (x : Table) (h : Places) (p : Place) (i n : ℕ) → rows_at x h p i n ≡ collect (h p) i n
unfolding rows_at collect
rows_at_collect x h p i zero = refl
rows_at_collect x h p i (suc n) = ap (λ (l : List ℕ). cond (h p i) (i ∷ l) l) (rows_at_collect x h p (suc i) n)

-- the rows on a path
module _ (x : Table) (h : Places) where
  pub start_rows : (p : Place) → rows_on x h (start p) ≡ collect (h p) 0 (count x)
  unfolding rows_on
  start_rows p = rows_at_collect x h p 0 (count x)

  pub step_rows : (p : Path) (s : Step) → rows_on x h (p ▸ s) ≡ collect (is_reached x s (rows_on x h p)) 0 (count x)
  unfolding rows_on
  step_rows p s = refl

-- ON A PATH: the label of a row on a path has its root at the path's place, and a word that the steps spell
pub record PlacedAt (x : Table) (h : Places) (p : Place) (r : Root) : Type 0 where
  pub row : ℕ
  pub is_first : r ≡ first row
  pub within : row < count x
  pub placed : h p row ≡ true

pub placed_once : {x : Table} {h : Places} {p q : Place} {r : Root} → ArePlaces x h → PlacedAt x h p r → PlacedAt x h q r → p ≡ q
placed_once a f g =
    let i : g.row ≡ f.row = cc in
    a.2 _ _ f.row f.within f.placed (rw i at g.placed)

module _ {ls : List Label} (x : Table) (S : Started ls x) (h : Places) (a : ArePlaces x h) where
  pub row_on : {o : ℕ} {p : Path} → PathFits o p → (i : ℕ) → In i (rows_on x h p) → OnBy (PlacedAt x h) p (label_at ls i)
  unfolding place_of
  row_on (starts {p} k) i m =
      let (l, e) = collect_in (h p) (count x) i (subst (In i) (start_rows x h p) m) in
      subst (OnBy (PlacedAt x h) (start p)) (sym (S.roots i l (has_parent_none (row_at x i).parent (ap not (a.1 p i l e)))))
      (record { root = record { row = i; is_first = refl; within = l; placed = e }; spells = spelled })
  row_on (steps {p} {s} k f) i m =
      let c = collect_in (is_reached x s (rows_on x h p)) (count x) i (subst (In i) (step_rows x h p s) m) in
      by (reach_is x s (rows_on x h p) i f.down c.1) (λ j n. row_on k j n)
    where
      by : Reach x s (rows_on x h p) i → ((j : ℕ) → In j (rows_on x h p) → OnBy (PlacedAt x h) p (label_at ls j)) →
          OnBy (PlacedAt x h) (p ▸ s) (label_at ls i)
      by (by_child {i = j} n z e q) r = on_child S.fit s j i (r j n) e z q
      by (by_deep {i = j} n z b q) r = on_below S.fit s j i (r j n) b z q
