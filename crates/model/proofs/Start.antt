-- A well-formed plan has labels: a row without parent is its own root, and any other row has its parent's label, grown.
use mathlib.Core.Path.{◌≡◌, refl, sym, ◌∙◌, ap, subst}
use mathlib.Core.Bool.{false}
use mathlib.Core.List.{List, [], ◌∷◌, ◌++◌, append-nil}
use mathlib.Core.Option.{Option, none, some, none-ne-some}
use Prim.Native.Nat.{ℕ, ◌<◌, ◌≤◌}
use native.Mathlib.Nat.{not-suc-le-zero}
use native.Mathlib.Omega.{arith}
use lib.ListN.{length, get_or, get_or-append}
use lib.Seq.{append_snoc, get_or-append_seam}
use Rattle.model.specs.Limits.{max_rows}
use Rattle.model.specs.Table.{Row, Table, table, no_row, row_at, count, with_row, Tree}
use Rattle.model.specs.Step.{Letter, letter_of}
use Rattle.model.proofs.TableLaws.{Well}
use Rattle.model.proofs.GrowLaws.{with_row_cases}
use Rattle.model.proofs.Words.{first}
use Rattle.model.proofs.Labels.{Label, label, grow, label_at, EndsIn, Fit, fit_elements, NewFit, label_old, label_new, fit_row}

-- STARTED: labels from a plan's own rows
pub record Started (ls : List Label) (x : Table) : Type 0 where
  pub fit : Fit ls x
  pub roots : (i : ℕ) → i < count x → (row_at x i).parent ≡ none → label_at ls i ≡ label (first i) []
  pub firsts : (i : ℕ) → i < count x → (j : ℕ) × ((label_at ls i).root ≡ first j)

-- the label of the next row
abbrev next_label : List Label → (row : ℕ) → Letter → Option ℕ → Label
next_label ls i a none = label (first i) []
next_label ls i a (some p) = grow (label_at ls p) a

module _ (ls : List Label) (x : Table) (S : Started ls x) (r : Row)
    (under : (p : ℕ) → r.parent ≡ some p → (p < count x) × ((row_at x p).is_leaf ≡ false)) where
  abbrev next : Label
  next = next_label ls (count x) (letter_of r) r.parent

  next_fit : NewFit ls x r next
  next_fit =
      record {
        link = λ p e. ((under p e).0, (under p e).1, ap (next_label ls (count x) (letter_of r)) e);
        word = word r.parent refl;
      }
    where
      word : (o : Option ℕ) → r.parent ≡ o → EndsIn (next_label ls (count x) (letter_of r) o).word (letter_of r)
      word none e = tt
      word (some p) e = (refl, fit_elements S.fit p (under p e).0 (under p e).1)

  started_row : Started (ls ++ (next ∷ [])) (with_row x r)
  started_row =
      record {
        fit = fit_row S.fit r next next_fit;
        roots =
            with_row_cases x r (λ i q. q.parent ≡ none → label_at (ls ++ (next ∷ [])) i ≡ label (first i) [])
            (λ i h e. old i h ∙ S.roots i h e) (λ e. new ∙ ap (next_label ls (count x) (letter_of r)) e);
        firsts =
            with_row_cases x r (λ i q. (j : ℕ) × ((label_at (ls ++ (next ∷ [])) i).root ≡ first j))
            (λ i h. ((S.firsts i h).0, ap (λ l. l.root) (old i h) ∙ (S.firsts i h).1)) (last r.parent refl);
      }
    where
      old : (i : ℕ) → i < count x → label_at (ls ++ (next ∷ [])) i ≡ label_at ls i
      old i h = label_old ls next i (omega (arith, S.fit.size))

      new : label_at (ls ++ (next ∷ [])) (count x) ≡ next
      new = subst (λ n. label_at (ls ++ (next ∷ [])) n ≡ next) S.fit.size (label_new ls next)

      last : (o : Option ℕ) → r.parent ≡ o → (j : ℕ) × ((label_at (ls ++ (next ∷ [])) (count x)).root ≡ first j)
      last none e = (count x, ap (λ l. l.root) (new ∙ ap (next_label ls (count x) (letter_of r)) e))
      last (some p) e =
          let (j, f) = S.firsts p (under p e).0 in
          (j, ap (λ l. l.root) (new ∙ ap (next_label ls (count x) (letter_of r)) e) ∙ f)

-- ROW BY ROW
started_from : (x : Table) → Tree x → (rest before : List Row) → before ++ rest ≡ x.rows → (ls : List Label) →
    Started ls (table before x.marks) → (ls : List Label) × Started ls x
started_from x t [] before e ls S = (ls, subst (λ rs. Started ls (table rs x.marks)) (sym (append-nil before) ∙ e) S)
started_from x t (r ∷ rest) before e ls S =
    started_from x t rest (before ++ (r ∷ [])) (append_snoc before r rest ∙ e) (ls ++ (next ls y S r under ∷ []))
    (started_row ls y S r under)
  where
    y : Table
    y = table before x.marks

    here : row_at x (length before) ≡ r
    here = ap (λ rs. get_or rs (length before) no_row) (sym e) ∙ get_or-append_seam before r rest no_row

    under : (p : ℕ) → r.parent ≡ some p → (p < count y) × ((row_at y p).is_leaf ≡ false)
    under p q =
        let (b, l) = t.parents (length before) p (ap (λ r. r.parent) here ∙ q) in
        (b, ap (λ r. r.is_leaf) (sym (get_or-append before (r ∷ rest) no_row p b) ∙ ap (λ rs. get_or rs p no_row) e) ∙ l)

started_none : (marks : List (Option ℕ)) → Started [] (table [] marks)
started_none marks =
    record {
      fit = record { size = refl; links = λ i p e. absurd (none-ne-some p e); words = λ i h. tt };
      roots = λ i h e. absurd (not-suc-le-zero h);
      firsts = λ i h. (0, refl);
    }

pub started_by : (x : Table) → Tree x → (ls : List Label) × Started ls x
started_by x t = started_from x t x.rows [] refl [] (started_none x.marks)

-- LABELLED: a well-formed plan with its labels; no row is marked twice, and a marked row is its own root
pub record Labelled (x : Table) : Type 0 where
  pub labels : List Label
  pub started : Started labels x
  pub room : count x ≤ max_rows
  pub once : (d e i : ℕ) → get_or x.marks d none ≡ some i → get_or x.marks e none ≡ some i → d ≡ e
  pub rooted : (d i : ℕ) → get_or x.marks d none ≡ some i → (i < count x) × (label_at labels i ≡ label (first i) [])

pub labelled_by : (x : Table) → Well x → Labelled x
labelled_by x w =
    let (ls, S) = started_by x w.tree in
    record {
      labels = ls;
      started = S;
      room = w.few;
      once = w.tree.once;
      rooted =
          λ d i h.
          let (b, l, n) = w.tree.roots d i h in
          (b, S.roots i b n);
    }
