-- Labels: each row's root and word, given when the row is made and never changed. A table fits its labels; also after a cut, and with
-- a row more.
use mathlib.Core.Path.{◌≡◌, refl, sym, ◌∙◌, ap, subst}
use mathlib.Core.Bool.{true, false}
use mathlib.Core.Logic.{◌≢◌}
use mathlib.Core.List.{List, [], ◌∷◌, ◌++◌}
use mathlib.Core.Option.{none, some, none-ne-some}
use Prim.Native.Nat.{ℕ, ◌<◌}
use native.Mathlib.Omega.{arith}
use lib.ListN.{length, get_or, length-append, get_or-append}
use lib.Seq.{get_or-append_seam}
use Rattle.model.specs.Table.{Row, Table, row_at, count, with_row, linked}
use Rattle.model.specs.Step.{Letter, leaf_letter, named, letter_of}
use Rattle.model.proofs.BoolLaws.{cond_false}
use Rattle.model.proofs.TableLaws.{parent_count}
use Rattle.model.proofs.GrowLaws.{count_with_row, row_at_with_row_old, with_row_cases, count_linked, linked_cases, is_leaf_linked}
use Rattle.model.proofs.Words.{Word, Root, first, are_elements, is_proper}

pub record Label : Type 0 where
  pub root : Root
  pub word : Word

abbrev pub label : Root → Word → Label
label r w = record { root = r; word = w }

-- a child's label
abbrev pub grow : Label → Letter → Label
grow l a = label l.root (a ∷ l.word)

abbrev pub label_at : List Label → (row : ℕ) → Label
label_at ls i = get_or ls i (label (first 0) [])

-- FIT: a word ends in its row's letter, after elements' letters
abbrev pub EndsIn : Word → Letter → Type 0
EndsIn [] b = Unit {0}
EndsIn (a ∷ w) b = (a ≡ b) × (are_elements w ≡ true)

-- a parent, where there is one, is a lower element, and its label is the child's without the last letter
abbrev pub LinkedRow : List Label → Table → (number : ℕ) → Row → Type 0
LinkedRow ls x i r =
    (p : ℕ) → r.parent ≡ some p → (p < i) × ((row_at x p).is_leaf ≡ false) × (label_at ls i ≡ grow (label_at ls p) (letter_of r))

pub record Fit (ls : List Label) (x : Table) : Type 0 where
  pub size : length ls ≡ count x
  pub links : (i : ℕ) → LinkedRow ls x i (row_at x i)
  pub words : (i : ℕ) → i < count x → EndsIn (label_at ls i).word (letter_of (row_at x i))

pub fit_proper : {ls : List Label} {x : Table} → Fit ls x → (i : ℕ) → i < count x → is_proper (label_at ls i).word ≡ true
fit_proper {ls} {x} f i h = go (label_at ls i).word (f.words i h)
  where
    go : (w : Word) → EndsIn w (letter_of (row_at x i)) → is_proper w ≡ true
    go [] e = refl
    go (a ∷ w) e = e.1

-- below an element every letter so far is an element's
pub fit_elements : {ls : List Label} {x : Table} → Fit ls x → (i : ℕ) → i < count x → (row_at x i).is_leaf ≡ false →
    are_elements (label_at ls i).word ≡ true
unfolding are_elements
fit_elements {ls} {x} f i h e = go (label_at ls i).word (f.words i h)
  where
    letter : letter_of (row_at x i) ≡ named (row_at x i).tag
    letter = cond_false (row_at x i).is_leaf leaf_letter (named (row_at x i).tag) e

    go : (w : Word) → EndsIn w (letter_of (row_at x i)) → are_elements w ≡ true
    go [] k = refl
    go (a ∷ w) k = subst (λ b. are_elements (b ∷ w) ≡ true) (sym (k.0 ∙ letter)) k.1

-- CUT: what has no parent needs none
pub fit_cut : {ls : List Label} {x : Table} → Fit ls x → (i : ℕ) → i < count x → Fit ls (linked x i none)
fit_cut {ls} {x} f i h =
    record {
      size = f.size ∙ sym (count_linked x i none);
      links = linked_cases x i none (LinkedRow ls (linked x i none)) h old (λ p e. absurd (none-ne-some p e));
      words =
          λ j k.
          linked_cases x i none (λ j q. j < count x → EndsIn (label_at ls j).word (letter_of q)) h (λ j n. f.words j) (f.words i) j
          (subst (λ n. j < n) (count_linked x i none) k);
    }
  where
    old : (j : ℕ) → j ≢ i → LinkedRow ls (linked x i none) j (row_at x j)
    old j n p e =
        let k = f.links j p e in
        (k.0, is_leaf_linked x i none h p ∙ k.1, k.2)

-- A ROW MORE, with a label that fits it
pub record NewFit (ls : List Label) (x : Table) (r : Row) (l : Label) : Type 0 where
  pub link : (p : ℕ) → r.parent ≡ some p → (p < count x) × ((row_at x p).is_leaf ≡ false) × (l ≡ grow (label_at ls p) (letter_of r))
  pub word : EndsIn l.word (letter_of r)

pub label_old : (ls : List Label) (l : Label) (i : ℕ) → i < length ls → label_at (ls ++ (l ∷ [])) i ≡ label_at ls i
label_old ls l i h = get_or-append ls (l ∷ []) (label (first 0) []) i h

pub label_new : (ls : List Label) (l : Label) → label_at (ls ++ (l ∷ [])) (length ls) ≡ l
label_new ls l = get_or-append_seam ls l [] (label (first 0) [])

pub fit_row : {ls : List Label} {x : Table} → Fit ls x → (r : Row) (l : Label) → NewFit ls x r l → Fit (ls ++ (l ∷ [])) (with_row x r)
fit_row {ls} {x} f r l n =
    record {
      size = omega (arith, length-append ls (l ∷ []), f.size, count_with_row x r);
      links =
          λ j p e.
          with_row_cases x r (LinkedRow (ls ++ (l ∷ [])) (with_row x r)) links last j (parent_count (with_row x r) j p e) p e;
      words =
          with_row_cases x r (λ j q. EndsIn (label_at (ls ++ (l ∷ [])) j).word (letter_of q))
          (λ j h. subst (λ m. EndsIn m.word (letter_of (row_at x j))) (sym (old j h)) (f.words j h))
          (subst (λ m. EndsIn m.word (letter_of r)) (sym new) n.word);
    }
  where
    old : (i : ℕ) → i < count x → label_at (ls ++ (l ∷ [])) i ≡ label_at ls i
    old i h = label_old ls l i (omega (arith, f.size))

    new : label_at (ls ++ (l ∷ [])) (count x) ≡ l
    new = subst (λ n. label_at (ls ++ (l ∷ [])) n ≡ l) f.size (label_new ls l)

    under : (p : ℕ) (a : Letter) → p < count x → (row_at x p).is_leaf ≡ false →
        ((row_at (with_row x r) p).is_leaf ≡ false) × (grow (label_at ls p) a ≡ grow (label_at (ls ++ (l ∷ [])) p) a)
    under p a b e = (ap (λ q. q.is_leaf) (row_at_with_row_old x r p b) ∙ e, ap (λ m. grow m a) (sym (old p b)))

    links : (j : ℕ) → j < count x → LinkedRow (ls ++ (l ∷ [])) (with_row x r) j (row_at x j)
    links j h p e =
        let k = f.links j p e in
        let u = under p (letter_of (row_at x j)) (omega (arith, k.0)) k.1 in
        (k.0, u.0, old j h ∙ k.2 ∙ u.1)

    last : LinkedRow (ls ++ (l ∷ [])) (with_row x r) (count x) r
    last p e =
        let k = n.link p e in
        let u = under p (letter_of r) k.0 k.1 in
        (k.0, u.0, new ∙ k.2 ∙ u.1)
