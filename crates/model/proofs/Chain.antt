-- A plan for a word: a document's root and one row below the other, letter by letter. It is a tree, and a path that spells a part of the
-- word has that part's row on it.
use mathlib.Core.Path.{◌≡◌, refl, sym, ap, ◌∙◌, subst}
use mathlib.Core.Bool.{Bool, true, false, false≢true, cond}
use mathlib.Core.List.{List, [], ◌∷◌, Memᴰ as In}
use mathlib.Core.Option.{Option, none, some, none-ne-some}
use Prim.Native.Nat.{ℕ, zero, suc, ◌≤◌, ◌<◌}
use native.Mathlib.Omega.{arith}
use lib.Dec.{eqb}
use lib.ListN.{length, get_or}
use borrow.Author.Tests.{eqb-true, lt-ltb}
use Rattle.model.specs.Table.{Row, Table, table, row_at, count, is_the, has_parent, with_row, tag_fits, parent_fits, Tree}
use Rattle.model.specs.Script.{Step}
use Rattle.model.specs.Step.{Letter, leaf_letter, named, letter_of, admits, is_reached}
use Rattle.model.specs.Paths.{Place, document_place, Path, ◌▸◌, place_of}
use Rattle.model.specs.Promise.{Places, ArePlaces, rows_on}
use Rattle.model.proofs.BoolLaws.{and_both}
use Rattle.model.proofs.TableLaws.{is_the_at, is_the_by, is_element_by}
use Rattle.model.proofs.GrowLaws.{count_with_row, row_at_with_row_old, row_at_with_row_new, tree_with_row}
use Rattle.model.proofs.Words.{Word, Grown, same, more, grown_trans}
use Rattle.model.proofs.Below.{Below, under, further}
use Rattle.model.proofs.Reach.{Reach, by_child, by_deep, is_reach}
use Rattle.model.proofs.Spells.{Spells, spelled, child, deep, Elements, root, below, WordTo, to_element, to_leaf}
use Rattle.model.proofs.RowsOn.{in_collect, start_rows, step_rows}

-- THE MARK: document d alone, on row 0
unfoldable pub marked_by : ℕ → List (Option ℕ)
marked_by zero = some 0 ∷ []
marked_by (suc d) = none ∷ marked_by d

marked_by_at : (d : ℕ) → get_or (marked_by d) d none ≡ some 0
unfolding marked_by
marked_by_at zero = refl
marked_by_at (suc d) = marked_by_at d

marked_by_only : (d e i : ℕ) → get_or (marked_by d) e none ≡ some i → (e ≡ d) × (i ≡ 0)
unfolding marked_by
marked_by_only zero zero i h = (refl, cc)
marked_by_only zero (suc e) i h = absurd (none-ne-some i h)
marked_by_only (suc d) zero i h = absurd (none-ne-some i h)
marked_by_only (suc d) (suc e) i h = let k = marked_by_only d e i h in (ap suc k.0, k.1)

-- THE ROWS
abbrev pub row_of : Letter → Option ℕ → Row
row_of leaf_letter p = record { is_leaf = true; tag = 0; parent = p }
row_of (named n) p = record { is_leaf = false; tag = n; parent = p }

letter_of_row_of : (a : Letter) (p : Option ℕ) → letter_of (row_of a p) ≡ a
letter_of_row_of leaf_letter p = refl
letter_of_row_of (named n) p = refl

parent_row_of : (a : Letter) (p : Option ℕ) → (row_of a p).parent ≡ p
parent_row_of leaf_letter p = refl
parent_row_of (named n) p = refl

-- the row of a part of the word has the part's length for its number
unfoldable pub chain : (document : ℕ) → Word → Table
chain d [] = table (row_of (named 1) none ∷ []) (marked_by d)
chain d (a ∷ w) = with_row (chain d w) (row_of a (some (length w)))

pub count_chain : (d : ℕ) (w : Word) → count (chain d w) ≡ suc (length w)
unfolding chain
count_chain d [] = refl
count_chain d (a ∷ w) = count_with_row (chain d w) (row_of a (some (length w))) ∙ ap suc (count_chain d w)

marks_chain : (d : ℕ) (w : Word) → (chain d w).marks ≡ marked_by d
unfolding chain
marks_chain d [] = refl
marks_chain d (a ∷ w) = marks_chain d w

chain_old : (d : ℕ) (a : Letter) (w : Word) (i : ℕ) → i ≤ length w → row_at (chain d (a ∷ w)) i ≡ row_at (chain d w) i
unfolding chain
chain_old d a w i l = row_at_with_row_old (chain d w) (row_of a (some (length w))) i (omega (arith, count_chain d w))

grown_length : {u w : Word} → Grown u w → length u ≤ length w
grown_length same = omega arith
grown_length (more g) = omega (arith, grown_length g)

chain_row : (d : ℕ) (a : Letter) (u : Word) {w : Word} → Grown (a ∷ u) w →
    row_at (chain d w) (suc (length u)) ≡ row_of a (some (length u))
unfolding chain
chain_row d a u same =
    subst (λ (i : ℕ). row_at (with_row (chain d u) (row_of a (some (length u)))) i ≡ row_of a (some (length u))) (count_chain d u)
    (row_at_with_row_new (chain d u) (row_of a (some (length u))))
chain_row d a u (more {a = b} {w = w} g) = chain_old d b w (suc (length u)) (grown_length g) ∙ chain_row d a u g

-- IT IS A TREE
chain_element : (d : ℕ) {w : Word} → Elements w → (row_at (chain d w) (length w)).is_leaf ≡ false
unfolding chain
chain_element d root = refl
chain_element d (below {n} {w} h e) = ap (λ (r : Row). r.is_leaf) (chain_row d (named n) w same)

chain_tree_root : (d : ℕ) → Tree (chain d [])
unfolding chain
chain_tree_root d = record { tags = tags; parents = parents; roots = roots; once = once }
  where
    x : Table
    x = table (row_of (named 1) none ∷ []) (marked_by d)

    tags : (i : ℕ) → i < 1 → tag_fits (row_at x i) ≡ true
    tags zero l = refl
    tags (suc i) l = absurd (omega arith)

    parents : (i p : ℕ) → (row_at x i).parent ≡ some p → (p < i) × ((row_at x p).is_leaf ≡ false)
    parents zero p e = absurd (none-ne-some p e)
    parents (suc i) p e = absurd (none-ne-some p e)

    roots : (e i : ℕ) → get_or (marked_by d) e none ≡ some i → (i < 1) × ((row_at x i).is_leaf ≡ false) × ((row_at x i).parent ≡ none)
    roots e i h =
        let k = (marked_by_only d e i h).1 in
        (omega arith, ap (λ (j : ℕ). (row_at x j).is_leaf) k, ap (λ (j : ℕ). (row_at x j).parent) k)

    once : (e f i : ℕ) → get_or (marked_by d) e none ≡ some i → get_or (marked_by d) f none ≡ some i → e ≡ f
    once e f i h k = (marked_by_only d e i h).0 ∙ sym (marked_by_only d f i k).0

chain_fits : (d : ℕ) {w : Word} → Elements w → parent_fits (chain d w) (count (chain d w)) (some (length w)) ≡ true
chain_fits d {w} e =
    let l : length w < count (chain d w) = omega (arith, count_chain d w) in
    and_both _ _ (lt-ltb _ _ l) (is_element_by (chain d w) (length w) l (chain_element d e))

chain_elements : (d : ℕ) {w : Word} → Elements w → Tree (chain d w)
unfolding chain
chain_elements d root = chain_tree_root d
chain_elements d (below {n} {w} h e) =
    tree_with_row (chain d w) (row_of (named n) (some (length w))) (chain_elements d e) h (chain_fits d e)

pub chain_tree : (d : ℕ) {z : Bool} {w : Word} → WordTo z w → Tree (chain d w)
unfolding chain
chain_tree d (to_element e) = chain_elements d e
chain_tree d (to_leaf {w} e) = tree_with_row (chain d w) (row_of leaf_letter (some (length w))) (chain_elements d e) refl (chain_fits d e)

-- PLACES by marks alone
abbrev pub by_marks : List (Option ℕ) → Places
by_marks ms p i = cond (eqb p.owner 0) (is_the i (get_or ms p.number none)) false

by_marks_at : (ms : List (Option ℕ)) (p : Place) (i : ℕ) → by_marks ms p i ≡ true → (p.owner ≡ 0) × (get_or ms p.number none ≡ some i)
by_marks_at ms p i h = go (eqb p.owner 0) refl h
  where
    go : (t : Bool) → eqb p.owner 0 ≡ t → cond t (is_the i (get_or ms p.number none)) false ≡ true →
        (p.owner ≡ 0) × (get_or ms p.number none ≡ some i)
    go true e k = (eqb-true _ _ e, is_the_at i _ k)
    go false e k = absurd (false≢true k)

pub by_marks_places : (x : Table) → Tree x → ArePlaces x (by_marks x.marks)
by_marks_places x t = (λ d i l. refl, rooted, once)
  where
    rooted : (p : Place) (i : ℕ) → i < count x → by_marks x.marks p i ≡ true → has_parent (row_at x i).parent ≡ false
    rooted p i l h = ap has_parent (t.roots p.number i (by_marks_at x.marks p i h).1).2

    once : (p q : Place) (i : ℕ) → i < count x → by_marks x.marks p i ≡ true → by_marks x.marks q i ≡ true → p ≡ q
    once p q i l h k =
        let a = by_marks_at x.marks p i h in
        let b = by_marks_at x.marks q i k in
        let o : p.owner ≡ q.owner = a.0 ∙ sym b.0 in
        let n : p.number ≡ q.number = t.once p.number q.number i a.1 b.1 in
        λ j. record { owner = o j; number = n j }

-- ON ITS PATHS
module _ (d : ℕ) (w : Word) (t : Tree (chain d w)) where
  chain_parent : (a : Letter) (u : Word) → Grown (a ∷ u) w → (row_at (chain d w) (suc (length u))).parent ≡ some (length u)
  chain_parent a u g = ap (λ (r : Row). r.parent) (chain_row d a u g) ∙ parent_row_of a (some (length u))

  chain_below : {v u : Word} (a : Letter) → Grown v u → Grown (a ∷ u) w → Below (chain d w) (length v) (suc (length u))
  chain_below {v} a same g = under (chain_parent a v g)
  chain_below a (more {a = b} {w = u} h) g = further (chain_parent a (b ∷ u) g) (chain_below b h (grown_trans (more same) g))

  abbrev rows_on_chain : Path → List ℕ
  rows_on_chain p = rows_on (chain d w) (by_marks (chain d w).marks) p

  chain_reached : (p : Path) (s : Step) (a : Letter) (u : Word) → Grown (a ∷ u) w →
      Reach (chain d w) s (rows_on_chain p) (suc (length u)) →
      In (suc (length u)) (rows_on_chain (p ▸ s))
  chain_reached p s a u g r =
      subst (In (suc (length u))) (sym (step_rows (chain d w) (by_marks (chain d w).marks) p s))
      (in_collect (is_reached (chain d w) s (rows_on_chain p)) (count (chain d w)) (suc (length u))
      (omega (arith, grown_length g, count_chain d w))
      (is_reach (chain d w) s (rows_on_chain p) (suc (length u)) (λ i p e. (t.parents i p e).0) r))

  chain_admits : (s : Step) (a : Letter) (u : Word) → Grown (a ∷ u) w → admits s a ≡ true →
      admits s (letter_of (row_at (chain d w) (suc (length u)))) ≡ true
  chain_admits s a u g z =
      subst (λ (b : Letter). admits s b ≡ true) (sym (ap letter_of (chain_row d a u g) ∙ letter_of_row_of a (some (length u)))) z

  pub spells_row : {p : Path} {u : Word} → Spells p u → Grown u w → place_of p ≡ document_place d → In (length u) (rows_on_chain p)
  unfolding place_of
  spells_row (spelled {p}) g e =
      subst (In 0) (sym (start_rows (chain d w) (by_marks (chain d w).marks) p))
      (in_collect (by_marks (chain d w).marks p) (count (chain d w)) 0 (omega (arith, count_chain d w))
      (ap (λ (q : Place). by_marks (chain d w).marks q 0) e ∙
      is_the_by 0 _ (ap (λ (ms : List (Option ℕ)). get_or ms d none) (marks_chain d w) ∙ marked_by_at d)))
  spells_row (child {p} {s} {a} {w = u} h k z) g e =
      chain_reached p s a u g (by_child (spells_row h (grown_trans (more same) g) e) k (chain_parent a u g) (chain_admits s a u g z))
  spells_row (deep {p} {s} {a} {u = v} {w = u} h b k z) g e =
      chain_reached p s a u g
      (by_deep (spells_row h (grown_trans (more b) g) e) k (chain_below a b g) (chain_admits s a u g z))
