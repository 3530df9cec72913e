-- The world of a script beside another: a plan, and the plan as the other script left it, with what the other touched hidden.
-- Which rows the script can cut there, and how a row of the plan ends in both runs.
use mathlib.Core.Path.{◌≡◌, refl, sym, ◌∙◌, ap, subst}
use mathlib.Core.Bool.{true}
use mathlib.Core.Logic.{◌⊎◌, inl, inr}
use mathlib.Core.List.{List, [], ◌++◌}
use mathlib.Core.Option.{none, some}
use Prim.Native.Nat.{ℕ, ◌+◌, ◌-◌, ◌<◌, ◌≤◌}
use native.Mathlib.Omega.{arith}
use native.Mathlib.Decide.{dec_lt}
use lib.ListN.{length, get_or, length-append}
use Rattle.model.specs.Limits.{max_rows}
use Rattle.model.specs.Table.{Row, Table, row_at, count, with_parent}
use Rattle.model.specs.Script.{Expr}
use Rattle.model.specs.Step.{letter_of}
use Rattle.model.specs.Run.{State}
use Rattle.model.specs.Paths.{Path, paths_of}
use Rattle.model.proofs.TableLaws.{parent_count}
use Rattle.model.proofs.Words.{first, made, first_made, made_injective, same, is_proper}
use Rattle.model.proofs.WordsMeet.{meets_apart}
use Rattle.model.proofs.Labels.{Label, label, label_at, Fit, fit_proper}
use Rattle.model.proofs.Below.{OnPath, marked_once}
use Rattle.model.proofs.All.{all_at}
use Rattle.model.specs.Base.{All}
use Rattle.model.proofs.Shift.{shift_row, shift_low, shift_row_low}
use Rattle.model.proofs.Twin.{Side, Script, SideFits, World, Touched, Kept, RunFrom, Twin}
use Rattle.model.proofs.TwinLaws.{touched_grow, label_high, label_side, one_count_lem}
use Rattle.model.proofs.Start.{Labelled}
use Rattle.model.proofs.Apart.{Away}
use Rattle.model.proofs.Alone.{script_of, alone_side, alone_fits}

-- LEFT: a plan, a script that has run on it alone, and a script to run beside it, which accesses nothing that the first modifies
pub record Left : Type 0 where
  pub plan : Table
  pub well : Labelled plan
  pub owner : ℕ
  pub other : ℕ
  pub distinct : owner ≡ other → ⊥
  pub ran : Expr
  pub next : Expr
  pub away : Away (paths_of owner ran) (paths_of other next)
  pub news : List Label
  pub left : State
  pub reached : RunFrom (script_of owner ran plan.marks) (alone_side plan well.labels) news left
  pub touched : All (Touched (script_of owner ran plan.marks)) news

module _ (L : Left) where
  -- the plan, its labels, and those of what is left; the script that ran, and the next
  abbrev x : Table
  x = L.plan

  abbrev ls : List Label
  ls = L.well.labels

  abbrev ms : List Label
  ms = L.well.labels ++ L.news

  abbrev c : Script
  c = script_of L.owner L.ran L.plan.marks

  abbrev d : Script
  d = script_of L.other L.next L.plan.marks

  -- HIDDEN: what c touched, none of which is on a path that d accesses
  abbrev pub Hidden : Table → List Label → ℕ → Type 0
  Hidden y l i = (i < count y) × Touched c (label_at l i)

  abbrev pub side : Table → List Label → Side
  side y l = record { plan = y; labels = l; hidden = Hidden y l }

  touched_apart : (l : Label) (p : Path) → Touched c l → is_proper l.word ≡ true → d.accessed p → OnPath x.marks p l → ⊥
  touched_apart l p (inl h) z a k =
      first_made k.root.row L.owner (sym k.root.is_first ∙ h)
  touched_apart l p (inr h) z a k =
      let (r, b, g) = h l.word same in
      meets_apart r p l.word (marked_once L.well.once g.root k.root) (L.away r p b a) z g.spells k.spells

  -- FITS: a table whose roots are the plan's or c's
  abbrev Roots : Label → Type 0
  Roots l = ((i : ℕ) × (l.root ≡ first i)) ⊎ (l.root ≡ made L.owner)

  roots_foreign : (l : Label) → Roots l → l.root ≡ made L.other → ⊥
  roots_foreign l (inl (i, g)) h = first_made i L.other (sym g ∙ h)
  roots_foreign l (inr g) h = L.distinct (made_injective L.owner L.other (sym g ∙ h))

  side_fits : (y : Table) (l : List Label) → Fit l y → y.marks ≡ x.marks → count y ≤ max_rows →
      ((e i : ℕ) → get_or x.marks e none ≡ some i → (i < count y) × (label_at l i ≡ label (first i) [])) →
      ((i : ℕ) → i < count y → Roots (label_at l i)) → SideFits d (side y l)
  side_fits y l fit marked room rooted roots =
      record {
        fit = fit;
        marked = marked;
        rooted = rooted;
        room = room;
        closed =
            λ i p h k. (
              parent_count y i p h,
              subst (Touched c) (sym (fit.links i p h).2)
                  (touched_grow c (label_at l p) (letter_of (row_at y i)) k.1),
            );
        apart =
            λ i p k a g.
            touched_apart (label_at l i) p k.1 (fit_proper fit i k.0) a g;
        early = λ i k. k.0;
        foreign = λ i h g. roots_foreign (label_at l i) (roots i h) g;
      }

  -- WHAT IS LEFT: the plan's rows, and those that c made
  pub left_count : count L.left.plan ≡ count x + length L.news
  left_count = omega (arith, L.reached.fit.size, length-append ls L.news, L.well.started.fit.size)

  plan_label : (i : ℕ) → i < count x → label_at ms i ≡ label_at ls i
  plan_label i h = label_side c (alone_side x ls) (alone_fits L.owner L.ran x L.well) L.news i h

  made_touched : (i : ℕ) → count x ≤ i → i < count x + length L.news → Touched c (label_at ms i)
  made_touched i a b =
      subst (Touched c) (sym (label_high ls L.news i (i - count x) (omega (arith, L.well.started.fit.size))))
      (all_at (label (first 0) []) (i - count x) L.touched (omega arith))

  left_roots : (i : ℕ) → i < count L.left.plan → Roots (label_at ms i)
  left_roots i h = go (dec_lt i (count x))
    where
      new : Touched c (label_at ms i) → Roots (label_at ms i)
      new (inl k) = inr k
      new (inr k) =
          let (p, a, b) = k (label_at ms i).word same in
          inl (b.root.row, b.root.is_first)

      go : Dec (i < count x) → Roots (label_at ms i)
      go (yes k) = subst Roots (sym (plan_label i k)) (inl (L.well.started.firsts i k))
      go (no k) = new (made_touched i (omega arith) (omega (arith, left_count)))

  pub plan_fits : SideFits d (side x ls)
  plan_fits =
      side_fits x ls L.well.started.fit refl L.well.room L.well.rooted
      (λ i h. inl (L.well.started.firsts i h))

  pub left_fits : SideFits d (side L.left.plan ms)
  left_fits =
      side_fits L.left.plan ms L.reached.fit L.reached.marked L.reached.room
      (λ e i h.
      let (a, b) = L.well.rooted e i h in
      (omega (arith, a, left_count), plan_label i a ∙ b)) left_roots

  -- a row that c did not touch is as it was
  pub left_same : (i : ℕ) → i < count x → (Hidden x ls i → ⊥) → (row_at L.left.plan i ≡ row_at x i) × (label_at ms i ≡ label_at ls i)
  left_same i h n = (go (L.reached.kept i h), plan_label i h)
    where
      go : Kept c (label_at ls i) (row_at x i) (row_at L.left.plan i) → row_at L.left.plan i ≡ row_at x i
      go (inl k) = k
      go (inr (a, b, k)) = absurd (n (h, inr k))

  pub hidden_plan : (i : ℕ) → i < count x → Hidden L.left.plan ms i → Hidden x ls i
  hidden_plan i h (a, b) = (h, subst (Touched c) (plan_label i h) b)

  pub hidden_left : (i : ℕ) → i < count x → Hidden x ls i → Hidden L.left.plan ms i
  hidden_left i h (a, b) = (omega (arith, left_count), subst (Touched c) (sym (plan_label i h)) b)

  pub hidden_made : (i : ℕ) → count x ≤ i → i < count x + length L.news → Hidden L.left.plan ms i
  hidden_made i a b = (omega (arith, left_count), made_touched i a b)

  -- THE WORLD
  abbrev pub beside : World
  beside =
      record {
        script = d;
        one = side x ls;
        two = side L.left.plan ms;
        n = count x;
        m = length L.news;
        one_fits = plan_fits;
        two_fits = left_fits;
        one_count = refl;
        two_count = left_count;
        clear = λ i h n k. n (hidden_plan i h k);
        clear_back = λ i h n k. n (hidden_left i h k);
        alike = left_same;
        between = hidden_made;
      }

-- AFTER THE RUNS
abbrev pub unlinked : Row → Row
unlinked r = with_parent r none

-- the plan's row r, left as l by the first script: alone the next script cuts it, and then also here; or alone it keeps it, and here it
-- keeps what was left, or cuts what is like r
abbrev pub Settled : (plan left alone here : Row) → Type 0
Settled r l u t = ((u ≡ unlinked r) × (t ≡ unlinked r)) ⊎ ((u ≡ r) × ((t ≡ l) ⊎ ((t ≡ r) × (t ≡ unlinked l))))

module _ (L : Left) (made : List Label) (u t : State) (T : Twin (beside L) made u t) where
  -- a row that the first script made stays
  pub made_stays : (i : ℕ) → count (x L) ≤ i → i < count L.left.plan → row_at t.plan i ≡ row_at L.left.plan i
  made_stays i a b = go (T.two.kept i b)
    where
      go : Kept (d L) (label_at (ms L) i) (row_at L.left.plan i) (row_at t.plan i) → row_at t.plan i ≡ row_at L.left.plan i
      go (inl k) = k
      go (inr (k, (p, q, o), l)) =
          absurd (touched_apart L (label_at (ms L) i) p (made_touched L i a (omega (arith, left_count L)))
          (fit_proper L.reached.fit i b) q o)

  module _ (i : ℕ) (h : i < count (x L)) where
    -- a row of the plan that the next script sees has its like
    seen_alike : (p : Path) × (d L).accessed p × OnPath (x L).marks p (label_at (ls L) i) →
        row_at t.plan i ≡ shift_row (count (x L)) (length L.news) (row_at u.plan i)
    seen_alike (p, a, o) =
        subst (λ j. row_at t.plan j ≡ shift_row (count (x L)) (length L.news) (row_at u.plan i))
        (shift_low (count (x L)) (length L.news) i h)
        (T.alike i (omega (arith, one_count_lem (beside L) made u t T))
        (λ k. touched_apart L (label_at (ls L) i) p k.1 (fit_proper L.well.started.fit i h) a o))

    pub plan_settled : Settled (row_at (x L) i) (row_at L.left.plan i) (row_at u.plan i) (row_at t.plan i)
    plan_settled = go (T.one.kept i h) (T.two.kept i (omega (arith, left_count L)))
      where
        low : (p : ℕ) → (row_at (x L) i).parent ≡ some p → p < count (x L)
        low p e = omega (arith, (L.well.started.fit.links i p e).0)

        go : Kept (d L) (label_at (ls L) i) (row_at (x L) i) (row_at u.plan i) →
            Kept (d L) (label_at (ms L) i) (row_at L.left.plan i) (row_at t.plan i) →
            Settled (row_at (x L) i) (row_at L.left.plan i) (row_at u.plan i) (row_at t.plan i)
        go (inr (k, a, l)) b = inl (k, seen_alike a ∙ ap (shift_row (count (x L)) (length L.news)) k)
        go (inl k) (inl b) = inr (k, inl b)
        go (inl k) (inr (b, (p, q, o), l)) =
            inr (
              k,
              inr (
                seen_alike (p, q, subst (OnPath (x L).marks p) (plan_label L i h) o) ∙
                    ap (shift_row (count (x L)) (length L.news)) k ∙ shift_row_low (count (x L)) (length L.news) (row_at (x L) i) low,
                b,
              ),
            )
