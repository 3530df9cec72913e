-- Cuts in both states of a twin: they stay a twin. And what a script may change, with all below it.
use mathlib.Core.Path.{◌≡◌, refl, sym, ◌∙◌, ap, subst}
use mathlib.Core.Logic.{inl, inr}
use mathlib.Core.List.{List, [], ◌∷◌, ◌++◌, map, map-append, Memᴰ as In}
use mathlib.Core.Option.{Option, none, some, none-ne-some}
use Prim.Native.Nat.{ℕ, ◌<◌}
use native.Mathlib.Omega.{arith}
use Rattle.model.specs.Base.{nothing, also}
use Rattle.model.specs.Table.{row_at, count, linked, with_parent}
use Rattle.model.specs.History.{cut}
use Rattle.model.specs.Step.{Letter}
use Rattle.model.specs.Run.{State, gives, cut_row, cut_by, cut_all}
use Rattle.model.specs.Paths.{Path, ◌▸◌, any_below}
use Rattle.model.proofs.GrowLaws.{count_linked, row_at_linked_same, row_at_linked_other, linked_cases}
use Rattle.model.proofs.Words.{same, more, grown_trans}
use Rattle.model.proofs.Spells.{deep}
use Rattle.model.proofs.Labels.{Label, grow, label_at, fit_cut}
use Rattle.model.proofs.Below.{OnPath, on_step}
use Rattle.model.proofs.Reach.{any_admits}
use Rattle.model.proofs.All.{all_append, all_imp}
use Rattle.model.proofs.Shift.{shift_injective}
use Rattle.model.proofs.Twin.{Side, Script, SideFits, World, Changed, Item, Kept, RunFrom, φ, Twin, Valued, Vals, Sim}
use Rattle.model.proofs.Twin.{φRow, φParent, φRecord}
use Rattle.model.proofs.TwinLaws.{label_side, label_across, Alike, row_bound, valued_alike, named_more}
use Rattle.model.proofs.SimLaws.{sim_gives}

-- CHANGED: a row on p is changed with all below it where p and what is below p are modified; rows below it where the latter is
changed_at : (c : Script) (l : Label) (p : Path) → OnPath c.marks p l → c.modified p → c.modified (p ▸ any_below) → Changed c l
changed_at c l p o a b w same = (p, a, o)
changed_at c l p o a b w (more {a = d} g) = (p ▸ any_below, b, on_step o (deep o.spells g refl (any_admits d)))

pub changed_below : (c : Script) (l : Label) (a : Letter) (p : Path) → OnPath c.marks p l → c.modified (p ▸ any_below) →
    Changed c (grow l a)
changed_below c l a p o b w same = (p ▸ any_below, b, on_step o (deep o.spells same refl (any_admits a)))
changed_below c l a p o b w (more {a = d} g) =
    (p ▸ any_below, b, on_step o (deep o.spells (grown_trans (more same) g) refl (any_admits d)))

-- an item of a first table's rows that is cut
abbrev Cuttable : Script → List Path → Type 0
Cuttable c r = (p : Path) → In p r → c.modified p × c.modified (p ▸ any_below)

cut_item : (c : Script) (d : Side) → SideFits c d → (news : List Label) (r : List Path) → Cuttable c r → (i : ℕ) →
    Item c r (label_at (d.labels ++ news) i) → i < count d.plan →
    ((p : Path) × c.accessed p × OnPath c.marks p (label_at d.labels i)) × Changed c (label_at d.labels i)
cut_item c d F news r m i (inl o) h =
    absurd (F.foreign i h (ap (λ l. l.root) (sym (label_side c d F news i h)) ∙ o))
cut_item c d F news r m i (inr (p, k, a, o)) h =
    let q : OnPath c.marks p (label_at d.labels i) = subst (λ l. OnPath c.marks p l) (label_side c d F news i h) o in
    ((p, a, q), changed_at c (label_at d.labels i) p q (m p k).0 (m p k).1)

-- ONE STATE
run_from_cut : (c : Script) (d : Side) → SideFits c d → (news : List Label) (s : State) → RunFrom c d news s → (r : List Path) →
    Cuttable c r → (i p : ℕ) → i < count s.plan → Item c r (label_at (d.labels ++ news) i) → (row_at s.plan i).parent ≡ some p →
    RunFrom c d news (cut_row s i p)
run_from_cut c d F news s g r m i p h k e =
    record {
      fit = fit_cut g.fit i h;
      marked = g.marked;
      room = omega (arith, g.room, count_linked s.plan i none);
      closed =
          linked_cases s.plan i none (λ j r. (p : ℕ) → r.parent ≡ some p → d.hidden p → d.hidden j) h (λ j n. g.closed j)
          (λ p e. absurd (none-ne-some p e));
      kept =
          linked_cases s.plan i none (λ j r. j < count d.plan → Kept c (label_at d.labels j) (row_at d.plan j) r) h
          (λ j n. g.kept j) (λ b. kept b (g.kept i b));
      names =
          all_append (all_imp (named_more (omega (arith, same_count))) g.names)
          (also (omega (arith, same_count), omega (arith, (g.fit.links i p e).0, same_count)) nothing);
    }
  where
    same_count : count (linked s.plan i none) ≡ count s.plan
    same_count = count_linked s.plan i none

    kept : i < count d.plan → Kept c (label_at d.labels i) (row_at d.plan i) (row_at s.plan i) →
        Kept c (label_at d.labels i) (row_at d.plan i) (with_parent (row_at s.plan i) none)
    kept b (inl n) =
        let (o, v) = cut_item c d F news r m i k b in
        inr (ap (λ r. with_parent r none) n, o, v)
    kept b (inr (n, o, v)) = inr (ap (λ r. with_parent r none) n, o, v)

-- BOTH STATES
module _ (W : World) (news : List Label) (r : List Path) (m : Cuttable W.script r) where
  twin_cut : (s t : State) → Twin W news s t → (i p : ℕ) → Valued W r news i → (row_at s.plan i).parent ≡ some p →
      Twin W news (cut_row s i p) (cut_row t (φ W i) (φ W p))
  twin_cut s t T i p k e =
      record {
        one = run_from_cut W.script W.one W.one_fits news s T.one r m i p a.0 k.1 e;
        two =
            run_from_cut W.script W.two W.two_fits news t T.two r m (φ W i) (φ W p) bound
            (subst (λ l. Item W.script r l) (sym (label_across W news i a.1)) k.1)
            (ap (λ r. r.parent) (T.alike i a.0 a.1) ∙ ap (φParent W) e);
        touched = T.touched;
        alike = λ j h. cut_alike j (omega (arith, count_linked s.plan i none));
        histories =
            ap (λ h. h ++ (cut (φ W i) (φ W p) ∷ [])) T.histories ∙
            sym (map-append (φRecord W) s.history (cut i p ∷ []));
      }
    where
      a : Alike W s i (φ W i)
      a = valued_alike W news s t T r i k

      bound : φ W i < count t.plan
      bound = row_bound W news s t T i a.0

      cut_alike : (j : ℕ) → j < count s.plan → (W.one.hidden j → ⊥) →
          row_at (linked t.plan (φ W i) none) (φ W j) ≡ φRow W (row_at (linked s.plan i none) j)
      cut_alike =
          linked_cases s.plan i none
          (λ j r. j < count s.plan → (W.one.hidden j → ⊥) → row_at (linked t.plan (φ W i) none) (φ W j) ≡ φRow W r) a.0
          (λ j n h c.
          row_at_linked_other t.plan (φ W i) none (φ W j) (λ e. n (shift_injective W.n W.m j i e)) ∙ T.alike j h c)
          (λ h c. row_at_linked_same t.plan (φ W i) none bound ∙ ap (λ r. with_parent r none) (T.alike i a.0 a.1))

  -- a value's rows cut, one after the other
  cuts_twin : (v : List ℕ) (s t : State) → Twin W news s t → Vals W r news v → Twin W news (cut_all v s) (cut_all (map (φ W) v) t)
  unfolding cut_all
  cuts_twin [] s t T nothing = T
  cuts_twin (i ∷ is) s t T (also k a) = cuts_twin is _ _ (go (row_at s.plan i).parent refl) a
    where
      A : Alike W s i (φ W i)
      A = valued_alike W news s t T r i k

      across : (o : Option ℕ) → (row_at s.plan i).parent ≡ o → (row_at t.plan (φ W i)).parent ≡ φParent W o
      across o e = ap (λ r. r.parent) (T.alike i A.0 A.1) ∙ ap (φParent W) e

      go : (o : Option ℕ) → (row_at s.plan i).parent ≡ o →
          Twin W news (cut_by i s (row_at s.plan i).parent) (cut_by (φ W i) t (row_at t.plan (φ W i)).parent)
      go none e = rw (e, across none e) T
      go (some p) e = rw (e, across (some p) e) (twin_cut s t T i p k e)

  -- THE OUTCOME of cutting a value's rows
  pub cut_sim : (v : List ℕ) (s t : State) → Twin W news s t → Vals W r news v →
      Sim W [] news (gives [] (cut_all v s)) (gives [] (cut_all (map (φ W) v) t))
  cut_sim v s t T a = sim_gives W [] news [] (cut_all v s) (cut_all (map (φ W) v) t) (cuts_twin v s t T a) nothing
