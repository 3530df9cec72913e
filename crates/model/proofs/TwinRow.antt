-- A row more in both states of a twin: they stay a twin, or there is no room, or no room for the second alone.
use mathlib.Core.Path.{◌≡◌, refl, sym, ◌∙◌, ap, ap₂, subst, subst₂}
use mathlib.Core.Bool.{false}
use mathlib.Core.List.{List, [], ◌∷◌, ◌++◌, append_assoc, map-append}
use mathlib.Core.Option.{Option, none, some, none-ne-some, some-injective}
use Prim.Native.Nat.{ℕ, ◌+◌, ◌<◌, ◌≤◌}
use native.Mathlib.Omega.{arith}
use native.Mathlib.Decide.{dec_lt}
use lib.ListN.{length-append}
use Rattle.model.specs.Limits.{max_rows}
use Rattle.model.specs.Refusal.{Refusal, table_at}
use Rattle.model.specs.Table.{Row, row_at, count, with_row}
use Rattle.model.specs.History.{made}
use Rattle.model.specs.Step.{letter_of}
use Rattle.model.specs.Run.{State, Out, refused, gives, with_made, new_row}
use Rattle.model.specs.Paths.{Path}
use Rattle.model.proofs.TableLaws.{parent_count}
use Rattle.model.proofs.GrowLaws.{with_row_cases, count_with_row, row_at_with_row_new, row_at_with_row_old}
use Rattle.model.proofs.Labels.{Label, grow, label_at, Fit, NewFit, fit_row}
use Rattle.model.proofs.All.{all_append, all_imp}
use Rattle.model.specs.Base.{nothing, also}
use Rattle.model.proofs.LeadsLaws.{new_row_full, new_row_room}
use Rattle.model.proofs.Grows.{Grows}
use Rattle.model.proofs.Twin.{Side, Script, SideFits, World, Touched, Kept, RunFrom, φ, ones, twos, Twin, Full, Sim}
use Rattle.model.proofs.Twin.{φRow, φParent, φRecord, is_refused, alike, full}
use Rattle.model.proofs.TwinLaws.{label_across, Alike, one_count_lem, two_count, count_across, row_bound, clear_two}
use Rattle.model.proofs.TwinLaws.{alike_row, named_more}
use Rattle.model.proofs.SimLaws.{full_grows}

-- ONE STATE
run_from_row : (c : Script) (d : Side) → SideFits c d → (news : List Label) (s : State) → RunFrom c d news s → (r : Row) (l : Label) →
    NewFit (d.labels ++ news) s.plan r l → ((p : ℕ) → r.parent ≡ some p → d.hidden p → ⊥) → count s.plan < max_rows →
    RunFrom c d (news ++ (l ∷ [])) (with_made s r)
run_from_row c d F news s g r l n clear h =
    record {
      fit = subst (λ ls. Fit ls (with_row s.plan r)) (append_assoc d.labels news (l ∷ [])) (fit_row g.fit r l n);
      marked = g.marked;
      room = omega (arith, count_with_row s.plan r);
      closed =
          λ i p e.
          with_row_cases s.plan r (λ i q. (p : ℕ) → q.parent ≡ some p → d.hidden p → d.hidden i) (λ i l. g.closed i)
          (λ p e k. absurd (clear p e k)) i (parent_count (with_row s.plan r) i p e) p e;
      kept =
          λ i k.
          subst (Kept c (label_at d.labels i) (row_at d.plan i)) (sym (row_at_with_row_old s.plan r i (old i k))) (g.kept i k);
      names =
          all_append (all_imp (named_more (omega (arith, count_with_row s.plan r))) g.names)
          (also (
            omega (arith, count_with_row s.plan r),
            λ p e.
                omega (arith, (n.link p e).0, count_with_row s.plan r),
          ) nothing);
    }
  where
    old : (i : ℕ) → i < count d.plan → i < count s.plan
    old i k = omega (arith, g.fit.size, length-append d.labels news, F.fit.size)

-- BOTH STATES
module _ (W : World) (news : List Label) (s t : State) (T : Twin W news s t) where
  -- the parent of a shifted row is a shifted parent
  parent_shift : (q : Option ℕ) (j : ℕ) → φParent W q ≡ some j → (p : ℕ) × (q ≡ some p) × (φ W p ≡ j)
  parent_shift none j e = absurd (none-ne-some j e)
  parent_shift (some p) j e = (p, refl, some-injective (φ W p) j e)

  module _ (r : Row) (l : Label) (n : NewFit (ones W news) s.plan r l)
      (clear : (p : ℕ) → r.parent ≡ some p → W.one.hidden p → ⊥) where
    parent_like : (j : ℕ) → φParent W r.parent ≡ some j → (p : ℕ) × (r.parent ≡ some p) × Alike W s p j
    parent_like j e =
        let (p, f, q) = parent_shift r.parent j e in
        (p, f, ((n.link p f).0, clear p f, q))

    two_fit : NewFit (twos W news) t.plan (φRow W r) l
    two_fit = record { link = link; word = n.word }
      where
        link : (j : ℕ) → φParent W r.parent ≡ some j →
            (j < count t.plan) × ((row_at t.plan j).is_leaf ≡ false) × (l ≡ grow (label_at (twos W news) j) (letter_of r))
        link j e =
            let (p, f, a) = parent_like j e in
            let b : φ W p < count t.plan = row_bound W news s t T p a.0 in
            let k : (p < count s.plan) × ((row_at s.plan p).is_leaf ≡ false) × (l ≡ grow (label_at (ones W news) p) (letter_of r)) =
            n.link p f in (
              subst (λ i. i < count t.plan) a.2 b,
              ap (λ r. r.is_leaf) (alike_row W news s t T p j a) ∙ k.1,
              k.2 ∙
                  ap (λ m. grow m (letter_of r))
                  (sym (label_across W news p a.1) ∙ ap (λ i. label_at (twos W news) i) a.2),
            )

    two_clear : (j : ℕ) → φParent W r.parent ≡ some j → W.two.hidden j → ⊥
    two_clear j e =
        let (p, f, a) = parent_like j e in
        clear_two W news s t T p j a

    new_alike : (i : ℕ) → i < count (with_row s.plan r) → (W.one.hidden i → ⊥) →
        row_at (with_row t.plan (φRow W r)) (φ W i) ≡ φRow W (row_at (with_row s.plan r) i)
    new_alike =
        with_row_cases s.plan r (λ i q. (W.one.hidden i → ⊥) → row_at (with_row t.plan (φRow W r)) (φ W i) ≡ φRow W q)
        (λ i h c. row_at_with_row_old t.plan (φRow W r) (φ W i) (row_bound W news s t T i h) ∙ T.alike i h c)
        (λ c. ap (row_at (with_row t.plan (φRow W r))) (count_across W news s t T) ∙ row_at_with_row_new t.plan (φRow W r))

    twin_row : Touched W.script l → count s.plan < max_rows → count t.plan < max_rows →
        Twin W (news ++ (l ∷ [])) (with_made s r) (with_made t (φRow W r))
    twin_row k a b =
        record {
          one = run_from_row W.script W.one W.one_fits news s T.one r l n clear a;
          two = run_from_row W.script W.two W.two_fits news t T.two (φRow W r) l two_fit two_clear b;
          touched = all_append T.touched (also k nothing);
          alike = new_alike;
          histories =
              ap₂ (λ h i. h ++ (made i (φRow W r) ∷ [])) T.histories
              (sym (count_across W news s t T)) ∙
              sym (map-append (φRecord W) s.history (made (count s.plan) r ∷ []));
        }

  -- ROOM: for both; for neither; or for the first and not for m rows more
  pub data Room : Type 0 where
    roomy : count s.plan < max_rows → count t.plan < max_rows → Room
    filled : max_rows ≤ count s.plan → max_rows ≤ count t.plan → Room
    tight : max_rows ≤ count t.plan → 0 < W.m → max_rows ≤ count s.plan + W.m → Room

  room_cases : Room
  room_cases = go (dec_lt (count s.plan) max_rows) (dec_lt (count t.plan) max_rows)
    where
      go : Dec (count s.plan < max_rows) → Dec (count t.plan < max_rows) → Room
      go (yes a) (yes b) = roomy a b
      go (no a) (no b) = filled (omega arith) (omega arith)
      go (yes a) (no b) =
          let n = one_count_lem W news s t T in
          let m = two_count W news s t T in
          tight (omega arith) (omega arith) (omega arith)
      go (no a) (yes b) = absurd (omega (arith, one_count_lem W news s t T, two_count W news s t T))

  -- THE OUTCOME of a row more, and of what is done next; f and f' hand a refusal on
  module _ (q : List Path) (z : ℕ) (r : Row) (l : Label) (n : NewFit (ones W news) s.plan r l)
      (clear : (p : ℕ) → r.parent ≡ some p → W.one.hidden p → ⊥) (k : Touched W.script l) (f f' : Out → Out)
      (hands : (x : Refusal) → f (refused x) ≡ refused x) (hands' : (x : Refusal) → f' (refused x) ≡ refused x) where
    pub new_sim :
        (Twin W (news ++ (l ∷ [])) (with_made s r) (with_made t (φRow W r)) →
        Sim W q news (f (gives (count s.plan ∷ []) (with_made s r)))
        (f' (gives (count t.plan ∷ []) (with_made t (φRow W r))))) →
        Grows (with_made s r) (f (gives (count s.plan ∷ []) (with_made s r))) →
        Sim W q news (f (new_row z r s)) (f' (new_row z (φRow W r) t))
    new_sim next g = go room_cases
      where
        no_room : max_rows ≤ count s.plan → f (new_row z r s) ≡ refused (table_at z)
        no_room a = ap f (new_row_full z r s a) ∙ hands (table_at z)

        no_room' : max_rows ≤ count t.plan → f' (new_row z (φRow W r) t) ≡ refused (table_at z)
        no_room' b = ap f' (new_row_full z (φRow W r) t b) ∙ hands' (table_at z)

        fills : max_rows ≤ count s.plan + W.m → Dec (count s.plan < max_rows) → Full W (f (new_row z r s))
        fills c (yes a) =
            subst (Full W) (ap f (sym (new_row_room z r s a)))
            (full_grows W (with_made s r) (f (gives (count s.plan ∷ []) (with_made s r)))
            (omega (arith, count_with_row s.plan r)) g)
        fills c (no a) = subst (Full W) (sym (no_room (omega arith))) is_refused

        go : Room → Sim W q news (f (new_row z r s)) (f' (new_row z (φRow W r) t))
        go (roomy a b) =
            subst₂ (Sim W q news) (ap f (sym (new_row_room z r s a))) (ap f' (sym (new_row_room z (φRow W r) t b)))
            (next (twin_row r l n clear k a b))
        go (filled a b) = subst₂ (Sim W q news) (sym (no_room a)) (sym (no_room' b)) alike
        go (tight b h c) =
            subst (Sim W q news (f (new_row z r s))) (sym (no_room' b)) (full h (fills c (dec_lt (count s.plan) max_rows)))
