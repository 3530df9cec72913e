-- Copies in both states of a twin: subtrees, as they were before the insert, under a target.
use mathlib.Core.Path.{◌≡◌, refl, sym, ◌∙◌, ap, ap₂, subst, subst₂}
use mathlib.Core.Bool.{Bool, true, false, ◌&&◌, not, cond}
use mathlib.Core.Logic.{inl, inr}
use mathlib.Core.List.{List, [], ◌∷◌, ◌++◌, map, Memᴰ as In}
use mathlib.Core.Option.{Option, none, some, none-ne-some, some-injective}
use Prim.Native.Nat.{ℕ, suc}
use native.Mathlib.Omega.{arith}
use lib.Dec.{ltb, eqb}
use lib.ListN.{length}
use borrow.Author.Tests.{eqb-true, lt-ltb, ne_eqb, not-true}
use Rattle.model.specs.Base.{All, nothing, also}
use Rattle.model.specs.Refusal.{target_at}
use Rattle.model.specs.Table.{Row, Table, row_at, count, is_element, with_parent}
use Rattle.model.specs.Step.{Letter, letter_of}
use Rattle.model.specs.Run.{State, Out, refused, then_row, with_made, new_row, Copied, copy_of, copy_parent, copy_row, subtree, copy_each}
use Rattle.model.specs.Run.{copy_all, inserted}
use Rattle.model.specs.Paths.{Path, ◌▸◌, any_below}
use Rattle.model.proofs.BoolLaws.{and_right, eqb_iff}
use Rattle.model.proofs.Labels.{Label, grow, label_at}
use Rattle.model.proofs.All.{all_imp}
use Rattle.model.proofs.Grows.{Grows, grows_row, grows_each, grows_copy}
use Rattle.model.proofs.Shift.{shift_injective}
use Rattle.model.proofs.Twin.{World, Item, Touched, φ, ones, Twin, Valued, Vals, Sim, alike, φRow, φParent}
use Rattle.model.proofs.TwinLaws.{Alike, count_across, row_bound, valued_alike}
use Rattle.model.proofs.TwinBase.{Base, base_more, base_new, new_label, new_fit, new_touched}
use Rattle.model.proofs.TwinStep.{subtree_alike, subtree_clear}
use Rattle.model.proofs.TwinRow.{new_sim}
use Rattle.model.proofs.TwinCut.{changed_below}
use Rattle.model.proofs.SimLaws.{sim_gives, sim_more}

module _ (W : World) where
  -- COPIES, numbered for the second state
  abbrev shift_copied : Copied → Copied
  shift_copied c = record { old = φ W c.old; new = φ W c.new }

  test_across : (i j : ℕ) → eqb (φ W i) (φ W j) ≡ eqb i j
  test_across i j = eqb_iff (φ W i) (φ W j) i j (shift_injective W.n W.m i j) (λ e. ap (φ W) e)

  copy_across : (i : ℕ) (cs : List Copied) → copy_of (φ W i) (map shift_copied cs) ≡ φParent W (copy_of i cs)
  unfolding copy_of
  copy_across i [] = refl
  copy_across i (c ∷ cs) =
      ap₂ (λ z o. cond z (some (φ W c.new)) o) (test_across c.old i) (copy_across i cs) ∙
      go (eqb c.old i) (copy_of i cs)
    where
      go : (z : Bool) (o : Option ℕ) →
          cond z (some (φ W c.new)) (φParent W o) ≡ φParent W (cond z (some c.new) o)
      go true o = refl
      go false o = refl

  parent_across : (z : Bool) (g : ℕ) (q : Option ℕ) (cs : List Copied) →
      copy_parent z (φ W g) (φParent W q) (map shift_copied cs) ≡ φParent W (copy_parent z g q cs)
  parent_across true g q cs = refl
  parent_across false g none cs = refl
  parent_across false g (some p) cs = copy_across p cs

  row_across : (x y : Table) (t g i : ℕ) (cs : List Copied) → row_at y (φ W i) ≡ φRow W (row_at x i) →
      copy_row y (φ W t) (φ W g) (φ W i) (map shift_copied cs) ≡ φRow W (copy_row x t g i cs)
  row_across x y t g i cs e =
      ap₂ (λ r z. with_parent r (copy_parent z (φ W g) r.parent (map shift_copied cs))) e (test_across i t) ∙
      ap (with_parent (row_at x i)) (parent_across (eqb i t) g (row_at x i).parent cs)

  -- THE INSERT: from the states before it, under the target g
  module _ (news₀ : List Label) (s₀ t₀ : State) (T₀ : Twin W news₀ s₀ t₀) (z g : ℕ) where
    -- the copy of an element is a base
    abbrev CopyFits : List Label → State → Copied → Type 0
    CopyFits news s c = (row_at s₀.plan c.old).is_leaf ≡ false → Base W news s c.new

    copy_base : (news : List Label) (s : State) (i p : ℕ) (cs : List Copied) → All (CopyFits news s) cs →
        (row_at s₀.plan i).is_leaf ≡ false →
        copy_of i cs ≡ some p → Base W news s p
    unfolding copy_of
    copy_base news s i p [] a e f = absurd (none-ne-some p f)
    copy_base news s i p (c ∷ cs) (also b a) e f =
        go (eqb c.old i) refl f (λ f. copy_base news s i p cs a e f)
      where
        go : (z : Bool) → eqb c.old i ≡ z → cond z (some c.new) (copy_of i cs) ≡ some p → (copy_of i cs ≡ some p → Base W news s p) →
            Base W news s p
        go true q f k =
            subst (Base W news s) (some-injective c.new p f)
            (b (ap (λ j. (row_at s₀.plan j).is_leaf) (eqb-true c.old i q) ∙ e))
        go false q f k = k f

    parent_base : (news : List Label) (s : State) (cs : List Copied) → All (CopyFits news s) cs → Base W news s g →
        (b : Bool) (o : Option ℕ) →
        ((i : ℕ) → o ≡ some i → (row_at s₀.plan i).is_leaf ≡ false) → (p : ℕ) → copy_parent b g o cs ≡ some p → Base W news s p
    parent_base news s cs a b true o h p e = subst (Base W news s) (some-injective g p e) b
    parent_base news s cs a b false none h p e = absurd (none-ne-some p e)
    parent_base news s cs a b false (some i) h p e = copy_base news s i p cs a (h i refl) e

    -- the rows of one subtree, and what is done next
    each_sim : (t : ℕ) (is : List ℕ) → All (λ i. Alike W s₀ i (φ W i)) is → (news : List Label) (cs : List Copied) (u q : State) →
        Twin W news u q → Base W news u g → All (CopyFits news u) cs → (k k' : State → Out) →
        ((news : List Label) (u q : State) → Twin W news u q → Base W news u g → Sim W [] news (k u) (k' q)) →
        ((u : State) → Grows u (k u)) →
        Sim W [] news (then_row (copy_each z s₀.plan t g is cs u) k)
        (then_row (copy_each z t₀.plan (φ W t) (φ W g) (map (φ W) is) (map shift_copied cs) q) k')
    unfolding copy_each
    each_sim t [] nothing news cs u q U b a k k' h d = h news u q U b
    each_sim t (i ∷ is) (also e es) news cs u q U b a k k' h d =
        subst (λ r. Sim W [] news (f (new_row z row u)) (f' (new_row z r q)))
        (sym (row_across s₀.plan t₀.plan t g i cs (T₀.alike i e.0 e.1)))
        (new_sim W news u q U [] z row l (new_fit W news u q U row base) (λ p e. (base p e).clear)
        (new_touched W news u q U row base) f f' (λ x. refl) (λ x. refl)
        (λ N.
        sim_more W [] news (l ∷ [])
        (subst
        (λ c.
        Sim W [] (news ++ (l ∷ [])) (then_row (copy_each z s₀.plan t g is (new ∷ cs) (with_made u row)) k)
        (then_row
        (copy_each z t₀.plan (φ W t) (φ W g) (map (φ W) is) (record { old = φ W i; new = c } ∷ map shift_copied cs)
        (with_made q (φRow W row))) k'))
        (count_across W news u q U)
        (each_sim t is es (news ++ (l ∷ [])) (new ∷ cs) (with_made u row) (with_made q (φRow W row)) N
        (base_more W news u q U row l g b) (also (λ e. base_new W news u q U row l e touched) (all_imp older a)) k k'
        h d)))
        (grows_row k (grows_each z s₀.plan t g is (new ∷ cs) (with_made u row)) d))
      where
        row : Row
        row = copy_row s₀.plan t g i cs

        l : Label
        l = new_label W news row.parent (letter_of row)

        new : Copied
        new = record { old = i; new = count u.plan }

        f : Out → Out
        f o = then_row (then_row o (λ p. copy_each z s₀.plan t g is (new ∷ cs) p)) k

        f' : Out → Out
        f' o =
            then_row
            (then_row o
            (λ p.
            copy_each z t₀.plan (φ W t) (φ W g) (map (φ W) is)
            (record { old = φ W i; new = count q.plan } ∷ map shift_copied cs) p)) k'

        base : (p : ℕ) → row.parent ≡ some p → Base W news u p
        base p e =
            parent_base news u cs a b (eqb i t) (row_at s₀.plan i).parent
            (λ j h. (T₀.one.fit.links i j h).1) p e

        touched : Touched W.script l
        touched = new_touched W news u q U row base

        older : (c : Copied) → CopyFits news u c → CopyFits (news ++ (l ∷ [])) (with_made u row) c
        older c k e = base_more W news u q U row l c.new (k e)

    -- the subtrees of a value's rows
    all_sim : (r : List Path) → ((p : Path) → In p r → W.script.accessed (p ▸ any_below)) → (v : List ℕ) → Vals W r news₀ v →
        (news : List Label) (u q : State) → Twin W news u q → Base W news u g →
        Sim W [] news (copy_all z s₀.plan v g u) (copy_all z t₀.plan (map (φ W) v) (φ W g) q)
    unfolding copy_all
    all_sim r acc [] nothing news u q U b = sim_gives W [] news [] u q U nothing
    all_sim r acc (i ∷ is) (also k a) news u q U b =
        subst
        (λ l.
        Sim W [] news (then_row (copy_each z s₀.plan i g (subtree s₀.plan i) [] u) (λ u. copy_all z s₀.plan is g u))
        (then_row (copy_each z t₀.plan (φ W i) (φ W g) l [] q) (λ u. copy_all z t₀.plan (map (φ W) is) (φ W g) u)))
        (subtree_alike W news₀ s₀ t₀ T₀ r acc i k)
        (each_sim i (subtree s₀.plan i) (subtree_clear W news₀ s₀ t₀ T₀ r acc i k) news [] u q U b nothing
        (λ u. copy_all z s₀.plan is g u) (λ u. copy_all z t₀.plan (map (φ W) is) (φ W g) u)
        (λ news u q U b. all_sim r acc is a news u q U b)
        (λ u. grows_copy z s₀.plan is g u))

  -- THE OUTCOME of an insert of a value on r into a value on q
  module _ (news : List Label) (s t : State) (T : Twin W news s t) (r q : List Path)
      (acc : (p : Path) → In p r → W.script.accessed (p ▸ any_below))
      (mods : (p : Path) → In p q → W.script.modified (p ▸ any_below)) where
    element_across : (g : ℕ) → Alike W s g (φ W g) → is_element t.plan (φ W g) ≡ is_element s.plan g
    element_across g a =
        ap₂ (λ b c. b && not c)
        (lt-ltb (φ W g) (count t.plan) (row_bound W news s t T g a.0) ∙ sym (lt-ltb g (count s.plan) a.0))
        (ap (λ r. r.is_leaf) (T.alike g a.0 a.1))

    target_base : (g : ℕ) → Valued W q news g → is_element s.plan g ≡ true → Base W news s g
    target_base g k e =
        record {
          bound = a.0;
          is_element = not-true (row_at s.plan g).is_leaf (and_right (ltb g (count s.plan)) (not (row_at s.plan g).is_leaf) e);
          clear = a.1;
          grows = λ b. grows b k.1;
        }
      where
        a : Alike W s g (φ W g)
        a = valued_alike W news s t T q g k

        grows : (b : Letter) → Item W.script q (label_at (ones W news) g) → Touched W.script (grow (label_at (ones W news) g) b)
        grows b (inl o) = inl o
        grows b (inr (p, i, c, o)) = inr (changed_below W.script (label_at (ones W news) g) b p o (mods p i))

    pub insert_sim : (z : ℕ) (v w : List ℕ) → Vals W r news v → Vals W q news w →
        Sim W [] news (inserted z v w s) (inserted z (map (φ W) v) (map (φ W) w) t)
    insert_sim z v [] a b = alike
    insert_sim z v (g ∷ []) a (also k b) =
        subst
        (λ c.
        Sim W [] news (cond (is_element s.plan g) (copy_all z s.plan v g s) (refused (target_at z)))
        (cond c (copy_all z t.plan (map (φ W) v) (φ W g) t) (refused (target_at z))))
        (sym (element_across g (valued_alike W news s t T q g k))) (go (is_element s.plan g) refl)
      where
        go : (c : Bool) → is_element s.plan g ≡ c →
            Sim W [] news (cond c (copy_all z s.plan v g s) (refused (target_at z)))
            (cond c (copy_all z t.plan (map (φ W) v) (φ W g) t) (refused (target_at z)))
        go true e = all_sim news s t T z g r acc v a news s t T (target_base g k e)
        go false e = alike
    insert_sim z v (g ∷ h ∷ w) a b =
        subst₂
        (λ c d.
        Sim W [] news (cond (c && is_element s.plan g) (copy_all z s.plan v g s) (refused (target_at z)))
        (cond (d && is_element t.plan (φ W g)) (copy_all z t.plan (map (φ W) v) (φ W g) t) (refused (target_at z))))
        (sym (ne_eqb (suc (suc (length w))) 1 (λ e. omega arith)))
        (sym (ne_eqb (suc (suc (length (map (φ W) w)))) 1 (λ e. omega arith))) alike
