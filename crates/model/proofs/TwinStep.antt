-- A step down, and a subtree, reach the same rows in both states of a twin.
use mathlib.Core.Path.{◌≡◌, refl, sym, ◌∙◌, ap, subst}
use mathlib.Core.Bool.{true, false}
use mathlib.Core.Logic.{◌⊎◌, inl, inr}
use mathlib.Core.List.Memᴰ
use mathlib.Core.List.{List, [], ◌∷◌, map, Memᴰ as In}
use Prim.Native.Nat.{ℕ, ◌+◌, ◌<◌, ◌≤◌}
use native.Mathlib.Omega.{arith}
use lib.ListN.{length}
use Rattle.model.specs.Table.{count}
use Rattle.model.specs.Script.{Step}
use Rattle.model.specs.Step.{is_reached, stepped, collect}
use Rattle.model.specs.Run.{State, subtree}
use Rattle.model.specs.Paths.{Path, ◌▸◌, with_step, any_below, is_up}
use Rattle.model.proofs.BoolLaws.{bool_cases, bool_iff}
use Rattle.model.proofs.Labels.{Label, label_at}
use Rattle.model.proofs.Collect.{collect_all, collect_shift}
use Rattle.model.proofs.Reach.{Reach, reach_is, is_reach, descendants_stepped, reach_across}
use Rattle.model.proofs.All.{all_imp, all_in}
use Rattle.model.specs.Base.{All, nothing, also}
use Rattle.model.proofs.Shift.{shift_injective}
use Rattle.model.proofs.Twin.{World, Item, φ, ones, Twin, Valued, Vals}
use Rattle.model.proofs.TwinLaws.{item_clear, reach_item, vals_two, Alike, one_count_lem, two_count, row_bound, valued_alike, like_of}
use Rattle.model.proofs.TwinLaws.{alike_parent, parent_alike, alike_letter}

module _ (W : World) (news : List Label) (s t : State) (T : Twin W news s t) (r : List Path) (u : Step) (down : is_up u ≡ false)
    (acc : (p : Path) → In p r → W.script.accessed (p ▸ u)) (v : List ℕ) (vs : Vals W r news v) where
  -- what is reached is an item of r with the step, and so not hidden
  one_item : (j : ℕ) → Reach s.plan u v j → Item W.script (with_step u r) (label_at (ones W news) j)
  one_item j k =
      reach_item W.script W.one W.one_fits news r s u v j T.one acc (all_imp (λ i h. h.1) vs) k

  two_clear : (j : ℕ) → Reach t.plan u (map (φ W) v) j → W.two.hidden j → ⊥
  two_clear j k =
      item_clear W.script W.two W.two_fits news (with_step u r) j
      (reach_item W.script W.two W.two_fits news r t u (map (φ W) v) j T.two acc (vals_two W r news vs) k)

  -- carried over, both ways
  to_two : (i j : ℕ) → Alike W s i j → Reach s.plan u v i → Reach t.plan u (map (φ W) v) j
  to_two i j a k =
      reach_across s.plan t.plan (Alike W s) (λ i j k a b. sym a.2 ∙ b.2)
      (alike_parent W news s t T) u v (map (φ W) v) i j
      (λ l h. (φ W l, Memᴰ.map (φ W) h, valued_alike W news s t T r l (all_in vs h))) a (alike_letter W news s t T i j a) k

  to_one : (j i : ℕ) → Alike W s i j → Reach t.plan u (map (φ W) v) j → Reach s.plan u v i
  to_one j i a k =
      reach_across t.plan s.plan (λ j i. Alike W s i j)
      (λ j i k a b. shift_injective W.n W.m i k (a.2 ∙ sym b.2))
      (parent_alike W news s t T) u (map (φ W) v) v j i items a (sym (alike_letter W news s t T i j a)) k
    where
      items : (l : ℕ) → In l (map (φ W) v) → (i : ℕ) × In i v × Alike W s i l
      items l h =
          let (i, k, e) = Memᴰ.of_map (φ W) v h in
          let a : Alike W s i (φ W i) = valued_alike W news s t T r i (all_in vs k) in
          (i, k, (a.0, a.1, e))

  test_same : (j : ℕ) → j < count s.plan → is_reached s.plan u v j ≡ is_reached t.plan u (map (φ W) v) (φ W j)
  test_same j h = bool_iff (is_reached s.plan u v j) (is_reached t.plan u (map (φ W) v) (φ W j)) there back
    where
      there : is_reached s.plan u v j ≡ true → is_reached t.plan u (map (φ W) v) (φ W j) ≡ true
      there e =
          let k : Reach s.plan u v j = reach_is s.plan u v j down e in
          is_reach t.plan u (map (φ W) v) (φ W j) (λ i p e. (T.two.fit.links i p e).0)
          (to_two j (φ W j) (h, item_clear W.script W.one W.one_fits news (with_step u r) j (one_item j k), refl) k)

      back : is_reached t.plan u (map (φ W) v) (φ W j) ≡ true → is_reached s.plan u v j ≡ true
      back e =
          let k : Reach t.plan u (map (φ W) v) (φ W j) = reach_is t.plan u (map (φ W) v) (φ W j) down e in
          let (i, a) = like_of W news s t T (φ W j) (row_bound W news s t T j h) (two_clear (φ W j) k) in
          is_reach s.plan u v j (λ i p e. (T.one.fit.links i p e).0)
          (subst (λ i. Reach s.plan u v i) (shift_injective W.n W.m i j a.2) (to_one (φ W j) i a k))

  test_none : (j : ℕ) → W.n ≤ j → j < W.n + W.m → is_reached t.plan u (map (φ W) v) j ≡ false
  test_none j a b = go (bool_cases (is_reached t.plan u (map (φ W) v) j))
    where
      go : (is_reached t.plan u (map (φ W) v) j ≡ true) ⊎ (is_reached t.plan u (map (φ W) v) j ≡ false) →
          is_reached t.plan u (map (φ W) v) j ≡ false
      go (inl e) = absurd (two_clear j (reach_is t.plan u (map (φ W) v) j down e) (W.between j a b))
      go (inr e) = e

  pub step_alike : map (φ W) (stepped s.plan u v) ≡ stepped t.plan u (map (φ W) v)
  step_alike =
      ap (map (φ W)) (ap (collect (is_reached s.plan u v) 0) (one_count_lem W news s t T)) ∙
      collect_shift (is_reached s.plan u v) (is_reached t.plan u (map (φ W) v)) W.n W.m (length news)
      (λ j h. test_same j (omega (arith, one_count_lem W news s t T))) test_none ∙
      ap (collect (is_reached t.plan u (map (φ W) v)) 0) (sym (two_count W news s t T))

  pub step_vals : Vals W (with_step u r) news (stepped s.plan u v)
  step_vals =
      collect_all (is_reached s.plan u v) 0 (count s.plan)
      (λ j h e. (omega (arith, T.one.fit.size), one_item j (reach_is s.plan u v j down e)))

-- SUBTREES: a row, and what the step 'descendant, any node' reaches from it
module _ (W : World) (news : List Label) (s t : State) (T : Twin W news s t) (r : List Path)
    (acc : (p : Path) → In p r → W.script.accessed (p ▸ any_below)) (i : ℕ) (vs : Valued W r news i) where
  pub subtree_alike : map (φ W) (subtree s.plan i) ≡ subtree t.plan (φ W i)
  subtree_alike =
      ap (λ l. φ W i ∷ l)
      (ap (map (φ W)) (descendants_stepped s.plan i 0 (count s.plan)) ∙
      step_alike W news s t T r any_below refl acc (i ∷ []) (also vs nothing) ∙
      sym (descendants_stepped t.plan (φ W i) 0 (count t.plan)))

  pub subtree_clear : All (λ j. Alike W s j (φ W j)) (subtree s.plan i)
  subtree_clear =
      also (valued_alike W news s t T r i vs)
      (subst (All (λ j. Alike W s j (φ W j))) (sym (descendants_stepped s.plan i 0 (count s.plan)))
      (all_imp (valued_alike W news s t T (with_step any_below r))
      (step_vals W news s t T r any_below refl acc (i ∷ []) (also vs nothing))))
