-- Outcomes of expressions without operands, and what joins, steps, picks and loops make of the operands' outcomes.
use mathlib.Core.Path.{◌≡◌, refl, sym, ◌∙◌, ap, subst, subst₂}
use mathlib.Core.Bool.{Bool, true, false, ◌&&◌, cond}
use mathlib.Core.Logic.{inl, inr}
use mathlib.Core.List.Memᴰ.{head as here}
use mathlib.Core.List.{List, [], ◌∷◌, ◌++◌, map, map-append, Memᴰ as In}
use mathlib.Core.Option.{Option, none, some, none-ne-some}
use Prim.Native.Nat.{ℕ, ◌+◌, ◌<◌}
use native.Mathlib.Omega.{arith}
use lib.Dec.{ltb}
use lib.ListN.{length, get_or, length-map}
use Rattle.model.specs.Base.{nothing, also}
use Rattle.model.specs.Limits.{max_items}
use Rattle.model.specs.Refusal.{items_at}
use Rattle.model.specs.Table.{count}
use Rattle.model.specs.Script.{Step}
use Rattle.model.specs.Step.{relates, is_picked, stepped, picked}
use Rattle.model.specs.Run.{State, Out, refused, gives, join_items, join_for, loop, marked, loose, new_row, with_made}
use Rattle.model.specs.Paths.{Path, start, ◌▸◌, with_step, document_place, is_up, place_of}
use Rattle.model.proofs.Words.{first, made}
use Rattle.model.proofs.Spells.{spelled}
use Rattle.model.proofs.GrowLaws.{count_with_row}
use Rattle.model.proofs.Labels.{Label, label, label_at}
use Rattle.model.proofs.Below.{OnPath}
use Rattle.model.proofs.All.{all_append, all_in, all_filtered}
use Rattle.model.proofs.ListLaws.{filtered_map}
use Rattle.model.proofs.Grows.{Grows, grows_gives, grows_loop}
use Rattle.model.proofs.Shift.{shift_low}
use Rattle.model.proofs.Twin.{World, φ, ones, Twin, Valued, Vals, Full, is_refused, passed, Sim, both, alike, full}
use Rattle.model.proofs.TwinLaws.{label_side, ones_length, count_across, label_last, valued_alike, alike_row}
use Rattle.model.proofs.TwinStep.{step_alike, step_vals}
use Rattle.model.proofs.TwinRow.{new_sim}
use Rattle.model.proofs.TwinBase.{Base, new_fit, new_touched}
use Rattle.model.proofs.SimLaws.{vals_more, sim_gives, sim_more, full_grows}

module _ (W : World) where
  -- DOCUMENT: its root is not hidden, and has the same number in both tables
  pub sim_document : (d : ℕ) → W.script.accessed (start (document_place d)) → (news : List Label) (s t : State) → Twin W news s t →
      Sim W (start (document_place d) ∷ []) news (gives (marked (get_or s.plan.marks d none)) s)
      (gives (marked (get_or t.plan.marks d none)) t)
  unfolding place_of
  sim_document d acc news s t T =
      subst₂
      (λ a b.
      Sim W (start (document_place d) ∷ []) news (gives (marked (get_or a d none)) s) (gives (marked (get_or b d none)) t))
      (sym T.one.marked) (sym T.two.marked) (go (get_or W.script.marks d none) refl)
    where
      go : (o : Option ℕ) → get_or W.script.marks d none ≡ o →
          Sim W (start (document_place d) ∷ []) news (gives (marked o) s) (gives (marked o) t)
      go none e = sim_gives W (start (document_place d) ∷ []) news [] s t T nothing
      go (some i) e =
          subst (λ j. Sim W (start (document_place d) ∷ []) news (gives (i ∷ []) s) (gives (j ∷ []) t))
          (shift_low W.n W.m i (omega (arith, k.0, W.one_count)))
          (sim_gives W (start (document_place d) ∷ []) news (i ∷ []) s t T
          (also (omega (arith, k.0, W.one_count, ones_length W news), inr (start (document_place d), here refl, acc, on)) nothing))
        where
          k : (i < count W.one.plan) × (label_at W.one.labels i ≡ label (first i) [])
          k = W.one_fits.rooted d i e

          on : OnPath W.script.marks (start (document_place d)) (label_at (ones W news) i)
          on =
              subst (λ l. OnPath W.script.marks (start (document_place d)) l)
              (sym (label_side W.script W.one W.one_fits news i k.0 ∙ k.1))
              (record { root = record { row = i; is_first = refl; document = refl; marked = e }; spells = spelled })

  -- CONSTRUCTOR: the row is the script's own
  pub sim_new : (r : List Path) (z : ℕ) (b : Bool) (n : ℕ) (news : List Label) (s t : State) → Twin W news s t →
      Sim W r news (new_row z (loose b n) s) (new_row z (loose b n) t)
  sim_new r z b n news s t T =
      new_sim W news s t T r z (loose b n) own (new_fit W news s t T (loose b n) base)
      (λ p e. absurd (none-ne-some p e)) (new_touched W news s t T (loose b n) base) (λ o. o)
      (λ o. o) (λ x. refl) (λ x. refl)
      (λ N.
      subst (λ i. Sim W r news (gives (count s.plan ∷ []) (with_made s (loose b n))) (gives (i ∷ []) (with_made t (loose b n))))
      (count_across W news s t T) (both (own ∷ []) N
      (also (bound N, inl (ap (λ l. l.root) (label_last W news s t T own))) nothing)))
      (grows_gives (count s.plan ∷ []) (with_made s (loose b n)))
    where
      own : Label
      own = label (made W.script.owner) []

      base : (p : ℕ) → none ≡ some p → Base W news s p
      base p e = absurd (none-ne-some p e)

      bound : Twin W (news ++ (own ∷ [])) (with_made s (loose b n)) (with_made t (loose b n)) →
          count s.plan < length (ones W (news ++ (own ∷ [])))
      bound N = omega (arith, N.one.fit.size, count_with_row s.plan (loose b n))

  -- STEP
  pub sim_step : (r : List Path) (u : Step) → is_up u ≡ false → ((p : Path) → In p r → W.script.accessed (p ▸ u)) → (news : List Label)
      (v : List ℕ) (s t : State) → Twin W news s t → Vals W r news v →
      Sim W (with_step u r) news (gives (stepped s.plan u v) s) (gives (stepped t.plan u (map (φ W) v)) t)
  sim_step r u d acc news v s t T a =
      subst (λ l. Sim W (with_step u r) news (gives (stepped s.plan u v) s) (gives l t))
      (step_alike W news s t T r u d acc v a)
      (sim_gives W (with_step u r) news (stepped s.plan u v) s t T (step_vals W news s t T r u d acc v a))

  -- PICK: kept in one, kept in the other
  pub sim_pick : (r : List Path) (y c : ℕ) (news : List Label) (v : List ℕ) (s t : State) → Twin W news s t → Vals W r news v →
      Sim W r news (gives (picked s.plan y c v) s) (gives (picked t.plan y c (map (φ W) v)) t)
  sim_pick r y c news v s t T a =
      subst (λ l. Sim W r news (gives (picked s.plan y c v) s) (gives l t))
      (filtered_map (φ W) (is_picked s.plan y c) (is_picked t.plan y c) v
      (λ i k.
      ap (λ q. q.is_leaf && relates y c q.tag) (sym (alike_row W news s t T i (φ W i) (valued_alike W news s t T r i (all_in a k))))))
      (sim_gives W r news (picked s.plan y c v) s t T (all_filtered (is_picked s.plan y c) a))

  -- JOIN: as many items in both, so that both are refused, or neither
  sim_limited : (r : List Path) (z : ℕ) (news : List Label) (v w : List ℕ) {o : Out} (o' : List ℕ → Out) →
      Sim W r news o (o' (map (φ W) (v ++ w))) → Sim W r news (cond (ltb max_items (length v + length w)) (refused (items_at z)) o)
      (cond (ltb max_items (length (map (φ W) v) + length (map (φ W) w))) (refused (items_at z)) (o' (map (φ W) v ++ map (φ W) w)))
  sim_limited r z news v w {o} o' h = rw (length-map, length-map, ← map-append (φ W) v w) (go (ltb max_items (length v + length w)))
    where
      go : (b : Bool) → Sim W r news (cond b (refused (items_at z)) o) (cond b (refused (items_at z)) (o' (map (φ W) (v ++ w))))
      go true = alike
      go false = h

  pub sim_join : (r : List Path) (z : ℕ) (news : List Label) (v w : List ℕ) (s t : State) → Twin W news s t → Vals W r news (v ++ w) →
      Sim W r news (join_items z v w s) (join_items z (map (φ W) v) (map (φ W) w) t)
  sim_join r z news v w s t T a = sim_limited r z news v w (λ l. gives l t) (sim_gives W r news (v ++ w) s t T a)

  -- FOR: one item, and the items after it
  sim_for : (r : List Path) (z : ℕ) (news : List Label) (v : List ℕ) (next next' : List ℕ → State → Out) {o o' : Out} → Sim W r news o o' →
      Vals W r news v →
      ((more : List Label) (w : List ℕ) (s t : State) → Twin W (news ++ more) s t → Vals W r (news ++ more) w →
      Sim W r (news ++ more) (next w s) (next' (map (φ W) w) t)) →
      ((w : List ℕ) (s : State) → Grows s (next w s)) →
      Sim W r news (join_for z v o next) (join_for z (map (φ W) v) o' next')
  sim_for r z news v next next' (both {v = w} {s} {t} more T a) k h g =
      sim_more W r news more
      (sim_limited r z (news ++ more) v w (λ l. next' l t) (h more (v ++ w) s t T (all_append (vals_more W r news more k) a)))
  sim_for r z news v next next' alike k h g = alike
  sim_for r z news v next next' (full b is_refused) k h g = full b is_refused
  sim_for r z news v next next' (full b (passed {v = w} {s} l)) k h g = full b (go (ltb max_items (length v + length w)))
    where
      go : (b : Bool) → Full W (cond b (refused (items_at z)) (next (v ++ w) s))
      go true = is_refused
      go false = full_grows W s (next (v ++ w) s) l (g (v ++ w) s)

  -- K is what the loop's body needs of the labels, and keeps with more of them
  pub sim_loop : (K : List Label → Type 0) → ((news more : List Label) → K news → K (news ++ more)) → (q r : List Path) (z : ℕ)
      (f f' : ℕ → State → Out) →
      ((news : List Label) (i : ℕ) (s t : State) → K news → Twin W news s t → Valued W q news i → Sim W r news (f i s) (f' (φ W i) t)) →
      ((i : ℕ) (s : State) → Grows s (f i s)) → (is : List ℕ) (news : List Label) (v : List ℕ) (s t : State) → K news →
      Twin W news s t → Vals W q news is → Vals W r news v →
      Sim W r news (loop z f is v s) (loop z f' (map (φ W) is) (map (φ W) v) t)
  unfolding loop
  sim_loop K keep q r z f f' h g [] news v s t k T nothing b = sim_gives W r news v s t T b
  sim_loop K keep q r z f f' h g (i ∷ is) news v s t k T (also c a) b =
      sim_for r z news v (λ w t. loop z f is w t) (λ w t. loop z f' (map (φ W) is) w t)
      (h news i s t k T c) b
      (λ more w s t U d.
      sim_loop K keep q r z f f' h g is (news ++ more) w s t (keep news more k) U (vals_more W q news more a) d)
      (λ w s. grows_loop z f g is w s)
