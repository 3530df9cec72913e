-- DEMAND 3: free scripts end alike in both orders, on every well-formed plan.
use mathlib.Core.Path.{◌≡◌, refl, sym, ◌∙◌, ap, subst, subst₂}
use mathlib.Core.Bool.{true, false, ◌&&◌, true≢false, false≢true}
use mathlib.Core.Logic.{◌⊎◌, inl, inr}
use mathlib.Core.List.{List, [], map}
use mathlib.Core.Option.{none}
use Prim.Native.Nat.{ℕ, ◌+◌, ◌-◌, ◌<◌}
use native.Mathlib.Omega.{arith}
use lib.ListN.{length, get_or}
use Rattle.model.specs.Limits.{max_rows}
use Rattle.model.specs.Refusal.{Refusal}
use Rattle.model.specs.Table.{Table, count}
use Rattle.model.specs.Script.{Expr}
use Rattle.model.specs.Run.{State, state, Out, refused, gives, run_on}
use Rattle.model.specs.Paths.{Path, paths_of, has_up}
use Rattle.model.specs.Promise.{table_of, answer_of, history_of, ends, new_rows, matched_parent, matched_all, matched_history, PlansEqual}
use Rattle.model.specs.Promise.{FreeCommutes}
use Rattle.model.proofs.TableLaws.{is_well_at}
use Rattle.model.proofs.Labels.{Label}
use Rattle.model.proofs.All.{all_imp}
use Rattle.model.specs.Base.{All}
use Rattle.model.proofs.Shift.{shift, shift_record}
use Rattle.model.proofs.Twin.{World, Touched, Named, RunFrom, φ, Twin, Vals, is_refused, passed, Sim, both, alike, full}
use Rattle.model.proofs.Simulation.{script_sim}
use Rattle.model.proofs.Start.{Labelled, labelled_by}
use Rattle.model.proofs.Apart.{Away, Apart, free_apart}
use Rattle.model.proofs.Alone.{start_twin, script_of, alone_side, alone}
use Rattle.model.proofs.Matching.{parent_low, all_first, all_second, history_first, history_second}
use Rattle.model.proofs.Orders.{Order, order_by, rows_equal}
use Rattle.model.proofs.Beside.{Left, left_count, beside}

-- OUTCOMES of a simulated script: where the first run ends, the second ends too, or has no room
module _ (W : World) (r : List Path) where
  abbrev Ended : Out → List ℕ → State → Type 0
  Ended o v s =
      ((t : State) × (news : List Label) × (o ≡ gives (map (φ W) v) t) × Twin W news s t × Vals W r news v) ⊎
      ((ends o ≡ false) × (0 < W.m) × (max_rows < count s.plan + W.m))

  gives_items : {v w : List ℕ} {s t : State} → gives v s ≡ gives w t → v ≡ w
  gives_items e = cc

  gives_state : {v w : List ℕ} {s t : State} → gives v s ≡ gives w t → s ≡ t
  gives_state e = cc

  refused_gives : {z : Refusal} {v : List ℕ} {s : State} → refused z ≡ gives v s → ⊥
  refused_gives e = true≢false (sym (ap ends e))

  sim_ended : {o o' : Out} → Sim W r [] o o' → (v : List ℕ) (s : State) → o ≡ gives v s → Ended o' v s
  sim_ended (both {t = t} more T a) v s e =
      inl (
        t,
        more,
        ap (λ w. gives (map (φ W) w) t) (gives_items e),
        subst (λ u. Twin W more u t) (gives_state e) T,
        subst (Vals W r more) (gives_items e) a,
      )
  sim_ended alike v s e = absurd (refused_gives e)
  sim_ended (full k is_refused) v s e = absurd (refused_gives e)
  sim_ended (full k (passed l)) v s e = inr (refl, k, subst (λ u. max_rows < count u.plan + W.m) (gives_state e) l)

  sim_refused : {o o' : Out} → Sim W r [] o o' → ends o ≡ false → ends o' ≡ false
  sim_refused (both more T a) e = absurd (true≢false e)
  sim_refused alike e = refl
  sim_refused (full k f) e = refl

-- ALONE: what a script leaves
run_alone : (o : ℕ) (e : Expr) (x : Table) (w : Labelled x) → has_up e ≡ false → (v : List ℕ) (s : State) → run_on x e ≡ gives v s →
    (news : List Label) × RunFrom (script_of o e x.marks) (alone_side x w.labels) news s × All (Touched (script_of o e x.marks)) news
run_alone o e x w u v s h =
    go
    (sim_ended (alone o e x w) (paths_of o e).result
    (script_sim (alone o e x w) e (state x []) (state x []) u (λ p i. i)
    (λ p i. i) (start_twin (alone o e x w))) v s h)
  where
    go : Ended (alone o e x w) (paths_of o e).result (run_on x e) v s →
        (news : List Label) × RunFrom (script_of o e x.marks) (alone_side x w.labels) news s ×
        All (Touched (script_of o e x.marks)) news
    go (inl (t, news, k, T, a)) = (news, T.one, T.touched)
    go (inr (k, l, m)) = absurd (omega arith)

abbrev left_by : (o q : ℕ) → (o ≡ q → ⊥) → (e f : Expr) → Away (paths_of o e) (paths_of q f) → (x : Table) (w : Labelled x) →
    has_up e ≡ false →
    (v : List ℕ) (s : State) → run_on x e ≡ gives v s → Left
left_by o q n e f a x w u v s h =
    record {
      plan = x;
      well = w;
      owner = o;
      other = q;
      distinct = n;
      ran = e;
      next = f;
      away = a;
      news = (run_alone o e x w u v s h).0;
      left = s;
      reached = (run_alone o e x w u v s h).1;
      touched = (run_alone o e x w u v s h).2;
    }

beside_sim : (L : Left) → has_up L.next ≡ false →
    Sim (beside L) (paths_of L.other L.next).result [] (run_on L.plan L.next) (run_on L.left.plan L.next)
beside_sim L u =
    script_sim (beside L) L.next (state L.plan []) (state L.left.plan []) u
    (λ p i. i)
    (λ p i. i) (start_twin (beside L))

-- THE ORDERS, by their four outcomes: one first, two first, two after one, one after two
abbrev pub OrdersBy : Table → (one two oneTwo twoOne : Out) → Type 0
OrdersBy x a b c d =
    (new_rows (table_of b) d ≡ new_rows x a) × (new_rows (table_of a) c ≡ new_rows x b) ×
    (answer_of d ≡ matched_all (count x) (new_rows x a) (new_rows x b) (answer_of a)) ×
    (answer_of b ≡ matched_all (count x) (new_rows x a) (new_rows x b) (answer_of c)) ×
    (history_of d ≡ matched_history (count x) (new_rows x a) (new_rows x b) (history_of a)) ×
    (history_of b ≡ matched_history (count x) (new_rows x a) (new_rows x b) (history_of c)) ×
    PlansEqual (count x) (new_rows x a) (new_rows x b) (table_of c) (table_of d)

module _ (e f : Expr) (x : Table) (w : Labelled x) (A : Apart e f) where
  -- BOTH END ALONE
  module _ (v₁ v₂ : List ℕ) (s₁ s₂ : State) (h₁ : run_on x e ≡ gives v₁ s₁) (h₂ : run_on x f ≡ gives v₂ s₂) where
    abbrev one : Left
    one = left_by 1 2 (λ q. omega arith) e f A.first_away x w A.first_down v₁ s₁ h₁

    abbrev two : Left
    two = left_by 2 1 (λ q. omega arith) f e A.second_away x w A.second_down v₂ s₂ h₂

    ended₁₂ : Ended (beside one) (paths_of 2 f).result (run_on s₁.plan f) v₂ s₂
    ended₁₂ = sim_ended (beside one) (paths_of 2 f).result (beside_sim one A.second_down) v₂ s₂ h₂

    ended₂₁ : Ended (beside two) (paths_of 1 e).result (run_on s₂.plan e) v₁ s₁
    ended₂₁ = sim_ended (beside two) (paths_of 1 e).result (beside_sim two A.first_down) v₁ s₁ h₁

    -- and in both orders
    module _ (n₁ n₂ : List Label) (t₁₂ t₂₁ : State) (T₁₂ : Twin (beside one) n₂ s₂ t₁₂) (T₂₁ : Twin (beside two) n₁ s₁ t₂₁)
        (a₁ : Vals (beside two) (paths_of 1 e).result n₁ v₁) where
      o₁₂ : Order x s₁.plan s₂.plan t₁₂.plan
      o₁₂ = order_by one n₂ s₂ t₁₂ T₁₂

      o₂₁ : Order x s₂.plan s₁.plan t₂₁.plan
      o₂₁ = order_by two n₁ s₁ t₂₁ T₂₁

      -- how many rows each script makes
      abbrev a : ℕ
      a = count s₁.plan - count x

      abbrev b : ℕ
      b = count s₂.plan - count x

      made₁ : length one.news ≡ a
      made₁ = omega (arith, left_count one)

      made₂ : length two.news ≡ b
      made₂ = omega (arith, left_count two)

      rows₁ : count x + a ≡ count s₁.plan
      rows₁ = omega (arith, left_count one)

      answer₁ : map (φ (beside two)) v₁ ≡ matched_all (count x) a b v₁
      answer₁ =
          ap (λ m. map (shift (count x) m) v₁) made₂ ∙
          all_first (count x) a b
          (all_imp (λ i k. omega (arith, k.0, T₂₁.one.fit.size, rows₁)) a₁)

      answer₂ : v₂ ≡ matched_all (count x) a b (map (φ (beside one)) v₂)
      answer₂ = all_second (count x) a b v₂ ∙ ap (λ m. matched_all (count x) a b (map (shift (count x) m) v₂)) (sym made₁)

      history₁ : t₂₁.history ≡ matched_history (count x) a b s₁.history
      history₁ =
          T₂₁.histories ∙ ap (λ m. map (shift_record (count x) m) s₁.history) made₂ ∙
          history_first (count x) a b (subst (λ c. All (Named c) s₁.history) (sym rows₁) T₂₁.one.names)

      history₂ : s₂.history ≡ matched_history (count x) a b t₁₂.history
      history₂ =
          history_second (count x) a b s₂.history ∙
          ap (matched_history (count x) a b)
          (ap (λ m. map (shift_record (count x) m) s₂.history) (sym made₁) ∙ sym T₁₂.histories)

      marks : (d : ℕ) → get_or t₂₁.plan.marks d none ≡ matched_parent (count x) a b (get_or t₁₂.plan.marks d none)
      marks d =
          ap (λ ms. get_or ms d none) T₂₁.two.marked ∙
          sym (parent_low (count x) a b (get_or x.marks d none) (λ p k. (w.rooted d p k).0)) ∙
          ap (λ ms. matched_parent (count x) a b (get_or ms d none)) (sym T₁₂.two.marked)

      plans : PlansEqual (count x) a b t₁₂.plan t₂₁.plan
      plans = (
        omega (arith, o₁₂.total, o₁₂.grown, o₂₁.total, o₂₁.grown),
        rows_equal x s₁.plan s₂.plan t₁₂.plan t₂₁.plan o₁₂ o₂₁
            (λ i p k. (w.started.fit.links i p k).0)
            (λ i p k. (T₂₁.one.fit.links i p k).0),
        (λ d k. marks d),
      )

      orders_by : OrdersBy x (gives v₁ s₁) (gives v₂ s₂) (gives (map (φ (beside one)) v₂) t₁₂) (gives (map (φ (beside two)) v₁) t₂₁)
      orders_by =
          (omega (arith, o₂₁.total), omega (arith, o₁₂.total), answer₁, answer₂, history₁, history₂, plans)

    -- THE OUTCOME where both end alone
    both_end : ((ends (run_on s₁.plan f)) ≡ ends (run_on s₂.plan e)) ×
        (ends (run_on s₁.plan f) ≡ true → OrdersBy x (gives v₁ s₁) (gives v₂ s₂) (run_on s₁.plan f) (run_on s₂.plan e))
    both_end = go ended₁₂ ended₂₁
      where
        go : Ended (beside one) (paths_of 2 f).result (run_on s₁.plan f) v₂ s₂ →
            Ended (beside two) (paths_of 1 e).result (run_on s₂.plan e) v₁ s₁ →
            ((ends (run_on s₁.plan f)) ≡ ends (run_on s₂.plan e)) ×
            (ends (run_on s₁.plan f) ≡ true → OrdersBy x (gives v₁ s₁) (gives v₂ s₂) (run_on s₁.plan f) (run_on s₂.plan e))
        go (inl (t, n, k, T, a)) (inl (q, m, l, U, b)) = (
          ap ends k ∙ sym (ap ends l),
          λ z.
              subst₂ (OrdersBy x (gives v₁ s₁) (gives v₂ s₂)) (sym k) (sym l) (orders_by m n t q T U b),
        )
        go (inl (t, n, k, T, a)) (inr (l, m, z)) =
            absurd (omega (arith, left_count two, (order_by one n s₂ t T).total, T.two.room))
        go (inr (k, m, z)) (inl (q, n, l, U, b)) =
            absurd (omega (arith, left_count one, (order_by two n s₁ q U).total, U.two.room))
        go (inr (k, m, z)) (inr (l, m', z')) =
            (k ∙ sym l, λ y. absurd (true≢false (sym y ∙ k)))

  -- ONE OF THEM STOPS ALONE, and so in the other order
  refused_one : (z : Refusal) → run_on x e ≡ refused z → (o : Out) → run_on x f ≡ o → (ends o && ends (run_on (table_of o) e)) ≡ false
  refused_one z h (refused y) k = refl
  refused_one z h (gives v s) k =
      sim_refused (beside L) (paths_of 1 e).result (beside_sim L A.first_down) (ap ends h)
    where
      L : Left
      L = left_by 2 1 (λ q. omega arith) f e A.second_away x w A.second_down v s k

  refused_two : (z : Refusal) → run_on x f ≡ refused z → (v : List ℕ) (s : State) → run_on x e ≡ gives v s → ends (run_on s.plan f) ≡ false
  refused_two z h v s k =
      sim_refused (beside L) (paths_of 2 f).result (beside_sim L A.second_down) (ap ends h)
    where
      L : Left
      L = left_by 1 2 (λ q. omega arith) e f A.first_away x w A.first_down v s k

  -- by the outcomes of both scripts alone
  orders : (o q : Out) → run_on x e ≡ o → run_on x f ≡ q →
      ((ends o && ends (run_on (table_of o) f)) ≡ (ends q && ends (run_on (table_of q) e))) ×
      ((ends o && ends (run_on (table_of o) f)) ≡ true → OrdersBy x o q (run_on (table_of o) f) (run_on (table_of q) e))
  orders (refused z) q h k = (sym (refused_one z h q k), λ y. absurd (false≢true y))
  orders (gives v s) (refused z) h k =
      (refused_two z k v s h, λ y. absurd (true≢false (sym y ∙ refused_two z k v s h)))
  orders (gives v s) (gives v' s') h k = both_end v v' s s' h k

pub free_commutes : FreeCommutes
free_commutes e f x h k = orders e f x (labelled_by x (is_well_at x k)) (free_apart e f h) (run_on x e) (run_on x f) refl refl
