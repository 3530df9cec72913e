-- A for and its remaining items: what each call asks is there, and each way out is the loop of the model.
use mathlib.Core.Path.{◌≡◌, refl, ap, sym, subst, ◌∙◌}
use mathlib.Core.Bool.{Bool, true, false, cond}
use mathlib.Core.List.{List, [], ◌∷◌, ◌++◌}
use Prim.Native.Nat.{ℕ, ◌+◌, ◌-◌, ◌/◌, ◌≤◌, ◌<◌}
use native.Mathlib.Omega.{arith}
use lib.Dec.{ltb}
use lib.ListN.{length, get_or, take}
use Rattle.model.specs.Base.{nothing}
use Rattle.model.specs.Limits.{max_items}
use Rattle.model.specs.Refusal.{items_at}
use Rattle.model.specs.Script.{for_kind}
use Rattle.model.specs.Run.{State, Out, refused, gives, and_then, join_items, join_for, loop, run, AreRows}
use Rattle.model.proofs.ValueLaws.{are_rows_more}
use Rattle.model.proofs.All.{all_front, all_back}
use Rattle.script_records.specs.Walk.{inner, end_at, expr_at}
use Rattle.run_query.specs.Values.{value_at}
use Rattle.run_operators.specs.Machine.{Evaluated, Machine, Frame, bound_values, frame, evaluated, came_to, state_in, bound_in, value_in}
use Rattle.run_operators.specs.Evaluating.{InScope, BindPre, BindPost, limited_by, moved_to, BinaryPre, BinaryPost, EvalPre, EvalPost}
use Rattle.run_eval.specs.Loops.{Loop, loop_of, items_in, body_run, EachPre, EachPost}
use Rattle.run_eval.specs.Rests.{for_rest, RestPre, RestPost}
use Rattle.run_operators.specs.declared.value.Span.{Span}
use Rattle.run_query.proofs.ValueLaws.{value_none}
use Rattle.run_operators.proofs.ValueLaws.{value_same, value_one, value_append}
use Rattle.run_operators.proofs.YieldLaws.{yields_as, yields_gives, yields_refused, refused_yields, moved_yields}
use Rattle.run_operators.proofs.YieldLaws.{fine_between, yields_after, value_yields, first_kept, pair_asks, limited_yields, placed_at}
use Rattle.run_operators.proofs.YieldLaws.{with_env, yields_from}
use Rattle.run_eval.proofs.ScopeLaws.{marks_more, bound_kept, scope_kept, bound_inside, bound_back, scope_inside}

-- THE LOOP of the model: no item, one, and one part after another
loop_none : (z : ℕ) (f : ℕ → State → Out) (v : List ℕ) (s : State) → loop z f [] v s ≡ gives v s
unfolding loop
loop_none z f v s = refl

loop_one : (z : ℕ) (f : ℕ → State → Out) (i : ℕ) (v : List ℕ) (s : State) →
    loop z f (i ∷ []) v s ≡ and_then (f i s) (λ (w : List ℕ) (t : State). join_items z v w t)
unfolding loop
loop_one z f i v s = go (f i s)
  where
    go : (o : Out) → join_for z v o (λ (w : List ℕ) (t : State). loop z f [] w t) ≡
        and_then o (λ (w : List ℕ) (t : State). join_items z v w t)
    go (refused x) = refl
    go (gives w t) = refl

loop_split : (z : ℕ) (f : ℕ → State → Out) (is js v : List ℕ) (s : State) →
    loop z f (is ++ js) v s ≡ and_then (loop z f is v s) (λ (w : List ℕ) (t : State). loop z f js w t)
unfolding loop
loop_split z f [] js v s = refl
loop_split z f (i ∷ is) js v s = go (loop_split z f is js) (f i s)
  where
    more : (t : Bool) (w : List ℕ) (u : State) →
        loop z f (is ++ js) w u ≡ and_then (loop z f is w u) (λ (w : List ℕ) (t : State). loop z f js w t) →
        cond t (refused (items_at z)) (loop z f (is ++ js) w u) ≡
        and_then (cond t (refused (items_at z)) (loop z f is w u)) (λ (w : List ℕ) (t : State). loop z f js w t)
    more true w u h = refl
    more false w u h = h

    go : ((w : List ℕ) (u : State) → loop z f (is ++ js) w u ≡ and_then (loop z f is w u) (λ (w : List ℕ) (t : State). loop z f js w t)) →
        (o : Out) → join_for z v o (λ (w : List ℕ) (t : State). loop z f (is ++ js) w t) ≡
        and_then (join_for z v o (λ (w : List ℕ) (t : State). loop z f is w t)) (λ (w : List ℕ) (t : State). loop z f js w t)
    go h (refused x) = refl
    go h (gives w t) = more (ltb max_items (length v + length w)) (v ++ w) t (h (v ++ w) t)

-- A FOR after its first operand
module _ {b : List ℕ} {left : ℕ} {f : Frame} {s : Machine} (pre : RestPre b for_kind left f s) where
  -- no items
  pub for_none : (at : ℕ) → s.end ≡ f.top → {r : Evaluated} → r ≡ moved_to (end_at b s.place) (evaluated s) →
      RestPost (for_rest b at left) (end_at b s.place) f s (came_to r s)
  for_none at e eq =
      let v : value_in f s ≡ [] = ap (value_at s.work f.top) e ∙ value_none s.work f.top in
      let g = body_run b s.place left (bound_in f s) in
      yields_as
      (ap (λ (u : List ℕ). gives u (state_in f s)) v ∙
      sym (ap (λ (u : List ℕ). loop at g u [] (state_in f s)) v ∙ loop_none at g [] (state_in f s)))
      refl (moved_yields (end_at b s.place) (value_yields pre.value) pre.value.held.fine eq)

  -- its items stand from top on, its results behind them
  pub each_asks : (at : ℕ) → (s.end ≡ f.top → ⊥) →
      EachPre b left (loop_of at f.top s.end) (frame f.bound f.marks s.end) s
  unfolding inner
  each_asks at some =
      let v = pre.value in
      record {
        accepted = pre.accepted;
        held = v.held;
        marks = pre.marks;
        scope = scope_kept pre.scope s.work s.env refl refl v.spans v.order (omega arith);
        binder = pre.binder refl;
        some = omega (arith, v.order, some);
        items = omega arith;
        many = v.short;
        rows = v.rows;
        order = omega arith;
        short = omega arith;
        sofar = subst (AreRows s.progress.count) (sym (value_none s.work s.end)) nothing;
        room = omega (arith, pre.room, v.short);
        small = omega (arith, pre.small, v.short);
      }

  module _ (at : ℕ) {s₁ : Machine}
      (ran : EachPost b left (loop_of at f.top s.end) (frame f.bound f.marks s.end) s s₁) where
    abbrev items : List ℕ → Out
    items v = loop at (body_run b s.place left (bound_in f s)) (value_in f s) v (state_in f s)

    begins : items [] ≡ items (value_at s.work s.end s.end)
    begins = ap items (sym (value_none s.work s.end))

    pub items_refused : (s₁.progress.number ≡ 0 → ⊥) → RestPost (for_rest b at left) (end_at b s.place) f s s₁
    items_refused k = refused_yields k (begins ∙ yields_refused ran k)

    module _ (k : s₁.progress.number ≡ 0) where
      pub close_asks : BinaryPre f.top s.end s₁
      close_asks =
          let v = pre.value in
          pair_asks (ran.fine k) f.top v.order v.short v.rows (omega (arith, pre.room, v.short))

      pub close_yields : {s' : Machine} → BinaryPost for_kind at f.top s.end s₁ s' →
          RestPost (for_rest b at left) (end_at b s.place) f s s'
      close_yields post =
          let ok = ran.fine k in
          yields_after (fine_between s pre.value.order ok) (yields_as refl ok.place (post f.bound f.marks))
          (begins ∙ yields_gives ran k) ok.scope

-- THE REMAINING ITEMS
module _ {b : List ℕ} {left : ℕ} {l : Loop} {f : Frame} {s : Machine} (pre : EachPre b left l f s) where
  abbrev body : ℕ → State → Out
  body = body_run b s.place left (bound_in f s)

  pub item_asks : BindPre for_kind s.env f.bound l.from l.to
  item_asks =
      record {
        size = pre.scope.size;
        scope = λ t. pre.binder;
        order = omega (arith, pre.some);
        small = omega (arith, pre.small, pre.items);
      }

  inner_for : inner for_kind f.bound ≡ f.bound + 1
  unfolding inner
  inner_for = refl

  -- one item
  module _ (single : l.to - l.from ≡ 1) {inside : List Span}
      (bound : BindPost for_kind s.env f.bound l.from l.to inside) where
    abbrev one : Frame
    one = frame (f.bound + 1) f.marks s.end

    pub body_asks : EvalPre b left one (with_env inside s)
    body_asks =
        record {
          accepted = pre.accepted;
          held = pre.held;
          marks = pre.marks;
          scope = subst (λ (m : ℕ). InScope s.work m inside s.end s.progress.count) inner_for
              (scope_inside pre.scope bound s.end (λ t. pre.binder) (omega (arith, pre.some)) pre.many
              (omega (arith, pre.items, pre.order)) pre.order pre.rows);
          room = omega (arith, pre.room, pre.short);
          small = omega (arith, pre.small, pre.short);
        }

    item : items_in l s ≡ get_or s.work l.from 0 ∷ []
    item = value_one s.work l.from l.to single (omega (arith, pre.some, pre.items, pre.room))

    values : bound_in one (with_env inside s) ≡ bound_in f s ++ ((get_or s.work l.from 0 ∷ []) ∷ [])
    values =
        ap (λ (m : ℕ). bound_values s.work m inside) (sym inner_for) ∙ bound_inside pre.scope bound ∙
        ap (λ (v : List ℕ). bound_in f s ++ (v ∷ [])) item

    module _ {s₁ : Machine} (ran : EvalPost b left one (with_env inside s) s₁) where
      abbrev joins : Out → Out
      joins o = and_then o (λ (u : List ℕ) (t : State). join_items l.for (value_in f s) u t)

      item_is : loop l.for body (items_in l s) (value_in f s) (state_in f s) ≡
          joins (run (expr_at left b s.place) (bound_in one (with_env inside s)) (state_in f s))
      item_is =
          ap (λ (is : List ℕ). loop l.for body is (value_in f s) (state_in f s)) item ∙
          loop_one l.for body (get_or s.work l.from 0) (value_in f s) (state_in f s) ∙
          ap (λ (vs : List (List ℕ)). joins (run (expr_at left b s.place) vs (state_in f s))) (sym values)

      pub item_refused : (s₁.progress.number ≡ 0 → ⊥) → EachPost b left l f s s₁
      item_refused k = refused_yields k (item_is ∙ ap joins (yields_refused ran k))

      module _ (k : s₁.progress.number ≡ 0) where
        pub limit_asks : f.top ≤ s₁.end
        limit_asks = omega (arith, pre.order, (ran.fine k).order)

        back : take f.bound s₁.env ≡ take f.bound s.env
        back =
            bound_back pre.scope bound s₁.env
            (ap (λ (m : ℕ). take m s₁.env) inner_for ∙ (ran.fine k).scope ∙ ap (λ (m : ℕ). take m inside) (sym inner_for))

        pub item_yields : {r : Evaluated} → r ≡ limited_by (evaluated s₁) f.top l.for →
            EachPost b left l f s (came_to r s₁)
        item_yields eq =
            let ok = ran.fine k in
            let pair = pair_asks ok f.top pre.order pre.short pre.sofar (omega (arith, pre.room, pre.short)) in
            yields_after
            (fine_between s pre.order ok)
            (yields_as refl ok.place (limited_yields pair (omega (arith, ok.short, pre.short, pre.room, ok.size)) l.for eq))
            (item_is ∙ ap joins (yields_gives ran k) ∙
            ap (λ (v : List ℕ). join_items l.for v (value_at s₁.work s.end s₁.end) (state_in f s₁))
            (sym (first_kept ok f.top pre.order))) back

  -- those up to a place, and then the rest
  module _ (half : ℕ) (low : l.from < half) (high : half ≤ l.to) where
    parts : value_at s.work l.from half ++ value_at s.work half l.to ≡ items_in l s
    parts = value_append s.work l.from half l.to (omega (arith, low)) high

    pub half_asks : EachPre b left (loop_of l.for l.from half) f s
    half_asks =
        record {
          accepted = pre.accepted;
          held = pre.held;
          marks = pre.marks;
          scope = pre.scope;
          binder = pre.binder;
          some = low;
          items = omega (arith, high, pre.items);
          many = omega (arith, high, pre.many);
          rows = all_front (value_at s.work l.from half) (value_at s.work half l.to)
              (subst (AreRows s.progress.count) (sym parts) pre.rows);
          order = pre.order;
          short = pre.short;
          sofar = pre.sofar;
          room = pre.room;
          small = pre.small;
        }

    module _ {s₁ : Machine} (ran : EachPost b left (loop_of l.for l.from half) f s s₁) where
      abbrev goes_on : Out → Out
      goes_on o = and_then o (λ (v : List ℕ) (t : State). loop l.for body (value_at s.work half l.to) v t)

      halves : loop l.for body (items_in l s) (value_in f s) (state_in f s) ≡
          goes_on (loop l.for body (value_at s.work l.from half) (value_in f s) (state_in f s))
      halves =
          ap (λ (is : List ℕ). loop l.for body is (value_in f s) (state_in f s)) (sym parts) ∙
          loop_split l.for body (value_at s.work l.from half) (value_at s.work half l.to) (value_in f s) (state_in f s)

      pub half_refused : (s₁.progress.number ≡ 0 → ⊥) → EachPost b left l f s s₁
      half_refused k = refused_yields k (halves ∙ ap goes_on (yields_refused ran k))

      -- no more: these are all
      pub half_all : half ≡ l.to → EachPost b left l f s s₁
      half_all e = subst (λ (j : ℕ). EachPost b left (loop_of l.for l.from j) f s s₁) e ran

      module _ (k : s₁.progress.number ≡ 0) (more : half < l.to) where
        items_kept : value_at s₁.work half l.to ≡ value_at s.work half l.to
        items_kept = value_same s.work s₁.work f.top half l.to (ran.fine k).below pre.items

        pub rest_asks : EachPre b left (loop_of l.for half l.to) f (placed_at s.place s₁.end s₁)
        rest_asks =
            let ok = ran.fine k in
            record {
              accepted = pre.accepted;
              held = ok.after.held;
              marks = marks_more pre.marks ok.after.rows;
              scope = scope_kept pre.scope s₁.work s₁.env ok.below ok.scope ok.spans (omega arith) ok.after.rows;
              binder = pre.binder;
              some = more;
              items = pre.items;
              many = omega (arith, low, pre.many);
              rows = subst (AreRows s₁.progress.count) (sym items_kept)
                  (are_rows_more ok.after.rows
                  (all_back (value_at s.work l.from half) (value_at s.work half l.to)
                  (subst (AreRows s.progress.count) (sym parts) pre.rows)));
              order = ok.order;
              short = ok.short;
              sofar = ok.rows;
              room = omega (arith, pre.room, ok.size);
              small = pre.small;
            }

        pub rest_yields : {s' : Machine} →
            EachPost b left (loop_of l.for half l.to) f (placed_at s.place s₁.end s₁) s' → EachPost b left l f s s'
        rest_yields post =
            let ok = ran.fine k in
            yields_after (fine_between s (omega arith) ok) (yields_from ok.after.held post)
            (halves ∙ ap goes_on (yields_gives ran k) ∙
            ap (λ (is : List ℕ). loop l.for body is (value_in f s₁) (state_in f s₁)) (sym items_kept) ∙
            ap (λ (vs : List (List ℕ)). loop l.for (body_run b s.place left vs) (value_at s₁.work half l.to) (value_in f s₁)
            (state_in f s₁))
            (sym (bound_kept pre.scope s₁.work s₁.env ok.below ok.scope)))
            ok.scope

  -- the first
  pub one_asks : EachPre b left (loop_of l.for l.from (l.from + 1)) f s
  one_asks = half_asks (l.from + 1) (omega arith) (omega (arith, pre.some))

  pub one_refused : {s₁ : Machine} → EachPost b left (loop_of l.for l.from (l.from + 1)) f s s₁ → (s₁.progress.number ≡ 0 → ⊥) →
      EachPost b left l f s s₁
  one_refused = half_refused (l.from + 1) (omega arith) (omega (arith, pre.some))

  pub one_all : {s₁ : Machine} → EachPost b left (loop_of l.for l.from (l.from + 1)) f s s₁ → l.from + 1 ≡ l.to →
      EachPost b left l f s s₁
  one_all = half_all (l.from + 1) (omega arith) (omega (arith, pre.some))

-- THE FIRST of them
module _ {b : List ℕ} {left : ℕ} {l : Loop} {f : Frame} {s : Machine} (pre : EachPre b left l f s) {inside : List Span}
    (bound : BindPost for_kind s.env f.bound l.from (l.from + 1) inside) {s₁ : Machine}
    (ran : EvalPost b left (frame (f.bound + 1) f.marks s.end) (with_env inside s) s₁) where
  pub begin_refused : (s₁.progress.number ≡ 0 → ⊥) → EachPost b left l f s s₁
  begin_refused k = one_refused pre (item_refused (one_asks pre) (omega arith) bound ran k) k

  pub begin_yields : s₁.progress.number ≡ 0 → {r : Evaluated} → r ≡ limited_by (evaluated s₁) f.top l.for →
      EachPost b left (loop_of l.for l.from (l.from + 1)) f s (came_to r s₁)
  begin_yields = item_yields (one_asks pre) (omega arith) bound ran

-- AFTER IT, with more to come: those near it, up to half of the way, and then the others
module _ {b : List ℕ} {left : ℕ} {l : Loop} {f : Frame} {s : Machine} (pre : EachPre b left l f s) {s₁ : Machine}
    (ran : EachPost b left (loop_of l.for l.from (l.from + 1)) f s s₁) (k : s₁.progress.number ≡ 0)
    (more : l.from + 1 ≡ l.to → ⊥) where
  abbrev half : ℕ
  half = l.from + 1 + (l.to - l.from) / 2

  others : EachPre b left (loop_of l.for (l.from + 1) l.to) f (placed_at s.place s₁.end s₁)
  others = rest_asks pre (l.from + 1) (omega arith) (omega (arith, pre.some)) ran k (omega (arith, pre.some, more))

  others_yield : {s' : Machine} → EachPost b left (loop_of l.for (l.from + 1) l.to) f (placed_at s.place s₁.end s₁) s' →
      EachPost b left l f s s'
  others_yield = rest_yields pre (l.from + 1) (omega arith) (omega (arith, pre.some)) ran k (omega (arith, pre.some, more))

  low : l.from + 1 < half
  low = omega (arith, pre.some, more)

  high : half ≤ l.to
  high = omega (arith, pre.some, more)

  pub near_asks : EachPre b left (loop_of l.for (l.from + 1) (l.from + 1 + (l.to - l.from) / 2)) f (placed_at s.place s₁.end s₁)
  near_asks = half_asks others half low high

  module _ {s₂ : Machine} (near : EachPost b left (loop_of l.for (l.from + 1) (l.from + 1 + (l.to - l.from) / 2)) f
      (placed_at s.place s₁.end s₁) s₂) where
    pub near_refused : (s₂.progress.number ≡ 0 → ⊥) → EachPost b left l f s s₂
    near_refused z = others_yield (half_refused others half low high near z)

    pub near_all : l.from + 1 + (l.to - l.from) / 2 ≡ l.to → EachPost b left l f s s₂
    near_all e = others_yield (half_all others half low high near e)

    module _ (z : s₂.progress.number ≡ 0) (far : l.from + 1 + (l.to - l.from) / 2 ≡ l.to → ⊥) where
      left_over : half < l.to
      left_over = omega (arith, high, far)

      pub far_asks : EachPre b left (loop_of l.for (l.from + 1 + (l.to - l.from) / 2) l.to) f (placed_at s.place s₂.end s₂)
      far_asks = rest_asks others half low high near z left_over

      pub far_yields : {s' : Machine} →
          EachPost b left (loop_of l.for (l.from + 1 + (l.to - l.from) / 2) l.to) f (placed_at s.place s₂.end s₂) s' →
          EachPost b left l f s s'
      far_yields post = others_yield (rest_yields others half low high near z left_over post)
