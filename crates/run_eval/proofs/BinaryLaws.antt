-- A join, a let or an insert after its first operand: what each call asks is there, and each way out is what is left of the record's run.
use mathlib.Core.Path.{◌≡◌, refl, ap, sym, ◌∙◌}
use mathlib.Core.List.{List}
use Prim.Native.Nat.{ℕ}
use native.Mathlib.Omega.{arith}
use Rattle.model.specs.Run.{Out, and_then, run}
use Rattle.script_records.specs.Walk.{inner, end_at, expr_at}
use Rattle.run_query.specs.Values.{value_at}
use Rattle.run_operators.specs.Machine.{Machine, Frame, bound_values, frame, state_in, bound_in, value_in}
use Rattle.run_operators.specs.Evaluating.{BindPre, BindPost, binary_of, BinaryPre, BinaryPost, EvalPre, EvalPost}
use Rattle.run_operators.specs.declared.value.Span.{Span}
use Rattle.run_operators.proofs.YieldLaws.{yields_as, yields_gives, yields_refused, refused_yields, with_env, fine_between, yields_after}
use Rattle.run_operators.proofs.YieldLaws.{first_kept, pair_asks}
use Rattle.run_eval.specs.Rests.{binary_rest, RestPre, RestPost}
use Rattle.run_eval.proofs.ScopeLaws.{bound_inside, bound_back, scope_inside}

module _ {b : List ℕ} {kind left : ℕ} {f : Frame} {s : Machine} (pre : RestPre b kind left f s) where
  pub bind_asks : BindPre kind s.env f.bound f.top s.end
  bind_asks =
      record {
        size = pre.value.spans;
        scope = pre.binder;
        order = pre.value.order;
        small = omega (arith, pre.small, pre.value.short);
      }

  -- THE SECOND OPERAND
  module _ {inside : List Span} (bound : BindPost kind s.env f.bound f.top s.end inside) {m : ℕ}
      (scope : m ≡ inner kind f.bound) where
    pub second_asks : EvalPre b left (frame m f.marks s.end) (with_env inside s)
    second_asks =
        let v = pre.value in
        rw scope
        (record {
          accepted = pre.accepted;
          held = v.held;
          marks = pre.marks;
          scope = scope_inside pre.scope bound s.end pre.binder v.order v.short (omega arith) v.order v.rows;
          room = omega (arith, pre.room, v.short);
          small = omega (arith, pre.small, v.short);
        })

    module _ {s₁ : Machine} (ran : EvalPost b left (frame m f.marks s.end) (with_env inside s) s₁) where
      second : EvalPost b left (frame (inner kind f.bound) f.marks s.end) (with_env inside s) s₁
      second = rw scope at ran

      -- what is left, from its run
      abbrev goes_on : (at : ℕ) → Out → Out
      goes_on at o = and_then o (binary_of kind at (value_in f s))

      runs : (at : ℕ) → binary_rest b kind at left s.place (bound_in f s) (value_in f s) (state_in f s) ≡
          goes_on at (run (expr_at left b s.place) (bound_values s.work (inner kind f.bound) inside) (state_in f s))
      runs at =
          ap (λ (vs : List (List ℕ)). goes_on at (run (expr_at left b s.place) vs (state_in f s))) (sym (bound_inside pre.scope bound))

      pub second_refused : (at : ℕ) → (s₁.progress.number ≡ 0 → ⊥) → RestPost (binary_rest b kind at left) (end_at b s.place) f s s₁
      second_refused at k = refused_yields k (runs at ∙ ap (goes_on at) (yields_refused second k))

      module _ (k : s₁.progress.number ≡ 0) where
        pub combine_asks : BinaryPre f.top s.end s₁
        combine_asks =
            let v = pre.value in
            pair_asks (second.fine k) f.top v.order v.short v.rows (omega (arith, pre.room, v.short))

        pub combine_yields : (at : ℕ) {s' : Machine} → BinaryPost kind at f.top s.end s₁ s' →
            RestPost (binary_rest b kind at left) (end_at b s.place) f s s'
        combine_yields at post =
            let ok = second.fine k in
            yields_after (fine_between s pre.value.order ok) (yields_as refl ok.place (post f.bound f.marks))
            (runs at ∙ ap (goes_on at) (yields_gives second k) ∙
            ap (λ (v : List ℕ). binary_of kind at v (value_at s₁.work s.end s₁.end) (state_in f s₁))
            (sym (first_kept ok f.top pre.value.order)))
            (bound_back pre.scope bound s₁.env ok.scope)
