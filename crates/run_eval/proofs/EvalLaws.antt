-- An expression: what each call asks is there, and what is left after its first operand yields the run of the expression at the place.
use mathlib.Core.Path.{◌≡◌, refl, ap, sym, subst, ◌∙◌}
use mathlib.Core.List.{List}
use Prim.Native.Nat.{ℕ, ◌+◌, ◌-◌, ◌<◌}
use native.Mathlib.Omega.{arith}
use lib.ListN.{get_or}
use Rattle.model.specs.Script.{if_kind, body_size, arity, is_binder}
use Rattle.model.specs.Run.{Out, and_then, run}
use Rattle.script_records.specs.Walk.{inner, end_at, first_at, second_at, expr_at}
use Rattle.script.specs.Accepted.{Accepted, RecordFits}
use Rattle.script.proofs.AcceptedLaws.{accepted_record, accepted_at}
use Rattle.script.proofs.FieldLaws.{step_axis, step_test, pick_relation}
use Rattle.run_operators.specs.Machine.{Machine, Frame, state_in, bound_in, value_in}
use Rattle.run_operators.specs.Evaluating.{Fine, Yields, ValuePre, OperatorPre, OperatorPost, UnaryPost, EvalPre, EvalPost}
use Rattle.run_operators.specs.declared.record.Operator.{Operator}
use Rattle.run_operators.proofs.YieldLaws.{yields_as, yields_gives, yields_refused, refused_yields, fine_between, yields_after, value_asks}
use Rattle.run_operators.proofs.YieldLaws.{placed_at, yields_from}
use Rattle.run_eval.specs.Rests.{Rest, RestPre, RestPost}
use Rattle.run_eval.proofs.OperandLaws.{records_at, First, Two, Three, one_operand, opens}
use Rattle.run_eval.proofs.ScopeLaws.{marks_more, bound_kept, scope_kept}

module _ {b : List ℕ} {left : ℕ} {f : Frame} {s : Machine} (pre : EvalPre b left f s) where
  abbrev at : ℕ
  at = s.place

  fits : RecordFits b s.place left f.bound
  fits = accepted_record pre.accepted

  pub deep : 0 < left
  deep = fits.depth

  -- what its operator is read from
  pub operator_asks : {q : ℕ} → q ≡ arity (get_or b s.place 0) → q ≡ 1 → OperatorPre b s.place
  operator_asks count z =
      record {
        whole = fits.whole;
        unary = sym count ∙ z;
        axis = step_axis fits;
        test = step_test fits;
        relation = pick_relation fits;
      }

  -- its operands start behind a body of so many bytes
  module _ {size : ℕ} (body : size ≡ body_size (get_or b s.place 0)) where
    abbrev start : ℕ
    start = s.place + (1 + size)

    first_at_lem : start ≡ first_at b at
    first_at_lem = ap (λ (j : ℕ). at + (1 + j)) body

    -- THE FIRST OPERAND
    module _ {q : ℕ} (count : q ≡ arity (get_or b s.place 0)) (some : q ≡ 0 → ⊥) where
      pub first_asks : EvalPre b (left - 1) f (placed_at start s.end s)
      first_asks =
          record {
            accepted = accepted_at first_at_lem (opens pre.accepted count some).first.accepted;
            held = pre.held;
            marks = pre.marks;
            scope = pre.scope;
            room = omega (arith, pre.room, deep);
            small = omega (arith, pre.small, deep);
          }

      pub first_fewer : records_at (left - 1) b start < records_at left b s.place
      first_fewer = omega (arith, (opens pre.accepted count some).first.fewer, ap (records_at (left - 1) b) first_at_lem)

    module _ {s₁ : Machine} (ran : EvalPost b (left - 1) f (placed_at start s.end s) s₁) where
      first : Yields (run (expr_at (left - 1) b (first_at b at)) (bound_in f s) (state_in f s)) (second_at b at) f s s₁
      first = yields_from pre.held (subst (λ (i : ℕ). EvalPost b (left - 1) f (placed_at i s.end s) s₁) first_at_lem ran)

      -- refused in it
      pub first_refused : {q : ℕ} → q ≡ arity (get_or b s.place 0) → (q ≡ 0 → ⊥) → (s₁.progress.number ≡ 0 → ⊥) →
          EvalPost b left f s s₁
      first_refused count some k =
          let o = opens pre.accepted count some in
          refused_yields k
          (o.first.runs (bound_in f s) (state_in f s) ∙
          ap (λ (q : Out). and_then q (o.rest (second_at b at) (bound_in f s))) (yields_refused first k))

      -- WHAT IT LEAVES
      module _ (k : s₁.progress.number ≡ 0) where
        ok : Fine (second_at b at) f s s₁
        ok = first.fine k

        rest_asks : {kind : ℕ} → get_or b at 0 ≡ kind → Accepted b (second_at b at) (left - 1) (inner kind f.bound) →
            RestPre b kind (left - 1) f s₁
        rest_asks e a =
            record {
              accepted = accepted_at ok.place a;
              binder = λ q. fits.scope (ap is_binder e ∙ q);
              value = value_asks ok (omega (arith, pre.room));
              marks = marks_more pre.marks ok.after.rows;
              scope = scope_kept pre.scope s₁.work s₁.env ok.below ok.scope ok.spans (omega arith) ok.after.rows;
              room = omega (arith, pre.room, deep, ok.size);
              small = omega (arith, pre.small, deep);
            }

        -- what yields the rest yields the record
        first_yields : {rest : Rest} {next : ℕ} {s' : Machine} → First b at left f.bound rest → next ≡ end_at b at →
            RestPost rest next f s₁ s' → EvalPost b left f s s'
        first_yields {rest} o g y = yields_after (fine_between s (omega arith) ok) (yields_as refl g y) runs ok.scope
          where
            runs : run (expr_at left b at) (bound_in f s) (state_in f s) ≡ rest s₁.place (bound_in f s₁) (value_in f s₁) (state_in f s₁)
            runs =
                o.runs (bound_in f s) (state_in f s) ∙
                ap (λ (q : Out). and_then q (rest (second_at b at) (bound_in f s))) (yields_gives first k) ∙
                ap (λ (i : ℕ). rest i (bound_in f s) (value_in f s₁) (state_in f s₁)) (sym ok.place) ∙
                ap (λ (vs : List (List ℕ)). rest s₁.place vs (value_in f s₁) (state_in f s₁))
                (sym (bound_kept pre.scope s₁.work s₁.env ok.below ok.scope))

        -- no other operand
        module _ {q : ℕ} (count : q ≡ arity (get_or b s.place 0)) (z : q ≡ 1) where
          pub unary_asks : ValuePre f.top s₁
          unary_asks = value_asks ok (omega (arith, pre.room))

          pub unary_yields : {o : Operator} → OperatorPost b s.place o → {s' : Machine} → UnaryPost o f.top s₁ s' → EvalPost b left f s s'
          unary_yields read post =
              let o = one_operand pre.accepted count z in
              let y = yields_as (read.same (value_in f s₁) (state_in f s₁)) refl (post f.bound f.marks) in
              first_yields o.first (ok.place ∙ sym o.ends) y

        -- a second
        module _ {kind : ℕ} {rest : Rest} (e : get_or b s.place 0 ≡ kind)
            (o : Two b s.place left f.bound (inner kind f.bound) rest) where
          pub two_asks : RestPre b kind (left - 1) f s₁
          two_asks = rest_asks e o.second

          pub two_fewer : records_at (left - 1) b s₁.place < records_at left b s.place
          two_fewer = omega (arith, o.fewer, ap (records_at (left - 1) b) ok.place)

          pub two_yields : {s' : Machine} → RestPost rest (end_at b s₁.place) f s₁ s' → EvalPost b left f s s'
          two_yields = first_yields o.first (ap (end_at b) ok.place ∙ sym o.ends)

        -- a second and a third
        module _ {rest : Rest} (e : get_or b s.place 0 ≡ if_kind) (o : Three b s.place left f.bound rest) where
          third_at_lem : end_at b s₁.place ≡ end_at b (second_at b at)
          third_at_lem = ap (end_at b) ok.place

          pub three_asks : RestPre b if_kind (left - 1) f s₁ × Accepted b (end_at b s₁.place) (left - 1) f.bound
          unfolding inner
          three_asks = (rest_asks e o.second, accepted_at third_at_lem o.third)

          pub three_fewer : records_at (left - 1) b s₁.place + records_at (left - 1) b (end_at b s₁.place) < records_at left b s.place
          three_fewer = omega (arith, o.fewer, ap (records_at (left - 1) b) ok.place, ap (records_at (left - 1) b) third_at_lem)

          pub three_yields : {s' : Machine} → RestPost rest (end_at b (end_at b s₁.place)) f s₁ s' → EvalPost b left f s s'
          three_yields = first_yields o.first (ap (end_at b) third_at_lem ∙ sym o.ends)
