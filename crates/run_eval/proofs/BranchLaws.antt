-- An if after its first operand: what each call asks is there, and each way out is what is left of the record's run.
use mathlib.Core.Path.{◌≡◌, ap, sym, ◌∙◌}
use mathlib.Core.List.{List}
use Prim.Native.Nat.{ℕ, ◌≤◌}
use native.Mathlib.Omega.{arith}
use lib.ListN.{length}
use Rattle.model.specs.Script.{if_kind}
use Rattle.model.specs.Run.{run}
use Rattle.model.proofs.BoolLaws.{cond_eq, cond_ne}
use Rattle.script_records.specs.Walk.{inner, end_at, expr_at}
use Rattle.script.specs.Accepted.{Accepted}
use Rattle.script.proofs.AcceptedLaws.{accepted_at}
use Rattle.run_query.specs.Values.{value_at}
use Rattle.run_operators.specs.Machine.{Evaluated, Machine, Frame, evaluated, came_to, state_in, bound_in, value_in}
use Rattle.run_operators.specs.Evaluating.{moved_to, EvalPre, EvalPost}
use Rattle.run_query.proofs.ValueLaws.{value_none}
use Rattle.run_operators.proofs.ValueLaws.{length_value}
use Rattle.run_operators.proofs.YieldLaws.{yields_as, yields_refused, refused_yields, moved_yields, placed_at, yields_from}
use Rattle.run_eval.specs.Rests.{if_rest, RestPre, RestPost}

module _ {b : List ℕ} {left : ℕ} {f : Frame} {s : Machine} (pre : RestPre b if_kind left f s) where
  asks : {i : ℕ} → Accepted b i left f.bound → EvalPre b left f (placed_at i f.top s)
  asks a =
      record {
        accepted = a;
        held = pre.value.held;
        marks = pre.marks;
        scope = pre.scope;
        room = omega (arith, pre.room);
        small = omega (arith, pre.small);
      }

  -- THE THIRD OPERAND, where the first is empty
  module _ {third : ℕ} (there : third ≡ end_at b s.place) where
    pub else_asks : Accepted b (end_at b s.place) left f.bound → EvalPre b left f (placed_at third f.top s)
    else_asks a = asks (accepted_at there a)

    pub else_yields : s.end ≡ f.top → {s' : Machine} → EvalPost b left f (placed_at third f.top s) s' →
        RestPost (if_rest b left) (end_at b (end_at b s.place)) f s s'
    else_yields none post =
        let empty : length (value_in f s) ≡ 0 =
        ap (λ (j : ℕ). length (value_at s.work f.top j)) none ∙ ap length (value_none s.work f.top) in
        yields_as (ap (λ (i : ℕ). run (expr_at left b i) (bound_in f s) (state_in f s)) there ∙ sym (cond_eq _ _ empty))
        (ap (end_at b) there) (yields_from pre.value.held post)

  -- THE SECOND, where it is not
  pub then_asks : EvalPre b left f (placed_at s.place f.top s)
  unfolding inner
  then_asks = asks pre.accepted

  module _ (some : s.end ≡ f.top → ⊥) {s₁ : Machine} (ran : EvalPost b left f (placed_at s.place f.top s) s₁) where
    many : length (value_in f s) ≡ 0 → ⊥
    many e =
        let v = pre.value in
        let within : s.end ≤ length s.work = omega (arith, v.short, v.room) in
        some (omega (arith, e, length_value s.work f.top s.end v.order within, v.order))

    pub then_refused : (s₁.progress.number ≡ 0 → ⊥) → RestPost (if_rest b left) (end_at b (end_at b s.place)) f s s₁
    then_refused k = refused_yields k (cond_ne _ _ many ∙ yields_refused ran k)

    pub then_yields : s₁.progress.number ≡ 0 → {r : Evaluated} → r ≡ moved_to (end_at b s₁.place) (evaluated s₁) →
        RestPost (if_rest b left) (end_at b (end_at b s.place)) f s (came_to r s₁)
    then_yields k e =
        yields_as (sym (cond_ne _ _ many)) (ap (end_at b) (ran.fine k).place)
        (yields_from pre.value.held (moved_yields (end_at b s₁.place) ran k e))
