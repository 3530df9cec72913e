-- The C call for a run, by its three ways out: an area too short, the plan refused, the run over.
use mathlib.Core.Path.{◌≡◌, refl, ap, sym, subst, ◌∙◌}
use mathlib.Core.Bool.{Bool, true, false}
use mathlib.Core.List.{List}
use Prim.Native.Nat.{ℕ, ◌≤◌}
use lib.ListN.{length, replicate}
use borrow.Author.Tests.{eq-eqb, ne_eqb}
use Rattle.model.specs.Call.{areas_fit}
use Rattle.model.specs.Refusal.{values}
use Rattle.plan.specs.Calls as library
use Rattle.plan_table.specs.Results.{TableResult}
use Rattle.run.specs.Calls.{ran, run_result}
use Rattle.run.specs.Calls.{RunResult}
use Rattle.c_codes.specs.Codes.{code_of, lent_values}
use Rattle.yegnabit.specs.Running.{Called, untouched_call, refused_call, ran_call, read_call, run_called}
use Rattle.c_lent.specs.Done.{done_need, lent_fit, done_over, end_values, end_out, end_done}
use Rattle.c_lent.proofs.EndLaws.{long_enough}

-- the answer and the five areas are those of a call
abbrev pub Leaves : (code : ℕ) → (answer history work out done : List ℕ) → Called → Type 0
Leaves c a h w o d x =
    (c ≡ code_of x.values) × ((a ≡ x.answer) × ((h ≡ x.history) × ((w ≡ x.work) × ((o ≡ x.out) × (d ≡ x.done)))))

module _ (p s a h w o d : List ℕ) (b : Bool)
    (fit : b ≡ lent_fit (length a) (length h) (length w) (length o) (length d)) where
  -- where no area is too short, done takes six numbers
  pub six_fit : b ≡ true → done_need ≤ length d
  six_fit f = (long_enough (length a) (length h) (length w) (length o) (length d) (sym fit ∙ f)).2

  -- and the run's three areas are long enough
  pub three_fit : b ≡ true → areas_fit a h w ≡ true
  three_fit f = (long_enough (length a) (length h) (length w) (length o) (length d) (sym fit ∙ f)).0

  pub call_short : (c : ℕ) → c ≡ code_of lent_values → b ≡ false → Leaves c a h w o d (run_called p s a h w o d)
  call_short c e f = subst (Leaves c a h w o d) (sym (the_call (sym fit ∙ f))) (e, (refl, (refl, (refl, (refl, refl)))))
    where
      the_call : lent_fit (length a) (length h) (length w) (length o) (length d) ≡ false →
          run_called p s a h w o d ≡ untouched_call a h w o d
      the_call k = rw k

  module _ (long : b ≡ true) (q : TableResult) (read : q ≡ library.plan_read p) where
    pub called : run_called p s a h w o d ≡ read_call q s a h w o d
    called = the_read (sym fit ∙ long) ∙ ap (λ (t : TableResult). read_call t s a h w o d) (sym read)
      where
        the_read : lent_fit (length a) (length h) (length w) (length o) (length d) ≡ true →
            run_called p s a h w o d ≡ read_call (library.plan_read p) s a h w o d
        the_read k = rw k

    -- the plan is refused: nothing runs
    pub call_plan_refused : (c : ℕ) (a' h' w' d' : List ℕ) → (q.refusal.number ≡ 0 → ⊥) →
        c ≡ code_of (values q.refusal.number 1 q.refusal.place) → a' ≡ replicate (length a) 0 → h' ≡ replicate (length h) 0 →
        w' ≡ replicate (length w) 0 → d' ≡ done_over 0 0 0 0 0 0 d → Leaves c a' h' w' o d' (run_called p s a h w o d)
    call_plan_refused c a' h' w' d' z e ea eh ew f =
        subst (Leaves c a' h' w' o d') (sym (called ∙ the_refusal)) (e, (ea, (eh, (ew, (refl, f)))))
      where
        the_refusal : read_call q s a h w o d ≡ refused_call (values q.refusal.number 1 q.refusal.place) a h w o d
        the_refusal = rw (ne_eqb q.refusal.number 0 z)

    module _ (z : q.refusal.number ≡ 0) (r : RunResult) (a' h' w' : List ℕ) (result : r ≡ run_result q.table s a h w)
        (at-answer : a' ≡ (ran q.table s a h w).answer) (at-history : h' ≡ (ran q.table s a h w).history)
        (at-work : w' ≡ (ran q.table s a h w).work) where
      run_called_lem : run_called p s a h w o d ≡ ran_call r (ran q.table s a h w) o d
      run_called_lem = called ∙ the_run ∙ ap (λ (t : RunResult). ran_call t (ran q.table s a h w) o d) (sym result)
        where
          the_run : read_call q s a h w o d ≡ ran_call (run_result q.table s a h w) (ran q.table s a h w) o d
          the_run = rw (eq-eqb q.refusal.number 0 z)

      -- the run is over
      pub call_ended : (c : ℕ) (o' d' : List ℕ) → c ≡ code_of (end_values r o) → o' ≡ end_out r o → d' ≡ end_done r o d →
          Leaves c a' h' w' o' d' (run_called p s a h w o d)
      call_ended c o' d' e f g =
          subst (Leaves c a' h' w' o' d') (sym run_called_lem) (e, (at-answer, (at-history, (at-work, (f, g)))))
