-- A run in areas that suffice, and two runs one after the other.
use mathlib.Core.Path.{◌≡◌, refl, ap, sym, ◌∙◌}
use mathlib.Core.Bool.{Bool, cond}
use mathlib.Core.List.{List}
use Prim.Native.Nat.{ℕ, ◌≤◌}
use lib.ListN.{length}
use Rattle.model.specs.Refusal.{is_fine, lent_short}
use Rattle.model.specs.Run.{Out, refused, gives}
use Rattle.model.specs.Call.{Ran, ran_by, refused_run}
use Rattle.model.proofs.BoolLaws.{cond_eq, cond_ne}
use Rattle.model.specs.Limits.{answer_need, history_need, work_need}
use Rattle.plan_table.specs.Packed.{encode, decode}
use Rattle.plan_table.specs.declared.Table.{Table}
use Rattle.run.specs.Calls.{RunResult, outcome_of, ran, run_result}
use Rattle.pair_orders.specs.Orders.{Ending, Refused, Ended, ending_by, ending, order_then, order_from, order}
use Rattle.run.proofs.CallLaws.{areas_fit_lem}
use Rattle.run.proofs.OutcomeLaws.{Refuses, refuses_fine, outcome_refuses}

-- WHAT A RUN GIVES BACK does not depend on the areas, where they suffice
abbrev given : Table → Ran → Ending
given t r = record { number = r.refusal.number; items = r.items; table = cond (is_fine r.refusal) (encode r.plan) t }

out_given : (t : Table) (a h w : ℕ) (o : Out) → Refuses o → given t (ran_by (decode t) a h w o) ≡ ending_by t o
out_given t a h w (refused f) k =
    ap (λ (z : Bool). record { number = f.number; items = 0; table = cond z (encode (decode t)) t }) (refuses_fine k f refl)
out_given t a h w (gives v s) k = refl

module _ (t : Table) (b a h w : List ℕ) (i : answer_need ≤ length a) (j : history_need ≤ length h) (k : work_need ≤ length w) where
  ran_given : given t (ran t b a h w) ≡ ending t b
  unfolding ending
  ran_given =
      ap
      (λ (z : Bool).
      given t (cond z (ran_by (decode t) (length a) (length h) (length w) (outcome_of t b)) (refused_run lent_short (decode t) a h w)))
      (areas_fit_lem a h w i j k) ∙
      out_given t (length a) (length h) (length w) (outcome_of t b) (outcome_refuses t b)

  pub run_given : {r : RunResult} → r ≡ run_result t b a h w →
      record { number = r.refusal.number; items = r.items; table = r.table } ≡ ending t b
  run_given e =
      ap (λ (q : RunResult). record { number = q.refusal.number; items = q.items; table = q.table }) e ∙ ran_given

-- AN ORDER by its three ways out
module _ (t : Table) (b c : List ℕ) {one : Ending} (e : one ≡ ending t b) where
  pub leads_refused : (one.number ≡ 0 → ⊥) → Refused 1 one.number ≡ order t b c
  unfolding order
  leads_refused z =
      sym (cond_ne (order_then one.items (ending one.table c)) (Refused 1 one.number) z) ∙
      ap (λ (r : Ending). order_from r c) e

  module _ (y : one.number ≡ 0) {two : Ending} (f : two ≡ ending one.table c) where
    then_order : order_then one.items two ≡ order t b c
    unfolding order
    then_order =
        ap (order_then one.items) f ∙
        sym (cond_eq (order_then one.items (ending one.table c)) (Refused 1 one.number) y) ∙
        ap (λ (r : Ending). order_from r c) e

    pub follows_refused : (two.number ≡ 0 → ⊥) → Refused 2 two.number ≡ order t b c
    follows_refused z = sym (cond_ne (Ended one.items two.items two.table.count) (Refused 2 two.number) z) ∙ then_order

    pub both_ended : two.number ≡ 0 → Ended one.items two.items two.table.count ≡ order t b c
    both_ended z = sym (cond_eq (Ended one.items two.items two.table.count) (Refused 2 two.number) z) ∙ then_order
