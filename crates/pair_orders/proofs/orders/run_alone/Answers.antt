-- `orders::run_alone` is how a script ends, in areas of its own.
use Rattle.std.proofs.Common.{refl, ◌≡◌, ◌∙◌, sym, subst, Result, Ok, Err, arith, rules}
use Rattle.std.proofs.lemmas.List.{length-replicate}
use Rattle.std.specs.Prelude.{⊤, ℕ, ◌≤◌, length, replicate}
use Rattle.model.specs.Limits.{answer_need, history_need, work_need}
use Rattle.std.specs.Result.{MatchResult, IsErrAnd}
use Rattle.std.proofs.lemmas.Result.{err_from_is_err_and}
use Rattle.plan_table.proofs.ByteLaws.{bytes_known}
use Rattle.plan_table.proofs.ReasonLaws.{some_number}
use Rattle.run.proofs.CallLaws.{back_refused, back_fine}
use Rattle.run.proofs.Promised.{lent_fits}
use Rattle.run.specs.Calls.{ended_by}
use Rattle.pair_orders.proofs.OrderLaws.{run_given}
use Rattle.pair_orders.proofs.orders.run_alone.Goals as goal

-- the length of a zeroed area
length_is : (n : ℕ) → n ≤ length {A = ℕ} (replicate n 0)
length_is n = let z : ℕ = 0 in omega (arith, length-replicate n z)

-- an error made of another one, and of which
made_of : {A D E : Type 0} (P : D → E → Type 0) (r : Result A D) {m : Result A E} {e : E} →
    MatchResult r (λ x. m ≡ Ok x) (λ y. IsErrAnd m (P y)) → m ≡ Err e → (y : D) × (r ≡ Err y) × P y e
made_of {A} {D} {E} P (Ok x) h e = absurd (subst (λ (m : Result A E). MatchResult m (λ _. ⊤) (λ _. ⊥)) (sym h ∙ e) tt)
made_of {A} {D} {E} P (Err y) h e = (y, refl, subst (λ (m : Result A E). IsErrAnd m (P y)) e h)

pub returns-in_err-ended-clause-value : goal.returns-in_err-ended-clause-value
returns-in_err-ended-clause-value c =
    let x = c.args in
    let told = made_of _ c.fitting.result c.map_err.ensures.cases c.in_err-ended.was in
    let k : c.in_err-ended.field-0.0 ≡ told.0.reason = search (told.2, rules) in
    let p = err_from_is_err_and c.from_residual.result c.from_residual.ensures.1 in
    rw (p.1, p.2, k)
    (run_given x.table x.script.now (replicate answer_need 0) (replicate history_need 0) (replicate work_need 0)
    (length_is answer_need) (length_is history_need) (length_is work_need)
    (back_refused x.table (ended_by (Err told.0)) _ (some_number told.0.reason) ∙ rw told.1 at c.fitting.ensures.table_after))

pub returns-clause-value : goal.returns-clause-value
returns-clause-value c =
    let x = c.args in
    let e : c.fitting.result ≡ Ok c.in_ok-ended.ended = grind arith in
    run_given x.table x.script.now (replicate answer_need 0) (replicate history_need 0) (replicate work_need 0)
    (length_is answer_need) (length_is history_need) (length_is work_need)
    (back_fine x.table (ended_by (Ok c.in_ok-ended.ended)) _ refl ∙ rw e at c.fitting.ensures.table_after)

pub returns-clause-table_value : goal.returns-clause-table_value
returns-clause-table_value c =
    let x = c.args in
    let e : c.fitting.result ≡ Ok c.in_ok-ended.ended = grind arith in
    lent_fits x.table x.script.now (replicate answer_need 0) (replicate history_need 0) (replicate work_need 0) _
    (ended_by (Ok c.in_ok-ended.ended)) (bytes_known x.script.now (λ i. (c.type_inv.script i).fits))
    c.requires (rw e at c.fitting.ensures.table_after) refl
