-- What the call `run` gives back and leaves, in the model's words: RunsAsCalled, RunsUnfit, RunsOn, RefusedGivesBack, RefusedLeaves,
-- RunsCommute.
use mathlib.Core.Path.{◌≡◌, refl, ap, sym, subst, transport, ◌∙◌}
use mathlib.Core.Bool.{Bool, true, false, cond}
use mathlib.Core.List.{List}
use Prim.Native.Nat.{ℕ}
use lib.ListN.{length, replicate}
use borrow.Author.Tests.{ne_eqb}
use Rattle.model.specs.Base.{are_bytes}
use Rattle.model.specs.Refusal as refusal
use Rattle.model.specs.Table as model
use Rattle.model.specs.Script.{read_script}
use Rattle.model.specs.Run.{State, Out, refused, gives}
use Rattle.model.specs.Call.{Ran, areas_fit, ran_by, TallyFits, is_of_call, refused_run, run_by, OrdersAgree, Areas, run_in}
use Rattle.model.proofs.BoolLaws.{by_cases, cond_true, cond_false}
use Rattle.model.proofs.HistoryFits.{call_fits, unfit_fits}
use Rattle.model.proofs.CallsCommute.{calls_commute}
use Rattle.plan_table.specs.Results.{refusal_of}
use Rattle.plan_table.specs.Packed.{encode, decode, fits}
use Rattle.plan_table.specs.declared.Table.{Table}
use Rattle.plan_table.proofs.FittedLaws.{well_decode}
use Rattle.plan_table.proofs.EncodeLaws.{decode_encode, fits_encode}
use Rattle.run.specs.Calls.{RunResult, Ended, outcome_of, ran, result_of, run_result, result_in}
use Rattle.run.specs.Promise.{RunsAsCalled, RunsUnfit, RunsOn, RunsFit, RefusedGivesBack, RefusedLeaves, RunsCommute, ran_in}
use Rattle.run.specs.Promise.{table_after}
use Rattle.run.proofs.CallLaws.{back_fine}
use Rattle.run.proofs.OutcomeLaws.{Refuses, outcome_refuses}
use Rattle.model.proofs.RunsBack.{run_by_back}

-- WHAT A RUN LEAVES, by whether the areas and the table fit
abbrev ran_if : Table → (answer history work : List ℕ) → Out → (areas : Bool) → Ran
ran_if t a h w o z =
    cond z (ran_by (decode t) (length a) (length h) (length w) o) (refused_run refusal.lent_short (decode t) a h w)

abbrev outcome_if : Table → (script : List ℕ) → (table : Bool) → Out
outcome_if t b z = cond z (run_by (decode t) (read_script b)) (refused (refusal.link_at 0))

ran_if_lem : (t : Table) (b a h w : List ℕ) (z : Bool) → fits t ≡ z → ran t b a h w ≡ ran_if t a h w (outcome_if t b z) (areas_fit a h w)
ran_if_lem t b a h w z e = ap (λ (y : Bool). ran_if t a h w (outcome_if t b y) (areas_fit a h w)) e

pub runs_as_called : RunsAsCalled
runs_as_called t b a h w e = ran_if_lem t b a h w (model.is_well (decode t)) (e ∙ sym (well_decode t e))

pub runs_unfit : RunsUnfit
runs_unfit t b a h w e = ran_if_lem t b a h w false e

pub runs_fit : RunsFit
runs_fit t b a h w =
    by_cases (fits t) (λ e. subst TallyFits (sym (runs_as_called t b a h w e)) (call_fits (decode t) b a h w))
    (λ e. subst TallyFits (sym (runs_unfit t b a h w e)) (unfit_fits (decode t) a h w))

-- THE TABLE GIVEN BACK fits and stands for the plan
abbrev Stands : (given : Table) → (plan : model.Table) → Type 0
Stands u x = (fits u ≡ true) × (decode u ≡ x)

encoded : (x : model.Table) → model.is_well x ≡ true → Stands (encode x) x
encoded x k = (fits_encode x k, decode_encode x k)

module _ (t : Table) (e : fits t ≡ true) where
  outcome_stands : (k m n : ℕ) (o : Out) → ((v : List ℕ) (s : State) → o ≡ gives v s → model.is_well s.plan ≡ true) →
      Stands (result_of t (ran_by (decode t) k m n o)).table (ran_by (decode t) k m n o).plan
  outcome_stands k m n (refused f) g =
      by_cases (refusal.is_fine f)
      (λ z. subst (λ (u : Table). Stands u (decode t)) (sym (cond_true (refusal.is_fine f) (encode (decode t)) t z))
      (encoded (decode t) (well_decode t e)))
      (λ z. subst (λ (u : Table). Stands u (decode t)) (sym (cond_false (refusal.is_fine f) (encode (decode t)) t z)) (e, refl))
  outcome_stands k m n (gives v s) g = encoded s.plan (g v s refl)

  -- a run that is not refused leaves a well-formed table
  run_well : (b : List ℕ) → are_bytes b ≡ true → (v : List ℕ) (s : State) → outcome_of t b ≡ gives v s → model.is_well s.plan ≡ true
  run_well b bytes v s k = (run_by_back (decode t) b bytes (well_decode t e) v s (sym (cond_true (fits t) _ _ e) ∙ k)).0

  ran_stands : (b a h w : List ℕ) → are_bytes b ≡ true → Stands (run_result t b a h w).table (ran t b a h w).plan
  ran_stands b a h w bytes = go (areas_fit a h w)
    where
      go : (z : Bool) →
          Stands (result_of t (ran_if t a h w (outcome_of t b) z)).table (ran_if t a h w (outcome_of t b) z).plan
      go true = outcome_stands (length a) (length h) (length w) (outcome_of t b) (run_well b bytes)
      go false = (e, refl)

pub runs_on : RunsOn
runs_on t b a h w bytes e =
    let s = ran_stands t e b a h w bytes in
    (s.0, s.1 ∙ ap (λ (r : Ran). r.plan) (runs_as_called t b a h w e))

-- so does the lent one after a run
pub lent_fits : (t : Table) (b a h w : List ℕ) (u : Table) (e : Ended) → are_bytes b ≡ true → fits t ≡ true →
    result_in t e u ≡ run_result t b a h w → e.refusal.number ≡ 0 → fits u ≡ true
lent_fits t b a h w u e bytes f is z =
    ap (λ (r : RunResult). fits r.table) (back_fine t e u z ∙ is) ∙ (runs_on t b a h w bytes f).0

-- REFUSED
pub refused_gives_back : RefusedGivesBack
refused_gives_back t b a h w k =
    cond_false (refusal.is_fine (ran t b a h w).refusal) (encode (ran t b a h w).plan) t (ne_eqb (ran t b a h w).refusal.number 0 k)

-- the areas, by what the run comes to
module _ (t : Table) (a h w : List ℕ) where
  abbrev Zeroed : RunResult → Ran → Type 0
  Zeroed q r =
      (is_of_call q.refusal.number ≡ true) × (r.answer ≡ replicate (length a) 0) × (r.history ≡ replicate (length h) 0) ×
      (r.work ≡ replicate (length w) 0)

  outcome_zeroed : (o : Out) → Refuses o → ((ran_by (decode t) (length a) (length h) (length w) o).refusal.number ≡ 0 → ⊥) →
      Zeroed (result_of t (ran_by (decode t) (length a) (length h) (length w) o)) (ran_by (decode t) (length a) (length h) (length w) o)
  outcome_zeroed (refused f) r k = (r f refl, refl, refl, refl)
  outcome_zeroed (gives v s) r k = absurd (k refl)

pub refused_leaves : RefusedLeaves
refused_leaves t b a h w = (
  λ e. let r : ran t b a h w ≡ refused_run refusal.lent_short (decode t) a h w = cond_false (areas_fit a h w) _ _ e in (
    ap (λ (q : Ran). refusal_of q.refusal) r,
    ap (λ (q : Ran). q.answer) r,
    ap (λ (q : Ran). q.history) r,
    ap (λ (q : Ran). q.work) r,
  ),
  λ e k.
      let r : ran t b a h w ≡ ran_by (decode t) (length a) (length h) (length w) (outcome_of t b) = cond_true (areas_fit a h w) _ _ e in
      subst (λ (q : Ran). Zeroed t a h w (result_of t q) q) (sym r)
      (outcome_zeroed t a h w (outcome_of t b) (outcome_refuses t b) (λ z. k (ap (λ (q : Ran). q.refusal.number) r ∙ z))),
)

-- EITHER ORDER
module _ (t : Table) (e : fits t ≡ true) where
  called : (b : List ℕ) (k : Areas) → ran_in t b k ≡ run_in (decode t) b k
  called b k = runs_as_called t b k.answer k.history k.work e

  then_called : (b c : List ℕ) (k k' : Areas) → are_bytes b ≡ true →
      ran_in (table_after t b k) c k' ≡ run_in (run_in (decode t) b k).plan c k'
  then_called b c k k' bytes =
      let s = runs_on t b k.answer k.history k.work bytes e in
      runs_as_called (table_after t b k) c k'.answer k'.history k'.work s.0 ∙ ap (λ (x : model.Table). run_in x c k') s.1

pub runs_commute : RunsCommute
runs_commute b c t k k' l l' bytes bytes' is e fit =
    transport (λ i.
    OrdersAgree (decode t) (sym (called t e b k) i) (sym (then_called t e b c k k' bytes) i) (sym (called t e c l) i)
    (sym (then_called t e c b l l' bytes') i))
    (calls_commute b c (decode t) k k' l l' bytes bytes' is (well_decode t e) fit)
