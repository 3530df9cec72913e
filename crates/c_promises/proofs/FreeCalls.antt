-- Demand 3 through C: two scripts of which the analysis answers 0, run by yegnabit_run in either order: FreeCallsCommute.
use mathlib.Core.Path.{◌≡◌, refl, ap, sym, transport, ◌∙◌}
use mathlib.Core.Bool.{true, false≢true}
use mathlib.Core.List.{List}
use Prim.Native.Nat.{ℕ}
use native.Mathlib.Omega.{arith}
use lib.ListN.{length}
use Rattle.model.specs.Base.{are_bytes}
use Rattle.model.specs.Call.{Areas, areas_fit, Ran, run_by, ran_by, run_in, calls_end, CallsEqual, EitherOrder}
use Rattle.model.specs.Refusal.{is_fine}
use Rattle.model.specs.Run.{Out, gives, refused, State}
use Rattle.model.specs.Script.{read_script}
use Rattle.model.specs.Stored.{got, read_plan}
use Rattle.model.specs.Table.{Table, is_well}
use Rattle.model.proofs.BoolLaws.{and_both}
use Rattle.model.proofs.TestLaws.{and_parts}
use Rattle.model.proofs.CallsCommute.{run_call_by, calls_commute}
use Rattle.model.proofs.RunsBack.{run_by_back}
use Rattle.model.proofs.StoredBack.{stored_back}
use Rattle.c_codes.specs.Codes.{code_of}
use Rattle.paths.proofs.Promised.{free_which}
use Rattle.run.proofs.OutcomeLaws.{refuses_fine, run_refuses}
use Rattle.yegnabit.specs.Running.{Called}
use Rattle.c_lent.proofs.EndLaws.{long_enough}
use Rattle.c_promises.specs.Promise.{plan_left, Lent, called_in, IsLong, BothAnswer, told, CalledAgree, FreeCallsCommute}
use Rattle.c_promises.proofs.Promised.{run_done_lem, plan_left_lem, call_ends}

-- the model's run, in three of the five areas
abbrev areas_of : Lent → Areas
areas_of k = record { answer = k.answer; history = k.history; work = k.work }

abbrev model_run : Table → (script : List ℕ) → Lent → Ran
model_run x b k = run_in x b (areas_of k)

fits_of : (k : Lent) → IsLong k → areas_fit k.answer k.history k.work ≡ true
fits_of k long =
    (long_enough (length k.answer) (length k.history) (length k.work) (length k.out) (length k.done) long).0

-- A CALL on a plan that is read as x answers 0 and tells the model's run
record Tells (p : List ℕ) (x : Table) (b : List ℕ) (k : Lent) : Type 0 where
  fine : is_fine (model_run x b k).refusal ≡ true
  answers : code_of (called_in p b k).values ≡ 0
  well : is_well (model_run x b k).plan ≡ true
  left : read_plan (plan_left (called_in p b k)) ≡ got (model_run x b k).plan
  tells : told (called_in p b k) (model_run x b k).plan ≡ model_run x b k

module _ (p : List ℕ) (x : Table) (well : is_well x ≡ true) (read : read_plan p ≡ got x) (b : List ℕ) (bytes : are_bytes b ≡ true)
    (k : Lent) (long : IsLong k) where
  run_is : (q : Out) → run_by x (read_script b) ≡ q →
      model_run x b k ≡ ran_by x (length k.answer) (length k.history) (length k.work) q
  run_is q e = run_call_by x b k.answer k.history k.work q (fits_of k long) well e

  by_run : (v : List ℕ) (t : State) → run_by x (read_script b) ≡ gives v t → Tells p x b k
  by_run v t e =
      let r = run_is (gives v t) e in
      let after = (run_by_back x b bytes well v t e).0 in
      let c = run_done_lem p b k.answer k.history k.work k.out k.done x well read long bytes v t e in
      record {
        fine = ap (λ (r : Ran). is_fine r.refusal) r;
        answers = ap (λ (r : Called). code_of r.values) c;
        well = ap (λ (r : Ran). is_well r.plan) r ∙ after;
        left = ap read_plan (plan_left_lem p b k.answer k.history k.work k.out k.done x well read long bytes v t e) ∙
            stored_back.0 t.plan after ∙ ap (λ (r : Ran). got r.plan) (sym r);
        tells = (λ i. told (c i) (r i).plan) ∙ sym r;
      }

  -- answered 0, or fine in the model
  by_answer : code_of (called_in p b k).values ≡ 0 → Tells p x b k
  by_answer a =
      let y = call_ends p b k.answer k.history k.work k.out k.done x well read long a in
      by_run y.0 y.1.0 y.1.1

  by_fine : is_fine (model_run x b k).refusal ≡ true → Tells p x b k
  by_fine f = go (run_by x (read_script b)) refl
    where
      go : (q : Out) → run_by x (read_script b) ≡ q → Tells p x b k
      go (refused g) e =
          absurd
          (false≢true
          (sym (refuses_fine (run_refuses x b) g e) ∙ sym (ap (λ (r : Ran). is_fine r.refusal) (run_is (refused g) e)) ∙ f))
      go (gives v t) e = by_run v t e

-- AN ORDER: both calls answer 0 exactly when both runs of the model end
module _ (p : List ℕ) (x : Table) (well : is_well x ≡ true) (read : read_plan p ≡ got x) (b c : List ℕ) (bytes : are_bytes b ≡ true)
    (bytes' : are_bytes c ≡ true) (k k' : Lent) (long : IsLong k) (long' : IsLong k') where
  abbrev first : Called
  first = called_in p b k

  abbrev second : Called
  second = called_in (plan_left first) c k'

  abbrev between : Table
  between = (model_run x b k).plan

  abbrev Both : Type 0
  Both = Tells p x b k × Tells (plan_left first) between c k'

  order_answers : BothAnswer first second → Both
  order_answers a =
      let t = by_answer p x well read b bytes k long a.0 in
      (t, by_answer (plan_left first) between t.well t.left c bytes' k' long' a.1)

  order_ends_lem : calls_end (model_run x b k) (model_run between c k') ≡ true → Both
  order_ends_lem e =
      let y = and_parts (is_fine (model_run x b k).refusal) _ e in
      let t = by_fine p x well read b bytes k long y.0 in
      (t, by_fine (plan_left first) between t.well t.left c bytes' k' long' y.1)

  both_end : Both → calls_end (model_run x b k) (model_run between c k') ≡ true
  both_end t = and_both _ _ t.0.fine t.1.fine

  both_answer : Both → BothAnswer first second
  both_answer t = (t.0.answers, t.1.answers)

module _ (p b c : List ℕ) (x : Table) (k k' l l' : Lent) (bytes : are_bytes b ≡ true) (bytes' : are_bytes c ≡ true)
    (well : is_well x ≡ true) (read : read_plan p ≡ got x) (long : IsLong k) (long' : IsLong k') (wide : IsLong l) (wide' : IsLong l')
    (either : EitherOrder b c x (areas_of k) (areas_of k') (areas_of l) (areas_of l')) where
  abbrev One : Type 0
  One = Both p x well read b c bytes bytes' k k' long long'

  abbrev Two : Type 0
  Two = Both p x well read c b bytes' bytes l l' wide wide'

  two_of : One → Two
  two_of t =
      order_ends_lem p x well read c b bytes' bytes l l' wide wide'
      (sym either.0 ∙ both_end p x well read b c bytes bytes' k k' long long' t)

  one_of : Two → One
  one_of t =
      order_ends_lem p x well read b c bytes bytes' k k' long long'
      (either.0 ∙ both_end p x well read c b bytes' bytes l l' wide wide' t)

  agree : CalledAgree x (called_in p b k) (called_in (plan_left (called_in p b k)) c k') (called_in p c l)
      (called_in (plan_left (called_in p c l)) b l')
  agree = (
    (
      λ a. both_answer p x well read c b bytes' bytes l l' wide wide'
          (two_of (order_answers p x well read b c bytes bytes' k k' long long' a)),
      λ a. both_answer p x well read b c bytes bytes' k k' long long'
          (one_of (order_answers p x well read c b bytes' bytes l l' wide wide' a)),
    ),
    λ a.
        let t = order_answers p x well read b c bytes bytes' k k' long long' a in
        let s = two_of t in (
          (model_run x b k).plan,
          (
            (model_run (model_run x b k).plan c k').plan,
            (
              (model_run x c l).plan,
              (
                (model_run (model_run x c l).plan b l').plan,
                (
                  t.0.left,
                  t.1.left,
                  s.0.left,
                  s.1.left,
                  transport (λ i.
                      CallsEqual x (sym t.0.tells i) (sym t.1.tells i) (sym s.0.tells i) (sym s.1.tells i))
                      (either.1 (both_end p x well read b c bytes bytes' k k' long long' t)),
                ),
              ),
            ),
          ),
        ),
  )

pub free_calls_commute : FreeCallsCommute
free_calls_commute p b c x k k' l l' plan bytes bytes' read long says =
    agree p b c x k k' l l' bytes bytes' well read long.0 long.1 long.2 long.3
    (calls_commute b c x (areas_of k) (areas_of k') (areas_of l) (areas_of l') bytes bytes' (free_which b c (omega (arith, says))) well
    (fits_of k long.0, fits_of k' long.1, fits_of l long.2, fits_of l' long.3))
  where
    well : is_well x ≡ true
    well = (stored_back.1 p x plan read).0
