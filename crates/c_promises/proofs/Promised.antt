-- The C calls in the model's words: a plan that is read, swept, undone or run on is well formed, so writing it is never refused.
use mathlib.Core.Path.{◌≡◌, ap, ◌∙◌, refl, sym}
use mathlib.Core.Bool.{true}
use mathlib.Core.List.{List}
use Prim.Native.Nat.{ℕ, ◌≤◌}
use native.Mathlib.Omega.{arith}
use lib.ListN.{length}
use borrow.Author.Tests.{le-ltb, ne_eqb}
use Rattle.model.specs.Base.{at_front, are_bytes}
use Rattle.model.specs.Call.{Ran, areas_fit, ran_by, run_by, is_of_call}
use Rattle.model.specs.Refusal as refusal
use Rattle.model.specs.Run.{Out, gives, refused, State}
use Rattle.model.specs.Script.{read_script}
use Rattle.model.specs.Stored.{stored, refused, got, read_plan}
use Rattle.model.specs.Sweep.{swept}
use Rattle.model.specs.Table.{is_well}
use Rattle.model.specs.Table as model
use Rattle.model.specs.Undo.{back, undo}
use Rattle.model.proofs.BoolLaws.{cond_true, cond_false, cond_ne}
use Rattle.model.proofs.RefusedByTable.{refused_by_table}
use Rattle.model.proofs.RunsBack.{run_by_back}
use Rattle.model.proofs.StoredBack.{stored_back}
use Rattle.model.proofs.SweepsWell.{sweeps_well}
use Rattle.model.proofs.TestLaws.{is_in_some}
use Rattle.model.proofs.UndoKeeps.{undo_keeps}
use Rattle.plan_table.specs.Packed.{encode, fits}
use Rattle.plan.specs.Calls as library
use Rattle.plan_writer.specs.Writing.{plan_written, written_out}
use Rattle.plan_table.specs.Results as results
use Rattle.plan_sweep.specs.Sweeping as sweeping
use Rattle.plan_table.specs.Results.{TableResult}
use Rattle.run_undo.specs.Undoing.{plan_undone, undone_by}
use Rattle.run.specs.Calls.{ran, result_of, outcome_of}
use Rattle.yegnabit.specs.Calls.{values_if_long, out_if_long, on_plan, out_on_plan, undo_values, undo_out}
use Rattle.c_codes.specs.Codes.{code_of, lent_values, values_unless, area_unless, written_values, finished_values, finished_out}
use Rattle.yegnabit.specs.Running.{untouched_call, refused_call, ran_call, run_called, Called}
use Rattle.c_lent.specs.Done.{out_need, done_over}
use Rattle.c_promises.specs.Promise.{PlanBack, SweptBack, UndoneBack, LentFits, RunDone, RunRefused, RunAreaShort, PlanRefused}
use Rattle.c_promises.specs.Promise.{FreeRunsCommute, ended_call, plan_left, history_left}
use Rattle.plan_table.proofs.EncodeLaws.{decode_encode, fits_encode}
use Rattle.plan_writer.proofs.WritePlanLaws.{well_written, well_out}
use Rattle.plan.proofs.Promised.{read_short, read_back}
use Rattle.paths.proofs.Promised.{free_told}
use Rattle.run.proofs.OutcomeLaws.{run_refuses, is_of_call_some, outcome_well}
use Rattle.run.proofs.Promised.{runs_commute}
use lib.Seq.{take_at}
use Rattle.model.specs.History.{history_bytes}
use Rattle.c_lent.proofs.EndLaws.{long_enough}
use Rattle.yegnabit.proofs.RunLaws.{called}

-- A PLAN READ is the packed table; the call then answers n and leaves b
module _ (p o : List ℕ) (x : model.Table) (read : read_plan p ≡ got x) (room : out_need ≤ length o) where
  the_plan : library.plan_read p ≡ results.result refusal.fine x
  the_plan = ap library.read_by read

  values_then : (n : TableResult → refusal.Values) → on_plan p o (n (library.plan_read p)) ≡ n (results.result refusal.fine x)
  values_then n =
      ap (λ (q : TableResult). values_if_long o (values_unless q.refusal 1 (n q))) the_plan ∙
      cond_false _ lent_values _ (le-ltb (length o) out_need room)

  out_then : (b : TableResult → List ℕ) → out_on_plan p o (b (library.plan_read p)) ≡ b (results.result refusal.fine x)
  out_then b =
      ap (λ (q : TableResult). out_if_long o (area_unless q.refusal (b q) o)) the_plan ∙
      cond_false _ o _ (le-ltb (length o) out_need room)

-- a well-formed table written
written_values_lem : (y : model.Table) → is_well y ≡ true → (o : List ℕ) → out_need ≤ length o →
    written_values (plan_written (encode y) o) ≡ refusal.values 0 0 (length (stored y))
written_values_lem y w o room = ap written_values (well_written y w o room)

pub plan_back : PlanBack
plan_back p o x b e room =
    let r = read_back p x b e o (omega (arith, read_short p x b e)) in (
      values_then p o x e room (λ q. written_values (plan_written q.table o)) ∙ ap written_values r.0,
      out_then p o x e room (λ q. written_out q.table o) ∙ r.1,
    )

pub swept_back : SweptBack
swept_back p o x b e room =
    let w = (stored_back.1 p x b e).0 in
    let y : is_well (swept x) ≡ true = (sweeps_well x w).0 in
    let t : sweeping.plan_swept (encode x) ≡ results.result refusal.fine (swept x) =
    cond_true (fits (encode x)) _ _ (fits_encode x w) ∙
    ap (λ (u : model.Table). results.result refusal.fine (swept u)) (decode_encode x w) in (
      values_then p o x e room (λ q. finished_values (sweeping.plan_swept q.table) 1 o) ∙
          ap (λ (r : TableResult). finished_values r 1 o) t ∙ written_values_lem (swept x) y o room,
      out_then p o x e room (λ q. finished_out (sweeping.plan_swept q.table) o) ∙
          ap (λ (r : TableResult). finished_out r o) t ∙ well_out (swept x) y o room,
    )

-- a well-formed table undone
pub undone_back_lem : (p h o : List ℕ) (x y : model.Table) → is_well x ≡ true → read_plan p ≡ got x → undo x h ≡ back y →
    out_need ≤ length o →
    (undo_values p h o ≡ refusal.values 0 0 (length (stored y))) × (undo_out p h o ≡ at_front (stored y) o)
undone_back_lem p h o x y w e u room =
    let v : is_well y ≡ true = undo_keeps x y h w u in
    let t : plan_undone (encode x) h ≡ results.result refusal.fine y =
    cond_true (fits (encode x)) _ _ (fits_encode x w) ∙
    ap (λ (q : model.Table). undone_by (encode x) (undo q h)) (decode_encode x w) ∙ ap (undone_by (encode x)) u in (
      values_then p o x e room (λ q. finished_values (plan_undone q.table h) 2 o) ∙ ap (λ (r : TableResult). finished_values r 2 o) t ∙
          written_values_lem y v o room,
      out_then p o x e room (λ q. finished_out (plan_undone q.table h) o) ∙ ap (λ (r : TableResult). finished_out r o) t ∙
          well_out y v o room,
    )

pub undone_back : UndoneBack
undone_back p h o x y b e = undone_back_lem p h o x y (stored_back.1 p x b e).0 e

-- THE CALL once the plan is read
called_on : (p s a h w o d : List ℕ) (x : model.Table) → read_plan p ≡ got x → LentFits a h w o d →
    run_called p s a h w o d ≡ ran_call (result_of (encode x) (ran (encode x) s a h w)) (ran (encode x) s a h w) o d
called_on p s a h w o d x e long = called p s a h w o d _ refl long (library.read_by (got x)) (sym (ap library.read_by e))

-- the call, from what the run comes to
call_of : (p s a h w o d : List ℕ) (x : model.Table) (t : Out) → is_well x ≡ true → read_plan p ≡ got x → run_by x (read_script s) ≡ t →
    LentFits a h w o d →
    run_called p s a h w o d ≡
    ran_call (result_of (encode x) (ran_by x (length a) (length h) (length w) t)) (ran_by x (length a) (length h) (length w) t) o d
call_of p s a h w o d x t well e g ok =
    let left : ran (encode x) s a h w ≡ ran_by x (length a) (length h) (length w) t =
    cond_true (areas_fit a h w) _ _ (long_enough (length a) (length h) (length w) (length o) (length d) ok).0 ∙
    ap (λ (y : model.Table). ran_by y (length a) (length h) (length w) (outcome_of (encode x) s)) (decode_encode x well) ∙
    ap (ran_by x (length a) (length h) (length w)) (outcome_well x well s ∙ g) in
    called_on p s a h w o d x e ok ∙ ap (λ (l : Ran). ran_call (result_of (encode x) l) l o d) left

-- a run that is refused
refused_called : (x : model.Table) (a h w : List ℕ) (f : refusal.Refusal) (o d : List ℕ) → is_of_call f.number ≡ true →
    ran_call (result_of (encode x) (ran_by x (length a) (length h) (length w) (refused f)))
    (ran_by x (length a) (length h) (length w) (refused f))
    o d ≡
    refused_call (refusal.values f.number 2 f.place) a h w o d
refused_called x a h w f o d k = rw (ne_eqb f.number 0 (is_of_call_some f.number k))

-- done: the areas, and the plan and the history that are left
module _ (p s a h w o d : List ℕ) (x : model.Table) (well : is_well x ≡ true) (read : read_plan p ≡ got x)
    (ok : LentFits a h w o d) where
  module _ (bytes : are_bytes s ≡ true) (v : List ℕ) (t : State) (ends : run_by x (read_script s) ≡ gives v t) where
    pub run_done_lem : run_called p s a h w o d ≡ ended_call v t a h w o d
    run_done_lem =
        let after : is_well t.plan ≡ true = (run_by_back x s bytes well v t ends).0 in
        let room = (long_enough (length a) (length h) (length w) (length o) (length d) ok).1 in
        let L = ran_by x (length a) (length h) (length w) (gives v t) in
        call_of p s a h w o d x (gives v t) well read ends ok ∙
        (λ i. record {
          values = refusal.values (well_written t.plan after o room i).refusal.number 0 0;
          answer = L.answer;
          history = L.history;
          work = L.work;
          out = well_out t.plan after o room i;
          done = done_over L.items L.made L.cut L.records L.bytes (well_written t.plan after o room i).bytes d;
        })

    pub plan_left_lem : plan_left (run_called p s a h w o d) ≡ stored t.plan
    plan_left_lem = ap plan_left run_done_lem ∙ take_at (stored t.plan) _ (length (stored t.plan)) refl

    pub history_left_lem : history_left (run_called p s a h w o d) ≡ history_bytes t.history
    history_left_lem = ap history_left run_done_lem ∙ take_at (history_bytes t.history) _ (length (history_bytes t.history)) refl

  -- refused: a number other than 0
  pub run_refused_lem : (f : refusal.Refusal) → run_by x (read_script s) ≡ refused f →
      run_called p s a h w o d ≡ refused_call (refusal.values f.number 2 f.place) a h w o d
  run_refused_lem f ran =
      call_of p s a h w o d x (refused f) well read ran ok ∙
      refused_called x a h w f o d (run_refuses x s f ran)

  -- answered 0: the run has ended
  pub call_ends : code_of (run_called p s a h w o d).values ≡ 0 → (v : List ℕ) × ((t : State) × (run_by x (read_script s) ≡ gives v t))
  call_ends answers = go (run_by x (read_script s)) refl
    where
      go : (q : Out) → run_by x (read_script s) ≡ q → (v : List ℕ) × ((t : State) × (run_by x (read_script s) ≡ gives v t))
      go (refused f) g =
          let c : code_of (refusal.values f.number 2 f.place) ≡ 0 =
          sym (ap (λ (q : Called). code_of q.values) (run_refused_lem f g)) ∙ answers in
          absurd (omega arith)
      go (gives v t) g = (v, (t, g))

pub run_done : RunDone
run_done p s a h w o d x v t b c e g ok = run_done_lem p s a h w o d x (stored_back.1 p x b e).0 e ok c v t g

pub run_refused : RunRefused
run_refused p s a h w o d x f b e g ok = run_refused_lem p s a h w o d x (stored_back.1 p x b e).0 e ok f g

pub run_area_short : RunAreaShort
run_area_short p s a h w o d = cond_false _ _ (untouched_call a h w o d)

pub plan_refused : PlanRefused
plan_refused p s a h w o d f e long =
    called p s a h w o d _ refl long (library.read_by (refused f)) (sym (ap library.read_by e)) ∙
    cond_ne _ _ (is_in_some 0 6 f.number (refused_by_table.0 p f e))

-- THE TWO CALLS of the library, in either order
pub free_runs_commute : FreeRunsCommute
free_runs_commute b c t k k' l l' bytes bytes' s = runs_commute b c t k k' l l' bytes bytes' (free_told b c s)
