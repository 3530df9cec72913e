-- What the C calls leave, in the model's own words: the plan is read, and what is written is the stored form of the table that the rules
-- give. That what they answer decodes. At the end demand 3, of the library's `analyse` and `run` and of the C calls. Each promise is a
-- type; a term of it in proofs/ is its proof.
use Rattle.std.specs.Prelude.{◌≡◌, true, false, List, ◌↔◌, ℕ, ◌≤◌, ◌<◌, length, get_or, take, replicate}
use Rattle.model.specs.Base.{are_bytes, at_front, is_in}
use Rattle.model.specs.Call.{Areas, AllSuffice, filled, run_by, Ran, CallsEqual}
use Rattle.model.specs.History.{is_made, is_cut, times, history_bytes}
use Rattle.model.specs.Refusal.{Refusal, fine, is_listed, Values, values}
use Rattle.model.specs.Run.{State, gives, refused}
use Rattle.model.specs.Script.{read_script}
use Rattle.model.specs.Stored.{stored, refused, got, read_plan}
use Rattle.model.specs.Sweep.{swept}
use Rattle.model.specs.Table.{Table}
use Rattle.model.specs.Undo.{back, undo}
use Rattle.yegnabit.specs.Calls.{plan_values, plan_out, sweep_values, sweep_out, undo_values, undo_out, analyse_values}
use Rattle.c_codes.specs.Codes.{place_limit, code_of, decoded}
use Rattle.yegnabit.specs.Running.{Called, untouched_call, refused_call, run_called}
use Rattle.c_lent.specs.Done.{out_need, lent_fit, done_over}
use Rattle.c_probe.specs.Probes.{write_values, swept_values, script_values}
use Rattle.paths.specs.Analysis.{analysed, values_of}
use Rattle.run.specs.Promise.{EitherRun}
use Rattle.plan_table.specs.Packed.{fits}
use Rattle.plan_table.specs.declared.Table as declared

-- READ AND WRITTEN BACK: the bytes that were read
abbrev pub PlanBack : Type 0
PlanBack =
    (p o : List ℕ) (x : Table) → are_bytes p ≡ true → read_plan p ≡ got x → out_need ≤ length o →
    (plan_values p o ≡ values 0 0 (length p)) × (plan_out p o ≡ at_front p o)

-- SWEPT
abbrev pub SweptBack : Type 0
SweptBack =
    (p o : List ℕ) (x : Table) → are_bytes p ≡ true → read_plan p ≡ got x → out_need ≤ length o →
    (sweep_values p o ≡ values 0 0 (length (stored (swept x)))) × (sweep_out p o ≡ at_front (stored (swept x)) o)

-- UNDONE
abbrev pub UndoneBack : Type 0
UndoneBack =
    (p h o : List ℕ) (x y : Table) → are_bytes p ≡ true → read_plan p ≡ got x → undo x h ≡ back y → out_need ≤ length o →
    (undo_values p h o ≡ values 0 0 (length (stored y))) × (undo_out p h o ≡ at_front (stored y) o)

-- RUN: the answer and the history at the front of their areas, the rest and all of the work area zero; the plan as it then is; six numbers
abbrev pub ended_call : (value : List ℕ) → State → (answer history work out done : List ℕ) → Called
ended_call v t a h w o d =
    record {
      values = values 0 0 0;
      answer = filled (length a) v;
      history = filled (length h) (history_bytes t.history);
      work = replicate (length w) 0;
      out = at_front (stored t.plan) o;
      done = done_over (length v) (times is_made t.history) (times is_cut t.history) (length t.history)
          (length (history_bytes t.history)) (length (stored t.plan)) d;
    }

-- no area is too short
abbrev pub LentFits : (answer history work out done : List ℕ) → Type 0
LentFits a h w o d = lent_fit (length a) (length h) (length w) (length o) (length d) ≡ true

-- a run that ends
abbrev pub RunDone : Type 0
RunDone =
    (p s a h w o d : List ℕ) (x : Table) (v : List ℕ) (t : State) → are_bytes p ≡ true → are_bytes s ≡ true → read_plan p ≡ got x →
    run_by x (read_script s) ≡ gives v t → LentFits a h w o d → run_called p s a h w o d ≡ ended_call v t a h w o d

-- refused by the script's reader or by the run: answer, history and work are zero, out is as it was, the six numbers are zero
abbrev pub RunRefused : Type 0
RunRefused =
    (p s a h w o d : List ℕ) (x : Table) (f : Refusal) → are_bytes p ≡ true → read_plan p ≡ got x → run_by x (read_script s) ≡ refused f →
    LentFits a h w o d → run_called p s a h w o d ≡ refused_call (values f.number 2 f.place) a h w o d

-- refused since the plan is, whatever the script: the areas are left the same way
abbrev pub PlanRefused : Type 0
PlanRefused =
    (p s a h w o d : List ℕ) (f : Refusal) → read_plan p ≡ refused f → LentFits a h w o d →
    run_called p s a h w o d ≡ refused_call (values f.number 1 f.place) a h w o d

-- refused since one of the five areas is too short, whatever the plan and the script: 11 at place 0, and nothing is touched
abbrev pub RunAreaShort : Type 0
RunAreaShort =
    (p s a h w o d : List ℕ) → lent_fit (length a) (length h) (length w) (length o) (length d) ≡ false →
    run_called p s a h w o d ≡ untouched_call a h w o d

-- ANSWERS DECODE: from the 64 bits that a call answers a caller gets back the refusal's number, which, and a place below 2^48; the number
-- is 0 or one of the table's, and which is 0, 1 or 2
abbrev pub Decodes : Values → Type 0
Decodes v =
    ((decoded (code_of v)).number ≡ v.number) × ((decoded (code_of v)).which ≡ v.which) ×
    (v.place < place_limit → (decoded (code_of v)).place ≡ v.place) × (is_listed v.number ≡ true) ×
    (is_in 0 2 v.which ≡ true)

-- of every call: the five of the header, and the three for tests alone
abbrev pub AnswersDecode : Type 0
AnswersDecode =
    ((p o : List ℕ) → Decodes (plan_values p o)) × ((p o : List ℕ) → Decodes (sweep_values p o)) ×
    ((p h o : List ℕ) → Decodes (undo_values p h o)) × ((p s a h w o d : List ℕ) → Decodes (run_called p s a h w o d).values) ×
    ((b c : List ℕ) → Decodes (analyse_values b c)) × ((n : ℕ) (ws ms o : List ℕ) → Decodes (write_values n ws ms o)) ×
    ((n : ℕ) (ws ms : List ℕ) → Decodes (swept_values n ws ms)) × ((b : List ℕ) → Decodes (script_values b))

-- RUN AND TAKEN BACK: the plan and the history that a run's call left, as long as its six numbers say; undone, the plan comes back
abbrev pub plan_left : Called → List ℕ
plan_left c = take (get_or c.done 5 0) c.out

-- and the history
abbrev pub history_left : Called → List ℕ
history_left c = take (get_or c.done 4 0) c.history

-- a run's call that answers 0, taken back by the undo call on what it left
abbrev pub RunUndone : Type 0
RunUndone =
    (p s a h w o d o' : List ℕ) → are_bytes p ≡ true → are_bytes s ≡ true → code_of (run_called p s a h w o d).values ≡ 0 →
    out_need ≤ length o' →
    (undo_values (plan_left (run_called p s a h w o d)) (history_left (run_called p s a h w o d)) o' ≡ values 0 0 (length p)) ×
    (undo_out (plan_left (run_called p s a h w o d)) (history_left (run_called p s a h w o d)) o' ≡ at_front p o')

-- DEMAND 3 on the library's calls: two scripts that `analyse` calls free, 0, run by `run` in either order, each of the four runs in areas
-- of its own
abbrev pub FreeRunsCommute : Type 0
FreeRunsCommute =
    (b c : List ℕ) (t : declared.Table) (k k' l l' : Areas) → are_bytes b ≡ true → are_bytes c ≡ true →
    values_of (analysed b c) ≡ values 0 0 0 → fits t ≡ true → AllSuffice k k' l l' → EitherRun b c t k k' l l'

-- AND THROUGH C: the areas lent to one call of yegnabit_run, whatever they hold
pub record Lent : Type 0 where
  pub answer : List ℕ
  pub history : List ℕ
  pub work : List ℕ
  pub out : List ℕ
  pub done : List ℕ

-- a script's run on a plan in them
abbrev pub called_in : (plan script : List ℕ) → Lent → Called
called_in p s k = run_called p s k.answer k.history k.work k.out k.done

-- none is too short
abbrev pub IsLong : Lent → Type 0
IsLong k = LentFits k.answer k.history k.work k.out k.done

-- both calls of an order answer 0
abbrev pub BothAnswer : (one oneThen : Called) → Type 0
BothAnswer r r' = (code_of r.values ≡ 0) × (code_of r'.values ≡ 0)

-- what a call that answered 0 tells of its run: the numbers of done, the areas, and the table that its plan is read as
abbrev pub told : Called → Table → Ran
told c y =
    record {
      refusal = fine;
      plan = y;
      items = get_or c.done 0 0;
      made = get_or c.done 1 0;
      cut = get_or c.done 2 0;
      records = get_or c.done 3 0;
      bytes = get_or c.done 4 0;
      answer = c.answer;
      history = c.history;
      work = c.work;
    }

-- the plans that the calls of both orders left are read, and what the calls tell is equal once new rows are matched
abbrev pub CalledEqual : Table → (one oneThen two twoThen : Called) → Type 0
CalledEqual x r r' s s' =
    (y : Table) × ((y' : Table) × ((z : Table) × ((z' : Table) ×
    ((read_plan (plan_left r) ≡ got y) × (read_plan (plan_left r') ≡ got y') × (read_plan (plan_left s) ≡ got z) ×
    (read_plan (plan_left s') ≡ got z') × CallsEqual x (told r y) (told r' y') (told s z) (told s' z')))))

-- both calls of an order answer 0 exactly when both of the other do, and are then equal
abbrev pub CalledAgree : Table → (one oneThen two twoThen : Called) → Type 0
CalledAgree x r r' s s' = (BothAnswer r r' ↔ BothAnswer s s') × (BothAnswer r r' → CalledEqual x r r' s s')

-- two scripts that yegnabit_analyse calls free, 0, each of the four calls in areas of its own, the second of an order on the plan that the
-- first left in out
abbrev pub FreeCallsCommute : Type 0
FreeCallsCommute =
    (p b c : List ℕ) (x : Table) (k k' l l' : Lent) → are_bytes p ≡ true → are_bytes b ≡ true → are_bytes c ≡ true →
    read_plan p ≡ got x → IsLong k × IsLong k' × IsLong l × IsLong l' → code_of (analyse_values b c) ≡ 0 →
    CalledAgree x (called_in p b k) (called_in (plan_left (called_in p b k)) c k') (called_in p c l)
    (called_in (plan_left (called_in p c l)) b l')
