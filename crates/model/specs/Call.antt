-- The calls on what callers see: bytes, a table and lent areas.
use Rattle.std.specs.Prelude.{◌≡◌, Bool, true, false, ◌&&◌, ◌||◌, cond, List, ◌++◌, ℕ, ◌-◌, ◌≤◌, leb, length, take, replicate}
use Rattle.model.specs.Base.{is_in, are_bytes}
use Rattle.model.specs.Limits.{answer_need, history_need, work_need}
use Rattle.model.specs.Refusal.{Refusal, fine, is_fine, link_at, lent_short, is_of_run}
use Rattle.model.specs.Table.{Table, count, is_well}
use Rattle.model.specs.Script.{Expr, Parsed, refused, parsed, read_script}
use Rattle.model.specs.History.{Record, is_made, is_cut, times, history_bytes, replay_all}
use Rattle.model.specs.Run.{Out, refused, gives, run_on}
use Rattle.model.specs.Meeting.{Answer, free, answer}
use Rattle.model.specs.Promise.{matched_all, matched_history, PlansEqual}
use Rattle.model.specs.Stored.{refused, read_plan}
use Rattle.model.specs.Undo.{refused, undo}

-- ANALYSIS of two scripts' bytes: the first refused one, 1 or 2, with its refusal, or the answer
pub data Analysis : Type 0 where
  refused_by : (script : ℕ) → Refusal → Analysis
  answered : Answer → Analysis

-- the second script, read once the first is accepted
abbrev pub second_by : Expr → Parsed → Analysis
second_by e (refused x) = refused_by 2 x
second_by e (parsed f i n b) = answered (answer e f)

-- The analysis reads the first script, then the second, and says which is refused
abbrev pub first_by : Parsed → Parsed → Analysis
first_by (refused x) q = refused_by 1 x
first_by (parsed e i n b) q = second_by e q

-- of two scripts as bytes
abbrev pub analyse : (first second : List ℕ) → Analysis
analyse b c = first_by (read_script b) (read_script c)

-- A RUN of a script's bytes: the script's own refusal, or the run
abbrev pub run_by : Table → Parsed → Out
run_by x (refused f) = refused f
run_by x (parsed e i n b) = run_on x e

-- what a run gives back, the tally with it, and leaves in the lent areas
pub record Ran : Type 0 where
  pub refusal : Refusal
  pub plan : Table
  pub items : ℕ
  pub made : ℕ
  pub cut : ℕ
  pub records : ℕ
  pub bytes : ℕ
  pub answer : List ℕ
  pub history : List ℕ
  pub work : List ℕ

-- Areas past the lengths given back are zero
abbrev pub filled : (size : ℕ) → List ℕ → List ℕ
filled n xs = xs ++ replicate (n - length xs) 0

-- refused: the table as it was, and the areas as given here
abbrev pub refused_run : Refusal → Table → (answer history work : List ℕ) → Ran
refused_run f x a h w =
    record {
      refusal = f;
      plan = x;
      items = 0;
      made = 0;
      cut = 0;
      records = 0;
      bytes = 0;
      answer = a;
      history = h;
      work = w;
    }

-- A refused run restores the table and zeroes answer and history; all of the work area is zero
abbrev pub ran_by : Table → (answer history work : ℕ) → Out → Ran
ran_by x a h w (refused f) = refused_run f x (replicate a 0) (replicate h 0) (replicate w 0)
ran_by x a h w (gives v s) =
    record {
      refusal = fine;
      plan = s.plan;
      items = length v;
      made = times is_made s.history;
      cut = times is_cut s.history;
      records = length s.history;
      bytes = length (history_bytes s.history);
      answer = filled a v;
      history = filled h (history_bytes s.history);
      work = replicate w 0;
    }

-- each lent area is as long as its stated need
abbrev pub lengths_fit : (answer history work : ℕ) → Bool
lengths_fit a h w = leb answer_need a && leb history_need h && leb work_need w

-- of the areas
abbrev pub areas_fit : (answer history work : List ℕ) → Bool
areas_fit a h w = lengths_fit (length a) (length h) (length w)

-- 11 first, at place 0, and nothing touched; else what a run that came to this outcome leaves
abbrev pub in_areas : Table → (answer history work : List ℕ) → Out → Ran
in_areas x a h w o = cond (areas_fit a h w) (ran_by x (length a) (length h) (length w) o) (refused_run lent_short x a h w)

-- then 6 at place 0; then the script's own refusal; then the run's
abbrev pub run_call : Table → (script answer history work : List ℕ) → Ran
run_call x b a h w = in_areas x a h w (cond (is_well x) (run_by x (read_script b)) (refused (link_at 0)))

-- the run of whatever script on a table handed in ill formed
abbrev pub unfit_run : Table → (answer history work : List ℕ) → Ran
unfit_run x a h w = in_areas x a h w (refused (link_at 0))

-- REQUEST (h), the tally and the bytes that a run tells of: at most 512 rows made and 512 links cut, 1,024 records of 5,632 bytes
abbrev pub TallyFits : Ran → Type 0
TallyFits r = (r.made ≤ 512) × (r.cut ≤ 512) × (r.records ≤ 1024) × (r.bytes ≤ 5632)

-- of the call, whatever it is given
abbrev pub CallFits : Type 0
CallFits = (x : Table) (b a h w : List ℕ) → TallyFits (run_call x b a h w)

-- in areas long enough a call of a run is refused with 1 to 6, or with a run's own number
abbrev pub is_of_call : (number : ℕ) → Bool
is_of_call n = is_in 1 6 n || is_of_run n

-- DEMAND 1: a refusal has a number of the table: of a plan and of a history 1 to 6, of a script 1 to 5, of a run 7, 8 or 10
abbrev pub RefusedByTable : Type 0
RefusedByTable =
    ((b : List ℕ) (f : Refusal) → read_plan b ≡ refused f → is_in 1 6 f.number ≡ true) ×
    ((b : List ℕ) (f : Refusal) → read_script b ≡ refused f → is_in 1 5 f.number ≡ true) ×
    ((x : Table) (b : List ℕ) (f : Refusal) → undo x b ≡ refused f → is_in 1 6 f.number ≡ true) ×
    ((x : Table) (e : Expr) (f : Refusal) → run_on x e ≡ refused f → is_of_run f.number ≡ true)

-- and on the call: a refused run leaves the table as it was
abbrev pub RefusedKeeps : Type 0
RefusedKeeps =
    (x : Table) (b a h w : List ℕ) → is_fine (run_call x b a h w).refusal ≡ false → (run_call x b a h w).plan ≡ x

-- DEMAND 3 on the calls: both calls of an order are not refused
abbrev pub calls_end : (first second : Ran) → Bool
calls_end r s = is_fine r.refusal && is_fine s.refusal

-- a script's answer and history in one order and in the other, run on x and on y, under the matching: item for item, record for record;
-- the records are those that the history area holds, as many as the tally says, and replaying them on the table before gives that after
abbrev pub CallsMatch : (n a b : ℕ) → (x y : Table) → (one two : Ran) → Type 0
CallsMatch n a b x y r s =
    (s.items ≡ r.items) × (s.made ≡ r.made) × (s.cut ≡ r.cut) × (s.records ≡ r.records) ×
    (take s.items s.answer ≡ matched_all n a b (take r.items r.answer)) ×
    ((rs : List Record) ×
    ((length rs ≡ r.records) × (take r.bytes r.history ≡ history_bytes rs) × (replay_all x rs ≡ r.plan) ×
    (take s.bytes s.history ≡ history_bytes (matched_history n a b rs)) × (replay_all y (matched_history n a b rs) ≡ s.plan)))

-- four results: first and second call of one order, first and second call of the other
abbrev pub CallsEqual : Table → (one oneThen two twoThen : Ran) → Type 0
CallsEqual x r r' s s' =
    CallsMatch (count x) (count r.plan - count x) (count s.plan - count x) x s.plan r s' ×
    CallsMatch (count x) (count r.plan - count x) (count s.plan - count x) r.plan x r' s ×
    PlansEqual (count x) (count r.plan - count x) (count s.plan - count x) r'.plan s'.plan

-- one order ends without refusal exactly when the other does, and then they are equal
abbrev pub OrdersAgree : Table → (one oneThen two twoThen : Ran) → Type 0
OrdersAgree x r r' s s' = (calls_end r r' ≡ calls_end s s') × (calls_end r r' ≡ true → CallsEqual x r r' s s')

-- the areas lent to one run, whatever they hold
pub record Areas : Type 0 where
  pub answer : List ℕ
  pub history : List ℕ
  pub work : List ℕ

-- a run in them
abbrev pub run_in : Table → (script : List ℕ) → Areas → Ran
run_in x b k = run_call x b k.answer k.history k.work

-- each is as long as its stated need
abbrev pub Suffices : Areas → Type 0
Suffices k = areas_fit k.answer k.history k.work ≡ true

-- of the areas of four calls: first and second call of one order, first and second call of the other
abbrev pub AllSuffice : (one oneThen two twoThen : Areas) → Type 0
AllSuffice k k' l l' = Suffices k × Suffices k' × Suffices l × Suffices l'

-- both orders of two scripts' calls, the second on the table as the first left it
abbrev pub EitherOrder : (first second : List ℕ) → Table → (one oneThen two twoThen : Areas) → Type 0
EitherOrder b c x k k' l l' =
    OrdersAgree x (run_in x b k) (run_in (run_in x b k).plan c k') (run_in x c l) (run_in (run_in x c l).plan b l')

-- two scripts that the analysis calls free, a well-formed table, and for each of the four calls areas of the stated lengths, with any
-- contents: so one set may be lent again and again
abbrev pub CallsCommute : Type 0
CallsCommute =
    (b c : List ℕ) (x : Table) (k k' l l' : Areas) → are_bytes b ≡ true → are_bytes c ≡ true → analyse b c ≡ answered free →
    is_well x ≡ true → AllSuffice k k' l l' → EitherOrder b c x k k' l l'
