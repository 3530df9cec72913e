-- What the C calls answer decodes, and its number is 0 or one of the table's: AnswersDecode.
use mathlib.Core.Path.{◌≡◌, refl, ap}
use mathlib.Core.Bool.{Bool, true, false}
use mathlib.Core.List.{List}
use Prim.Native.Nat.{ℕ, ◌≤◌, ◌<◌}
use native.Mathlib.Omega.{arith}
use lib.Dec.{eqb, leb, ltb}
use lib.ListN.{length}
use Rattle.model.specs.Base.{is_in}
use Rattle.model.specs.Call.{areas_fit, first_by}
use Rattle.model.specs.Refusal.{Values, link_at}
use Rattle.model.specs.Refusal as refusal
use Rattle.model.specs.Script.{Parsed, refused, parsed, read_script, refusal_by}
use Rattle.model.specs.Meeting.{Answer, free, upward, meet, answer}
use Rattle.model.specs.Stored.{Read, refused, got, read_plan}
use Rattle.model.specs.Undo.{Undo, refused, back, undo}
use Rattle.model.proofs.BoolLaws.{by_cases, eq_cases, cond_cases}
use Rattle.model.proofs.RefusedByTable.{refused_by_table}
use Rattle.model.proofs.RefusalLaws.{is_listed_low, is_listed_high}
use Rattle.model.proofs.TestLaws.{is_in_at, is_in_by}
use Rattle.plan_table.specs.Results.{refusal_of}
use Rattle.plan_table.specs.Packed.{fits, decode, table_of}
use Rattle.model.specs.Refusal.{Refusal}
use Rattle.plan_table.specs.declared.Table.{Table}
use Rattle.plan_table.specs.Results.{TableResult}
use Rattle.plan.specs.Calls.{read_by, plan_read}
use Rattle.plan_writer.specs.Writing.{plan_written}
use Rattle.plan_sweep.specs.Sweeping.{plan_swept}
use Rattle.run_undo.specs.Undoing.{plan_undone, undone_by}
use Rattle.paths.specs.Analysis.{analysis_of, by_answer, values_of}
use Rattle.run.specs.Calls.{run_result}
use Rattle.run.proofs.OutcomeLaws.{is_of_call_listed}
use Rattle.run.proofs.Promised.{refused_leaves}
use Rattle.c_codes.proofs.DecodeLaws.{number_back, which_back, place_back}
use Rattle.c_codes.specs.Codes.{lent_values, values_unless, written_values, finished_values}
use Rattle.yegnabit.specs.Calls.{on_plan, plan_values, sweep_values, undo_values, analyse_values}
use Rattle.yegnabit.specs.Running.{Called, run_called}
use Rattle.script.specs.Reading.{script_read}
use Rattle.c_probe.specs.Raw.{is_given}
use Rattle.c_probe.specs.Probes.{write_values, swept_values, script_values}
use Rattle.c_lent.specs.Done.{out_need, lent_fit}
use Rattle.c_promises.specs.Promise.{Decodes, AnswersDecode}

-- A KNOWN ANSWER: a number of the table or 0, and a small which
record Known (v : Values) : Type 0 where
  number : refusal.is_listed v.number ≡ true
  which : v.which ≤ 2

decodes : (v : Values) → Known v → Decodes v
decodes v k =
    let n : v.number < 256 = omega (arith, is_listed_high v.number k.number) in
    let w : v.which < 256 = omega (arith, k.which) in (
      number_back v n w,
      which_back v n w,
      place_back v n w,
      k.number,
      is_in_by 0 2 v.which (omega arith) k.which,
    )

lent_known : Known lent_values
lent_known = record { number = refl; which = omega arith }

-- a number from 1 on that is not above 8
listed_in : (high n : ℕ) → is_in 1 high n ≡ true → high ≤ 8 → refusal.is_listed n ≡ true
listed_in h n e l = is_listed_low n (let k = is_in_at 1 h n e in omega arith)

-- a refusal with a number of the table, or none
abbrev Listed : Refusal → Type 0
Listed f = refusal.is_listed f.number ≡ true

known_unless : (f : Refusal) (w : ℕ) (v : Values) → Listed f → w ≤ 2 → Known v → Known (values_unless f w v)
known_unless f w v l h k = cond_cases Known (eqb f.number 0) (λ _. k) (λ _. record { number = l; which = h })

written_known : (t : Table) (o : List ℕ) → Known (written_values (plan_written t o))
written_known t o = record { number = go (fits t) (leb _ (length o)); which = omega arith }
  where
    go : (a b : Bool) →
        refusal.is_listed (refusal.or_else (refusal.unless a (link_at 0)) (refusal.unless b refusal.lent_short)).number ≡ true
    go true true = refl
    go true false = refl
    go false b = refl

-- THE CALLS ON A PLAN
read_listed : (p : List ℕ) → Listed (plan_read p).refusal
read_listed p = go (read_plan p) refl
  where
    go : (q : Read) → read_plan p ≡ q → Listed (read_by q).refusal
    go (refused f) e = listed_in 6 f.number (refused_by_table.0 p f e) (omega arith)
    go (got x) e = refl

swept_listed : (t : Table) → Listed (plan_swept t).refusal
swept_listed t = cond_cases (λ (r : TableResult). Listed r.refusal) (fits t) (λ _. refl) (λ _. refl)

undone_listed : (t : Table) (h : List ℕ) → Listed (plan_undone t h).refusal
undone_listed t h = cond_cases (λ (r : TableResult). Listed r.refusal) (fits t) (λ _. go (undo (decode t) h) refl) (λ _. refl)
  where
    go : (q : Undo) → undo (decode t) h ≡ q → Listed (undone_by t q).refusal
    go (refused f) e = listed_in 6 f.number (refused_by_table.2 (decode t) h f e) (omega arith)
    go (back x) e = refl

-- out too short, the plan refused, or the rest
plan_known : (p o : List ℕ) (v : Values) → Known v → Known (on_plan p o v)
plan_known p o v k =
    cond_cases Known (ltb (length o) out_need) (λ _. lent_known)
    (λ _. known_unless (plan_read p).refusal 1 v (read_listed p) (omega arith) k)

finished_known : (r : TableResult) (w : ℕ) (o : List ℕ) → Listed r.refusal → w ≤ 2 → Known (finished_values r w o)
finished_known r w o l h = known_unless r.refusal w _ l h (written_known r.table o)

-- THE RUN
ran_listed : (t : Table) (s a h w : List ℕ) → Listed (run_result t s a h w).refusal
ran_listed t s a h w =
    by_cases (areas_fit a h w)
    (λ e. eq_cases (run_result t s a h w).refusal.number 0 (λ z. ap refusal.is_listed z)
    (λ z. is_of_call_listed (run_result t s a h w).refusal.number ((refused_leaves t s a h w).1 e z).0))
    (λ e. ap (λ (f : Refusal). refusal.is_listed f.number) ((refused_leaves t s a h w).0 e).0)

run_known : (p s a h w o d : List ℕ) → Known (run_called p s a h w o d).values
run_known p s a h w o d =
    cond_cases (λ (c : Called). Known c.values) (lent_fit (length a) (length h) (length w) (length o) (length d))
    (λ _. cond_cases (λ (c : Called). Known c.values) (eqb (plan_read p).refusal.number 0)
    (λ _. known_unless (run_result (plan_read p).table s a h w).refusal 2 _ (ran_listed (plan_read p).table s a h w) (omega arith)
    (record {
      number = (written_known (run_result (plan_read p).table s a h w).table o).number;
      which = omega arith;
    }))
    (λ _. record { number = read_listed p; which = omega arith }))
    (λ _. lent_known)

-- THE ANALYSIS
analysis_known : (b c : List ℕ) → Known (analyse_values b c)
analysis_known b c = go (read_script b) (read_script c) refl refl
  where
    said : (a : Answer) → Known (values_of (by_answer a))
    said free = record { number = refl; which = omega arith }
    said upward = record { number = refl; which = omega arith }
    said meet = record { number = refl; which = omega arith }

    go : (q r : Parsed) → read_script b ≡ q → read_script c ≡ r → Known (values_of (analysis_of (first_by q r)))
    go (refused f) r e g =
        record { number = listed_in 5 f.number (refused_by_table.1 b f e) (omega arith); which = omega arith }
    go (parsed x i n l) (refused f) e g =
        record { number = listed_in 5 f.number (refused_by_table.1 c f g) (omega arith); which = omega arith }
    go (parsed x i n l) (parsed y j m k) e g = said (answer x y)

-- THE CALLS FOR TESTS: a table given as packed rows is written, or swept
write_known : (n : ℕ) (ws ms o : List ℕ) → Known (write_values n ws ms o)
write_known n ws ms o =
    cond_cases Known (is_given ws ms)
    (λ _. cond_cases Known (eqb (plan_written (table_of n ws ms) o).refusal.number 6)
    (λ _. record { number = refl; which = omega arith })
    (λ _. written_known (table_of n ws ms) o))
    (λ _. lent_known)

swept_known : (n : ℕ) (ws ms : List ℕ) → Known (swept_values n ws ms)
swept_known n ws ms =
    cond_cases Known (is_given ws ms)
    (λ _. cond_cases Known (eqb (plan_swept (table_of n ws ms)).refusal.number 0)
    (λ _. record { number = refl; which = omega arith })
    (λ _. record { number = swept_listed (table_of n ws ms); which = omega arith }))
    (λ _. lent_known)

-- a script is read
script_known : (b : List ℕ) → Known (script_values b)
script_known b =
    known_unless (script_read b) 2 _ (go (read_script b) refl) (omega arith) (record { number = refl; which = omega arith })
  where
    go : (q : Parsed) → read_script b ≡ q → Listed (refusal_of (refusal_by q))
    go (refused f) e = listed_in 5 f.number (refused_by_table.1 b f e) (omega arith)
    go (parsed x i n l) e = refl

pub answers_decode : AnswersDecode
answers_decode = (
  λ p o. decodes (plan_values p o) (plan_known p o _ (written_known (plan_read p).table o)),
  λ p o.
      decodes (sweep_values p o)
      (plan_known p o _ (finished_known (plan_swept (plan_read p).table) 1 o (swept_listed (plan_read p).table) (omega arith))),
  λ p h o.
      decodes (undo_values p h o)
      (plan_known p o _ (finished_known (plan_undone (plan_read p).table h) 2 o (undone_listed (plan_read p).table h) (omega arith))),
  λ p s a h w o d. decodes (run_called p s a h w o d).values (run_known p s a h w o d),
  λ b c. decodes (analyse_values b c) (analysis_known b c),
  λ n ws ms o. decodes (write_values n ws ms o) (write_known n ws ms o),
  λ n ws ms. decodes (swept_values n ws ms) (swept_known n ws ms),
  λ b. decodes (script_values b) (script_known b),
)
