-- The public run: from the check's answer, the reader's and the evaluator's to what the call owes.
use mathlib.Core.Path.{◌≡◌, refl, ap, sym, subst, ◌∙◌}
use mathlib.Core.Bool.{true, false}
use mathlib.Core.List.{List, [], ◌++◌}
use Prim.Native.Nat.{ℕ, zero, suc, ◌-◌, ◌≤◌}
use native.Mathlib.Omega.{arith}
use lib.Dec.{leb}
use lib.ListN.{length, take, drop, replicate, length-replicate, take-append-drop}
use lib.Seq.{length-take-le}
use borrow.Author.Tests.{le-leb, leb-true}
use Rattle.model.specs.Base.{at_front, nothing}
use Rattle.model.specs.Refusal as refusal
use Rattle.model.specs.Script.{read_script}
use Rattle.model.specs.History.{Record, is_made, is_cut, times, history_bytes}
use Rattle.model.specs.Run.{Out, refused, gives, run}
use Rattle.model.specs.Call.{Ran, filled, areas_fit, ran_by, refused_run, run_by}
use Rattle.model.proofs.BoolLaws.{cond_true, cond_false, and_both, cond_eq, cond_ne}
use Rattle.model.proofs.TestLaws.{and_three}
use Rattle.model.proofs.HistoryLaws.{made_or_cut}
use Rattle.model.specs.Limits.{max_depth, max_rows, answer_need, max_binders, max_items, documents, history_need, work_need}
use Rattle.script_records.specs.Walk.{end_at, expr_at}
use Rattle.script.specs.Reading.{script_read}
use Rattle.script.proofs.ScriptLaws.{script_accepted, script_parsed, read_refused}
use Rattle.plan_table.specs.Packed.{encode, decode, decode_parts, table_of, fits}
use Rattle.plan_table.specs.declared.Table.{Table}
use Rattle.plan_table.proofs.PackedLaws.{encode_decode}
use Rattle.plan_table.proofs.FittedLaws.{Fits, fits_at, fits_mark}
use Rattle.run_updates.specs.State.{Progress, records_in, started, state_of, Held}
use Rattle.run_query.specs.Stepping.{RowsHeld}
use Rattle.run_query.specs.Values.{value_at}
use Rattle.run_updates.proofs.StateLaws.{held_start, held_within, state_start}
use Rattle.run.specs.Calls.{RunResult, Ended, outcome_of, ran, result_of, run_result, refused_result, result_with, result_in}
use Rattle.run.specs.Calls.{refused_end, RunPre, RunPost}
use Rattle.run_operators.specs.Machine.{Machine, Frame, frame, machine, begun, state_in, bound_in, value_in}
use Rattle.run_operators.specs.Evaluating.{Fine, EvalPre, EvalPost}
use Rattle.run_operators.specs.declared.value.Span.{Span}
use Rattle.run_operators.proofs.ValueLaws.{length_value}
use Rattle.run_operators.proofs.YieldLaws.{yields_gives, yields_refused}

-- what is held of the rows, for the index
pub index_asks : {ws h : List ℕ} {p : Progress} → Held ws h p → RowsHeld ws p.count
index_asks held = record { rows = held.rows; few = held.few; lower = λ i p e. (held.tree.parents i p e).0 }

-- a cleared area behind what is written
drop_zeros : (k n z : ℕ) → drop k (replicate n z) ≡ replicate (n - k) z
drop_zeros zero n z = let e : n - 0 ≡ n = omega arith in ap (λ (j : ℕ). replicate j z) (sym e)
drop_zeros (suc k) zero z = let e : 0 - suc k ≡ 0 = omega arith in ap (λ (j : ℕ). replicate j z) (sym e)
drop_zeros (suc k) (suc n) z =
    let e : suc n - suc k ≡ n - k = omega arith in
    drop_zeros k n z ∙ ap (λ (j : ℕ). replicate j z) (sym e)

-- REFUSED
abbrev with_table : refusal.Refusal → Table → RunResult
with_table f t = record { refusal = f; table = t; items = 0; bytes = 0; tally = record { made = 0; cut = 0; records = 0 } }

module _ (t : Table) (b : List ℕ) (a h w : ℕ) (n i : ℕ) (some : n ≡ 0 → ⊥) (is : outcome_of t b ≡ refused (refusal.refusal n i)) where
  leaves : ran_by (decode t) a h w (outcome_of t b) ≡
      refused_run (refusal.refusal n i) (decode t) (replicate a 0) (replicate h 0) (replicate
      w 0)
  leaves = ap (ran_by (decode t) a h w) is

  pub refused_result_lem : refused_result n i t ≡ result_of t (ran_by (decode t) a h w (outcome_of t b))
  refused_result_lem =
      ap (with_table (record { number = n; place = i })) (sym (cond_ne (encode (decode t)) t some)) ∙ ap (result_of t) (sym leaves)

  refused_end_lem : (u : Table) → result_in t (refused_end n i) u ≡ refused_result n i t
  refused_end_lem u = ap (with_table (record { number = n; place = i })) (cond_ne u t some)

  pub refused_answer : replicate a 0 ≡ (ran_by (decode t) a h w (outcome_of t b)).answer
  refused_answer = ap (λ (r : Ran). r.answer) (sym leaves)

  pub refused_history : replicate h 0 ≡ (ran_by (decode t) a h w (outcome_of t b)).history
  refused_history = ap (λ (r : Ran). r.history) (sym leaves)

  -- in areas cleared before
  pub refused_post : {zs hs ws zs' hs' : List ℕ} {u : Table} {r : Ended} → length zs ≡ a → length hs ≡ h → length ws ≡ w →
      zs' ≡ replicate a 0 → hs' ≡ replicate h 0 → r ≡ refused_end n i → RunPost t b zs hs ws u zs' hs' r
  refused_post {zs} {hs} {ws} {u = u} la lh lw ea eh er =
      record {
        result = ap (λ (e : Ended). result_in t e u) er ∙ refused_end_lem u ∙ refused_result_lem ∙ ap (result_of t) same;
        answer = ea ∙ refused_answer ∙ ap (λ (r : Ran). r.answer) same;
        history = eh ∙ refused_history ∙ ap (λ (r : Ran). r.history) same;
      }
    where
      same : ran_by (decode t) a h w (outcome_of t b) ≡ ran_by (decode t) (length zs) (length hs) (length ws) (outcome_of t b)
      same =
          ap (λ (j : ℕ). ran_by (decode t) j h w (outcome_of t b)) (sym la) ∙
          ap (λ (j : ℕ). ran_by (decode t) (length zs) j w (outcome_of t b)) (sym lh) ∙
          ap (λ (j : ℕ). ran_by (decode t) (length zs) (length hs) j (outcome_of t b)) (sym lw)

-- 6, and the script's own refusal
pub accepted_by : (b : List ℕ) {f : refusal.Refusal} → f ≡ script_read b → f.number ≡ 0 → (script_read b).number ≡ 0
accepted_by b is k = ap (λ (x : refusal.Refusal). x.number) (sym is) ∙ k

pub ill_formed : (t : Table) (b : List ℕ) → fits t ≡ false → outcome_of t b ≡ refused (refusal.refusal 6 0)
ill_formed t b e = cond_false (fits t) (run_by (decode t) (read_script b)) (refused (refusal.link_at 0)) e

module _ (t : Table) (b : List ℕ) (e : fits t ≡ true) where
  formed : outcome_of t b ≡ run_by (decode t) (read_script b)
  formed = cond_true (fits t) (run_by (decode t) (read_script b)) (refused (refusal.link_at 0)) e

  script_refuses : ((script_read b).number ≡ 0 → ⊥) →
      outcome_of t b ≡ refused (refusal.refusal (script_read b).number (script_read b).place)
  script_refuses k = formed ∙ ap (run_by (decode t)) (read_refused b k)

  pub refuses_by : {f : refusal.Refusal} → f ≡ script_read b → (f.number ≡ 0 → ⊥) →
      outcome_of t b ≡ refused (refusal.refusal f.number f.place)
  refuses_by is k =
      script_refuses (λ e. k (ap (λ (x : refusal.Refusal). x.number) is ∙ e)) ∙
      ap (λ (x : refusal.Refusal). refused (refusal.refusal x.number x.place)) (sym is)

  -- THE EVALUATOR on an accepted script
  module _ (k : (script_read b).number ≡ 0) where
    fit : Fits t.count t.rows t.marks
    fit = fits_at t.count t.rows t.marks e

    -- no variable yet, and the table's rows
    abbrev whole : Frame
    whole = frame 0 t.marks 0

    abbrev starting : (history work : List ℕ) → Progress → List Span → Machine
    starting h w p env = machine t.rows h w (begun p 0 0 env)

    module _ (rows : length t.rows ≡ max_rows) (marks : length t.marks ≡ documents) {h w : List ℕ} {env : List Span} where
      pub eval_asks : history_need ≤ length h → work_need ≤ length w → length env ≡ max_binders → {p : Progress} → p ≡ started t.count →
          EvalPre b max_depth whole (starting h w p env)
      eval_asks lh lw size {p} is =
          subst (λ (q : Progress). EvalPre b max_depth whole (starting h w q env)) (sym is)
          (record {
            accepted = script_accepted b k;
            held = held_start t.count t.rows t.marks h e rows lh;
            marks = record { size = marks; rows = fits_mark t.count t.rows t.marks fit (omega (arith, fit.few)) };
            scope = record { few = omega arith; size = size; spans = λ v l. absurd (omega arith); values = nothing };
            room = omega arith;
            small = omega arith;
          })

      module _ {p : Progress} (is : p ≡ started t.count) {s : Machine} (ran : EvalPost b max_depth whole (starting h w p env) s) where
        goes : outcome_of t b ≡ run (expr_at max_depth b 0) (bound_in whole (starting h w p env)) (state_in whole (starting h w p env))
        goes =
            formed ∙ ap (run_by (decode t)) (script_parsed b k).1 ∙
            ap (run (expr_at max_depth b 0) []) (sym (state_start t.count t.rows t.marks h)) ∙
            ap (λ (q : Progress). run (expr_at max_depth b 0) [] (state_of t.rows t.marks h q)) (sym is)

        pub run_refused_lem : (s.progress.number ≡ 0 → ⊥) → outcome_of t b ≡ refused (refusal.refusal s.progress.number s.place)
        run_refused_lem l = goes ∙ yields_refused ran l

        module _ (l : s.progress.number ≡ 0) where
          fine : Fine (end_at b 0) whole (starting h w p env) s
          fine = ran.fine l

          abbrev q : Progress
          q = s.progress

          held : Held s.rows s.history q
          held = fine.after.held

          pub few : s.end ≤ max_items
          few = fine.short

          gives_it : outcome_of t b ≡ gives (value_in whole s) (state_in whole s)
          gives_it = goes ∙ yields_gives ran l

          abbrev bytes : List ℕ
          bytes = take s.progress.bytes s.history

          abbrev records : List Record
          records = records_in bytes

          bytes_within : q.bytes ≤ length s.history
          bytes_within = held.written

          written : history_bytes (records_in bytes) ≡ bytes
          written = held.history.bytes

          size_written : length (history_bytes (records_in bytes)) ≡ q.bytes
          size_written = ap length written ∙ length-take-le q.bytes s.history bytes_within

          value_size : work_need ≤ length w → length (value_in whole s) ≡ s.end
          value_size m =
              let n : s.end ≤ length s.work = omega (arith, fine.size, fine.short) in
              let o : s.end - 0 ≡ s.end = omega arith in
              length_value s.work 0 s.end (omega arith) n ∙ o

          -- the value copied over the answer's front
          pub put_front : {v : List ℕ} (a : List ℕ) → work_need ≤ length w → v ≡ take s.end s.work →
              v ++ drop s.end a ≡ at_front (value_at s.work 0 s.end) a
          put_front a m e =
              let o : s.end ≡ s.end - 0 = omega arith in
              ap (λ (u : List ℕ). u ++ drop s.end a) (e ∙ ap (λ (j : ℕ). take j s.work) o) ∙
              ap (λ (j : ℕ). value_at s.work 0 s.end ++ drop j a) (sym (value_size m))

          rows_made : times is_made records ≡ q.tally.made
          rows_made = omega (arith, made_or_cut records, held.history.records, held.history.cuts, held.history.sum)

          table_is : encode (decode_parts q.count s.rows t.marks) ≡
              record { count = q.count; rows = s.rows; marks = t.marks }
          table_is = encode_decode q.count s.rows t.marks (held_within held) held.canonical

          -- what the call gives back
          pub run_post : {a a' : List ℕ} {r : Ended} → RunPre a h w →
              a' ≡ at_front (value_at s.work 0 s.end) a →
              r ≡ record {
                refusal = record { number = 0; place = 0 };
                items = s.end;
                bytes = s.progress.bytes;
                tally = s.progress.tally;
              } → RunPost t b a h w (table_of s.progress.count s.rows t.marks) a' s.history r
          run_post {a} {a'} {r} pre ea er =
              record {
                result = ap (λ (e : Ended). result_in t e (table_of s.progress.count s.rows t.marks)) er ∙
                    (λ i. record {
                      refusal = record { number = 0; place = 0 };
                      table = sym table_is i;
                      items = sym (value_size pre.work) i;
                      bytes = sym size_written i;
                      tally = tally_is i;
                    }) ∙ ap (λ (o : Out). result_of t (ran_by (decode t) (length a) (length h) (length w) o)) (sym gives_it);
                answer = ea ∙ filled_answer ∙
                    ap (λ (o : Out). (ran_by (decode t) (length a) (length h) (length w) o).answer) (sym gives_it);
                history = filled_history ∙
                    ap (λ (o : Out). (ran_by (decode t) (length a) (length h) (length w) o).history) (sym gives_it);
              }
            where
              tally_is : q.tally ≡ record {
                made = times is_made records;
                cut = times is_cut records;
                records = length records;
              }
              tally_is =
                  λ i. record { made = sym rows_made i; cut = sym held.history.cuts i; records = sym held.history.records i }

              filled_answer : at_front (value_in whole s) a ≡ filled (length a) (value_in whole s)
              filled_answer =
                  ap (at_front (value_in whole s)) pre.answered ∙
                  ap (λ (v : List ℕ). value_in whole s ++ v) (drop_zeros (length (value_in whole s)) (length a) 0)

              filled_history : s.history ≡ filled (length h) (history_bytes (records_in bytes))
              filled_history =
                  sym (take-append-drop q.bytes s.history) ∙
                  ap (λ (v : List ℕ). bytes ++ v)
                  (fine.after.rest q.bytes (omega arith) ∙ ap (drop q.bytes) pre.recorded ∙ drop_zeros q.bytes (length h) 0 ∙
                  ap (λ (j : ℕ). replicate (length h - j) 0) (sym size_written)) ∙
                  ap (λ (v : List ℕ). v ++ replicate (length h - length (history_bytes (records_in bytes))) 0) (sym written)

-- THE CALL: 11 first
pub areas_fit_lem : (a h w : List ℕ) → answer_need ≤ length a → history_need ≤ length h → work_need ≤ length w → areas_fit a h w ≡ true
areas_fit_lem a h w la lh lw =
    and_both _ _ (and_both _ _ (le-leb answer_need (length a) la) (le-leb history_need (length h) lh)) (le-leb work_need (length w) lw)

areas_long : (a h w : List ℕ) → areas_fit a h w ≡ true → (answer_need ≤ length a) × (history_need ≤ length h) × (work_need ≤ length w)
areas_long a h w e =
    let k = and_three (leb answer_need (length a)) (leb history_need (length h)) (leb work_need (length w)) e in
    (leb-true answer_need (length a) k.0, leb-true history_need (length h) k.1, leb-true work_need (length w) k.2)

-- what the call gives back, and leaves in the areas
abbrev Leaves : Table → (b a h w : List ℕ) → RunResult → (a' h' w' : List ℕ) → Type 0
Leaves t b a h w r a' h' w' =
    (r ≡ run_result t b a h w) × ((a' ≡ (ran t b a h w).answer) × ((h' ≡ (ran t b a h w).history) × (w' ≡ (ran t b a h w).work)))

module _ (t : Table) (b a h w : List ℕ) where
  pub short_result : areas_fit a h w ≡ false → {r : RunResult} → r ≡ refused_result 11 0 t → Leaves t b a h w r a h w
  short_result e er = (
    er ∙ ap (result_of t) (sym leaves),
    (ap (λ (r : Ran). r.answer) (sym leaves), (ap (λ (r : Ran). r.history) (sym leaves), ap (λ (r : Ran). r.work) (sym leaves))),
  )
    where
      leaves : ran t b a h w ≡ refused_run refusal.lent_short (decode t) a h w
      leaves = cond_false (areas_fit a h w) _ _ e

  -- areas that fit
  module _ (fit : areas_fit a h w ≡ true) where
    same : ran_by (decode t) (length a) (length h) (length w) (outcome_of t b) ≡ ran t b a h w
    same = sym (cond_true (areas_fit a h w) (ran_by (decode t) (length a) (length h) (length w) (outcome_of t b)) _ fit)

    works : (o : Out) → replicate (length w) 0 ≡ (ran_by (decode t) (length a) (length h) (length w) o).work
    works (refused f) = refl
    works (gives v s) = refl

    all_done : {r : RunResult} {a'' h'' w'' : List ℕ} →
        r ≡ result_of t (ran_by (decode t) (length a) (length h) (length w) (outcome_of t b)) →
        a'' ≡ (ran_by (decode t) (length a) (length h) (length w) (outcome_of t b)).answer →
        h'' ≡ (ran_by (decode t) (length a) (length h) (length w) (outcome_of t b)).history → w'' ≡ replicate (length w) 0 →
        Leaves t b a h w r a'' h'' w''
    all_done er ea eh ew = (
      er ∙ ap (result_of t) same,
      (
        ea ∙ ap (λ (r : Ran). r.answer) same,
        (eh ∙ ap (λ (r : Ran). r.history) same, ew ∙ works (outcome_of t b) ∙ ap (λ (r : Ran). r.work) same),
      ),
    )

    -- an ill-formed table: 6
    pub ill_done : fits t ≡ false → {r : RunResult} {a'' h'' w'' : List ℕ} → r ≡ refused_result 6 0 t → a'' ≡ replicate (length a) 0 →
        h'' ≡ replicate (length h) 0 → w'' ≡ replicate (length w) 0 → Leaves t b a h w r a'' h'' w''
    ill_done e er ea eh ew =
        all_done (er ∙ refused_result_lem t b (length a) (length h) (length w) 6 0 (λ z. omega arith) (ill_formed t b e))
        (ea ∙ refused_answer t b (length a) (length h) (length w) 6 0 (λ z. omega arith) (ill_formed t b e))
        (eh ∙ refused_history t b (length a) (length h) (length w) 6 0 (λ z. omega arith) (ill_formed t b e)) ew

    -- cleared first
    module _ {a' h' : List ℕ} (ea : a' ≡ replicate (length a) 0) (eh : h' ≡ replicate (length h) 0) where
      sa : length a' ≡ length a
      sa = ap length ea ∙ length-replicate (length a) 0

      sh : length h' ≡ length h
      sh = ap length eh ∙ length-replicate (length h) 0

      pub cleared_pre : RunPre a' h' w
      cleared_pre =
          let k = areas_long a h w fit in
          record {
            answer = omega (arith, sa, k.0);
            history = omega (arith, sh, k.1);
            work = k.2;
            answered = ea ∙ ap (λ (j : ℕ). replicate j 0) (sym sa);
            recorded = eh ∙ ap (λ (j : ℕ). replicate j 0) (sym sh);
          }

      pub run_done_lem : {u : Table} {a'' h'' w'' : List ℕ} {r : Ended} → RunPost t b a' h' w u a'' h'' r → w'' ≡ replicate (length w) 0 →
          Leaves t b a h w (result_in t r u) a'' h'' w''
      run_done_lem post ew =
          all_done (post.result ∙ ap (result_of t) lengths) (post.answer ∙ ap (λ (r : Ran). r.answer) lengths)
          (post.history ∙ ap (λ (r : Ran). r.history) lengths) ew
        where
          lengths : ran_by (decode t) (length a') (length h') (length w) (outcome_of t b) ≡
              ran_by (decode t) (length a) (length h) (length w) (outcome_of t b)
          lengths =
              ap (λ (j : ℕ). ran_by (decode t) j (length h') (length w) (outcome_of t b)) sa ∙
              ap (λ (j : ℕ). ran_by (decode t) (length a) j (length w) (outcome_of t b)) sh

-- the table given back: refused, the one handed in; else the lent one
module _ (t : Table) (e : Ended) (u : Table) where
  pub back_refused : (e.refusal.number ≡ 0 → ⊥) → result_with e t ≡ result_in t e u
  back_refused z = ap (result_with e) (sym (cond_ne u t z))

  pub back_fine : e.refusal.number ≡ 0 → result_with e u ≡ result_in t e u
  back_fine z = ap (result_with e) (sym (cond_eq u t z))
