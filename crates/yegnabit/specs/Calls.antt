-- What the C calls answer and leave, for every input, from what the calls of the library answer.
use Rattle.std.specs.Prelude.{cond, List, ℕ, ltb, length}
use Rattle.plan.specs.Calls as library
use Rattle.model.specs.Refusal.{Values}
use Rattle.c_codes.specs.Codes.{lent_values, values_unless, area_unless, written_values, finished_values, finished_out}
use Rattle.plan_writer.specs.Writing.{plan_written, written_out}
use Rattle.c_lent.specs.Done.{out_need}
use Rattle.plan_sweep.specs.Sweeping.{plan_swept}
use Rattle.paths.specs.Analysis.{analysed, values_of}
use Rattle.run_undo.specs.Undoing.{plan_undone}
use Rattle.plan_table.specs.Results.{TableResult}

-- PLAN, SWEEP AND UNDO: 11 where out has less than 2,080 bytes, before all else
abbrev pub values_if_long : (out : List ℕ) → (rest : Values) → Values
values_if_long o v = cond (ltb (length o) out_need) lent_values v

-- and nothing touched
abbrev pub out_if_long : (out rest : List ℕ) → List ℕ
out_if_long o b = cond (ltb (length o) out_need) o b

-- then the plan's own refusal; then what the call answers
abbrev pub on_plan : (plan out : List ℕ) → (rest : Values) → Values
on_plan p o v = values_if_long o (values_unless (library.plan_read p).refusal 1 v)

-- and the area: as it was, or what the call leaves
abbrev pub out_on_plan : (plan out rest : List ℕ) → List ℕ
out_on_plan p o b = out_if_long o (area_unless (library.plan_read p).refusal b o)

-- READ AND WRITE BACK
abbrev pub plan_values : (plan out : List ℕ) → Values
plan_values p o = on_plan p o (written_values (plan_written (library.plan_read p).table o))

-- the area after it
abbrev pub plan_out : (plan out : List ℕ) → List ℕ
plan_out p o = out_on_plan p o (written_out (library.plan_read p).table o)

-- READ, SWEEP AND WRITE
abbrev pub swept_plan : (plan : List ℕ) → TableResult
swept_plan p = plan_swept (library.plan_read p).table

-- a refusal of the sweep is the plan's
abbrev pub sweep_values : (plan out : List ℕ) → Values
sweep_values p o = on_plan p o (finished_values (swept_plan p) 1 o)

-- the area after it
abbrev pub sweep_out : (plan out : List ℕ) → List ℕ
sweep_out p o = out_on_plan p o (finished_out (swept_plan p) o)

-- READ, TAKE A RUN BACK BY ITS HISTORY AND WRITE
abbrev pub undone_plan : (plan history : List ℕ) → TableResult
undone_plan p h = plan_undone (library.plan_read p).table h

-- a refusal of the history is which 2
abbrev pub undo_values : (plan history out : List ℕ) → Values
undo_values p h o = on_plan p o (finished_values (undone_plan p h) 2 o)

-- the area after it
abbrev pub undo_out : (plan history out : List ℕ) → List ℕ
undo_out p h o = out_on_plan p o (finished_out (undone_plan p h) o)

-- TWO SCRIPTS ANALYSED: the refusal of the first of them that is refused; or 0 free, 1 upward, 2 meet as `which`
abbrev pub analyse_values : (first second : List ℕ) → Values
analyse_values b c = values_of (analysed b c)
