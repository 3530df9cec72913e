-- What the C calls for tests answer and leave, for every input.
use Rattle.std.specs.Prelude.{◌&&◌, cond, List, ℕ, eqb}
use Rattle.model.specs.Refusal.{Values, values}
use Rattle.c_codes.specs.Codes.{lent_values, values_unless, written_values}
use Rattle.plan_writer.specs.Writing as library
use Rattle.plan_sweep.specs.Sweeping as sweeping
use Rattle.script.specs.Reading.{script_read}
use Rattle.plan_table.specs.Results.{TableResult}
use Rattle.plan_table.specs.Packed.{table_of}
use Rattle.c_probe.specs.Raw.{is_given}

-- A TABLE GIVEN as 512 packed rows and 8 marks, written: an ill-formed table is the plan's refusal
abbrev pub write_values : (count : ℕ) → (rows marks out : List ℕ) → Values
write_values n ws ms o =
    cond (is_given ws ms)
    (cond (eqb (library.plan_written (table_of n ws ms) o).refusal.number 6) (values 6 1 0)
    (written_values (library.plan_written (table_of n ws ms) o)))
    lent_values

-- the area after it
abbrev pub write_out : (count : ℕ) → (rows marks out : List ℕ) → List ℕ
write_out n ws ms o = cond (is_given ws ms) (library.written_out (table_of n ws ms) o) o

-- swept in place
abbrev pub swept_table : (count : ℕ) → (rows marks : List ℕ) → TableResult
swept_table n ws ms = sweeping.plan_swept (table_of n ws ms)

-- the rows left, as the place
abbrev pub swept_values : (count : ℕ) → (rows marks : List ℕ) → Values
swept_values n ws ms =
    cond (is_given ws ms)
    (cond (eqb (swept_table n ws ms).refusal.number 0) (values 0 0 (swept_table n ws ms).table.count)
    (values (swept_table n ws ms).refusal.number 1 0))
    lent_values

-- the packed rows after it
abbrev pub rows_left : (count : ℕ) → (rows marks : List ℕ) → List ℕ
rows_left n ws ms = cond (is_given ws ms && eqb (swept_table n ws ms).refusal.number 0) (swept_table n ws ms).table.rows ws

-- the marks after it
abbrev pub marks_left : (count : ℕ) → (rows marks : List ℕ) → List ℕ
marks_left n ws ms = cond (is_given ws ms && eqb (swept_table n ws ms).refusal.number 0) (swept_table n ws ms).table.marks ms

-- A SCRIPT read
abbrev pub script_values : (script : List ℕ) → Values
script_values b = values_unless (script_read b) 2 (values 0 0 0)
