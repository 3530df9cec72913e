-- `step::collect` appends the rows kept. The loop's invariant: those passed are appended.
use Rattle.run_query.specs.Values.{Appended, kept_rows}
use Rattle.script_records.specs.Steps.{test_number, test_name}
use Rattle.run_query.proofs.step.collect.Given as goal

abbrev pub invariant-loop-j : goal.invariant-loop-j
invariant-loop-j l = Appended (kept_rows l.rows l.reached (test_number l.test) (test_name l.test) l.j) l.initial.work
    l.from l.work l.at
