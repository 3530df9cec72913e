-- `step::descend` appends the rows below the flagged items. The loop's invariant: rows passed are flagged where they count, and
-- those reached that pass the test are appended.
use Rattle.std.proofs.Common.{ℕ, ◌+◌, ◌≤◌, List}
use Rattle.model.specs.Base.{bit}
use Rattle.model.specs.Script.{step_by}
use Rattle.run_query.specs.Stepping.{Flagged}
use Rattle.run_query.specs.Values.{SteppedTo}
use Rattle.run_query.proofs.PassLaws.{Descending}
use Rattle.script_records.specs.Steps.{test_number, test_name}
use Rattle.run_query.proofs.step.descend.Given as goal

abbrev pub invariant-loop-j : goal.invariant-loop-j
invariant-loop-j l = Descending l.rows l.count l.deep l.initial.flags l.j l.flags ×
    ((v : List ℕ) → Flagged v l.initial.flags →
    SteppedTo l.rows l.count (step_by (bit l.deep) (test_number l.test) (test_name l.test)) v l.j l.initial.work l.from l.work l.at) ×
    (l.at + l.low ≤ l.from + l.j)
