-- `item::scanned` appends an item's children from a row on. The loop's invariant: those passed are appended.
use Rattle.std.proofs.Common.{ℕ, ◌+◌, ◌-◌, ◌≤◌, List, [], ◌∷◌}
use Rattle.run_query.specs.Values.{SteppedTo}
use Rattle.model.specs.Script.{step_by}
use Rattle.script_records.specs.Steps.{test_number, test_name}
use Rattle.run_query.proofs.item.scanned.Given as goal

abbrev pub invariant-loop-j : goal.invariant-loop-j
invariant-loop-j l = ((u : List ℕ) (start : ℕ) →
    SteppedTo l.rows l.count (step_by 0 (test_number l.test) (test_name l.test)) (l.fn.item.0 ∷ []) l.low u start l.initial.work l.from →
    SteppedTo l.rows l.count (step_by 0 (test_number l.test) (test_name l.test)) (l.fn.item.0 ∷ []) l.j u start l.work l.at) ×
    (l.at ≤ l.from + (l.j - l.low))
