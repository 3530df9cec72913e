-- `item::children` appends an item's children, by the index and behind it. The loop's invariant: those passed are appended, and the row
-- where it is had the link when the index was made.
use Rattle.std.proofs.Common.{get_or, ◌+◌, ◌-◌, ◌≤◌, ◌<◌, [], ◌∷◌, ◌≡◌}
use Rattle.run_query.specs.Index.{IndexHeld}
use Rattle.run_query.specs.Values.{SteppedTo}
use Rattle.model.specs.Script.{step_by}
use Rattle.plan_table.specs.Packed.{link_in}
use Rattle.script_records.specs.Steps.{test_number, test_name}
use Rattle.run_query.proofs.item.children.Given as goal

abbrev pub invariant-loop-j : goal.invariant-loop-j
invariant-loop-j l = (l.j ≤ l.many) ×
    ((s : IndexHeld l.index l.rows l.count) → l.j < l.many → link_in (get_or s.before l.j 0) ≡ l.item.0 + 1) ×
    SteppedTo l.rows l.count (step_by 0 (test_number l.test) (test_name l.test)) (l.item.0 ∷ []) l.j l.initial.work l.from l.work l.at ×
    (l.at ≤ l.from + l.j)

abbrev pub decreases-loop-j : goal.decreases-loop-j
decreases-loop-j l = l.many - l.j
