-- `item::count_above` counts the rows above an item that pass the test. The loop's invariant: those passed and those to come are all.
use Rattle.std.proofs.Common.{length, get_or, ℕ, ◌+◌, ◌≤◌, List, ◌≡◌}
use Rattle.plan_table.specs.Packed.{link_in}
use Rattle.run_query.specs.Values.{way_from}
use Rattle.script_records.specs.Steps.{test_number, test_name}
use Rattle.run_query.proofs.item.count_above.Given as goal

abbrev pub invariant-loop-l : goal.invariant-loop-l
invariant-loop-l l = (l.l ≤ l.count) ×
    ((ms : List ℕ) → l.n + length (way_from l.rows l.count (test_number l.test) (test_name l.test) l.l ms) ≡ length
    (way_from l.rows l.count (test_number l.test) (test_name l.test) (link_in (get_or l.rows l.fn.item.0 0)) ms)) ×
    (l.n + l.l ≤ l.count)

abbrev pub decreases-loop-l : goal.decreases-loop-l
decreases-loop-l l = l.l
