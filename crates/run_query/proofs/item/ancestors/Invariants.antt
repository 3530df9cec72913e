-- `item::ancestors` writes the rows above an item from the end. The loop's invariant: those passed stand, and there is room for the rest.
use Rattle.std.proofs.Common.{get_or, ℕ, ◌≤◌, List}
use Rattle.plan_table.specs.Packed.{link_in}
use Rattle.run_query.specs.Values.{way_from}
use Rattle.run_query.proofs.ItemLaws.{Rising}
use Rattle.script_records.specs.Steps.{test_number, test_name}
use Rattle.run_query.proofs.item.ancestors.Given as goal

abbrev pub invariant-loop-l : goal.invariant-loop-l
invariant-loop-l l = (l.l ≤ l.count) ×
    ((ms : List ℕ) → Rising (way_from l.rows l.count (test_number l.test) (test_name l.test) (link_in (get_or l.rows l.fn.item.0 0)) ms)
    l.initial.work
    l.from (way_from l.rows l.count (test_number l.test) (test_name l.test) l.l ms) l.work l.at)

abbrev pub decreases-loop-l : goal.decreases-loop-l
decreases-loop-l l = l.l
