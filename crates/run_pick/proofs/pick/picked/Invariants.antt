-- `pick::picked` leaves the picked items where the value stood. The loop's invariant: those passed are picked, the others still stand.
use Rattle.std.proofs.Common.{◌≡◌, ◌≤◌, drop}
use Rattle.run_pick.proofs.PickLaws.{picked_row}
use Rattle.run_query.specs.Values.{Appended, value_at}
use Rattle.model.specs.Base.{filtered}
use Rattle.script_records.specs.Relations.{relation_number}
use Rattle.run_pick.proofs.pick.picked.Given as goal

abbrev pub invariant-loop-k : goal.invariant-loop-k
invariant-loop-k l = (l.at ≤ l.k) × Appended (filtered
    (picked_row l.rows
    (relation_number l.fn.relation) l.constant) (value_at l.initial.work l.from l.k)) l.initial.work l.from l.work l.at ×
    (drop l.k l.work ≡ drop l.k l.initial.work)
