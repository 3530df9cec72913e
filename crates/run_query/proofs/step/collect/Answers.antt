use Rattle.std.proofs.Common.{length, get_or, ℕ, ◌+◌, ◌<◌, arith}
use Rattle.run_query.proofs.ValueLaws.{length_collect, collected_none, collected_by}
use Rattle.run_query.specs.Values.{kept}
use Rattle.script_records.specs.Steps.{test_number, test_name}
use Rattle.run_query.proofs.step.collect.Goals as goal
use Rattle.run_query.proofs.step.collect.Goals.{In-loop-j}

-- there is room for one row more
room : (c : In-loop-j) → c.loop-j.at < length c.loop-j.work
room c =
    omega (
      arith,
      c.loop-j.invariant.end,
      length_collect
          (λ (i : ℕ). kept c.args.rows.now i (get_or c.args.reached.now (i + 1) 0) (test_number c.args.test) (test_name c.args.test)) 0
          c.loop-j.j,
      c.requires.room,
      c.requires.few,
    )

pub loop-j-init : goal.loop-j-init
loop-j-init c = collected_none c.args.work.now c.args.from _

pub append_if-at-requires-clause-at_in_bounds : goal.append_if-at-requires-clause-at_in_bounds
append_if-at-requires-clause-at_in_bounds c = room (goal.at.append_if-at-requires-clause-at_in_bounds c).In-loop-j

pub loop-j-preserved : goal.loop-j-preserved
loop-j-preserved c =
    collected_by (λ (i : ℕ). kept c.args.rows.now i (get_or c.args.reached.now (i + 1) 0) (test_number c.args.test)
    (test_name c.args.test))
    c.loop-j.j c.args.work.now c.loop-j.work c.args.from c.loop-j.at (room (goal.at.loop-j-preserved c).In-loop-j)
    c.loop-j.invariant c.keeps-keep.result c.append_if-at.new.work c.append_if-at.result c.keeps-keep.ensures
    c.append_if-at.ensures.work_after c.append_if-at.ensures.value
