-- The evaluator's cycle of calls: what falls from call to call is the records of the expression, and in a loop the items left.
use Rattle.std.proofs.Common.{ℕ, ◌+◌, ◌-◌, ◌*◌}
use Rattle.model.specs.Limits.{max_items}
use Rattle.script_records.specs.Walk.{end_at}
use Rattle.run_eval.proofs.OperandLaws.{records_at}
use Rattle.run_eval.proofs.evaluate.+binary_branch_each_eval_iterate.Given as goal

-- a record weighs more than the items of a loop
abbrev pub per_record : ℕ
per_record = 4 * max_items

-- the rest of a record weighs its other operands
abbrev pub decreases-binary : goal.decreases-binary
decreases-binary l = per_record * records_at l.left l.program.now.script.now l.x.place + 2

abbrev pub decreases-branch : goal.decreases-branch
decreases-branch l =
    let b = l.program.now.script.now in
    per_record * (records_at l.left b l.x.place + records_at l.left b (end_at b l.x.place)) + 2

abbrev pub decreases-each : goal.decreases-each
decreases-each l = per_record * records_at l.left l.program.now.script.now l.at + 2 + (l.to - l.from)

abbrev pub decreases-eval : goal.decreases-eval
decreases-eval l = per_record * records_at l.left l.program.now.script.now l.at + 1

abbrev pub decreases-iterate : goal.decreases-iterate
decreases-iterate l = per_record * records_at l.left l.program.now.script.now l.x.place + 2 * max_items
