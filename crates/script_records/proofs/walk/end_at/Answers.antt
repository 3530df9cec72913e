use Rattle.std.proofs.Common.{sym, arith, get_or}
use Rattle.model.proofs.KindLaws.{size_most, arity_most}
use Rattle.script_records.proofs.WalkLaws.{past_empty, walk_ends, walk_short, walk_on}
use Rattle.script_records.proofs.walk.end_at.Goals as goal

pub returns-then-bytes-at : goal.returns-then-bytes-at
returns-then-bytes-at c =
    sym (past_empty c.args.bytes.now c.args.at c.if-bytes-at.true)

pub overflow_add-body : goal.overflow_add-body
overflow_add-body c =
    let k = get_or c.args.bytes.now c.loop-pending.next 0 in
    omega (arith, c.sizes-body.ensures.0, c.sizes-body.ensures.1, size_most k, arity_most k)

pub returns-then-bytes-next : goal.returns-then-bytes-next
returns-then-bytes-next c =
    walk_short c.loop-pending.invariant (omega arith) c.sizes-body.ensures.0
    c.sizes-body.ensures.1 c.if-bytes-next.true

pub loop-pending-preserved : goal.loop-pending-preserved
loop-pending-preserved c =
    walk_on c.loop-pending.invariant (omega arith) c.sizes-body.ensures.0
    c.sizes-body.ensures.1 (omega arith)

pub returns : goal.returns
returns c =
    walk_ends c.loop-pending.invariant (omega arith)
