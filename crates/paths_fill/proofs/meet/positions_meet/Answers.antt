use Rattle.std.proofs.Common.{refl, ◌∙◌, arith, length-set}
use Rattle.paths_fill.proofs.TableLaws.{rows_none, rows_next, one_meets}
use Rattle.paths_fill.proofs.meet.positions_meet.Goals as goal

pub loop-k-init : goal.loop-k-init
loop-k-init c =
    (refl, refl, rows_none _ c.requires)

pub returns-then-row_meets : goal.returns-then-row_meets
returns-then-row_meets c =
    one_meets c.args.first.now c.args.second.now c.loop-k.k (omega arith) c.row_meets.ensures
    c.if-row_meets.true

pub loop-k-preserved : goal.loop-k-preserved
loop-k-preserved c = (
  length-set c.loop-k.live c.loop-k.k c.bit.result ∙ c.loop-k.invariant.0,
  c.row-seen.ensures.size ∙
      c.loop-k.invariant.1,
  rows_next c.requires c.spread.ensures (omega arith) c.row-seen.ensures c.loop-k.invariant.2
      c.loop-k.invariant.0 c.bit.result c.bit.ensures.value c.row_meets.result c.row_meets.ensures
      c.if-row_meets.false,
)
