-- `three_lines` places the answer and both orders.
use Rattle.std.proofs.Common.{arith}
use Rattle.pair_report.proofs.PairLaws.{three_placed}
use Rattle.pair_report.proofs.three_lines.Goals as goal

pub returns : goal.returns
returns c =
    record {
      placed =
          three_placed c.args.table c.args.answer.now
          c.args.first.now c.args.second.now c.in_order-one_two.ensures c.in_order-two_one.ensures
          c.swapped.ensures c.put_answer-n.ensures.text c.put_order-m.ensures.text
          c.put_order.ensures.text;
      few = omega (
        arith,
        c.put_answer-n.ensures.few,
        c.put_order-m.ensures.few,
        c.put_order.ensures.few,
      );
    }
