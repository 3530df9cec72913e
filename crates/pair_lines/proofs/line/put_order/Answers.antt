-- `lines::put_order` places the line of an order, ended or refused.
use Rattle.std.proofs.Common.{ap, ◌∙◌}
use Rattle.pair_orders.specs.Orders.{order_told}
use Rattle.pair_lines.proofs.LineLaws.{refused_placed, ended_placed}
use Rattle.pair_lines.proofs.line.put_order.Goals as goal

pub returns-in-Ok : goal.returns-in-Ok
returns-in-Ok c =
    ended_placed c.requires (ap order_told c.in-Ok.is) c.put-n.ensures c.put_field-m.ensures c.put_field-k.ensures
    c.put_field-j.ensures c.put.ensures

pub returns-in-Err : goal.returns-in-Err
returns-in-Err c =
    refused_placed c.requires (ap order_told c.in-Err.is) c.put-n.ensures c.put-m.ensures
    (rw (c.from-in-Err.ensures ∙ c.from.ensures) at c.put_field-k-in-Err.ensures)
    (rw (c.from-in-Err-3.ensures ∙ c.from-in-Err-2.ensures) at c.put_field-j-in-Err.ensures) c.put-in-Err.ensures
