-- `orders::in_order` is how two scripts end, one after the other.
use Rattle.std.proofs.Common.{refl, ◌≡◌, Ok, Err, arith}
use Rattle.std.proofs.lemmas.Result.{err_from_is_err_and}
use Rattle.plan_table.specs.declared.Script.TheVariants.{First, Second}
use Rattle.plan_table.proofs.ReasonLaws.{some_number}
use Rattle.pair_orders.proofs.OrderLaws.{leads_refused, follows_refused, both_ended}
use Rattle.pair_orders.proofs.orders.in_order.Goals as goal

pub returns-in_err-one : goal.returns-in_err-one
returns-in_err-one c =
    let f = c.in_err-one.field-0.0 in
    let e : c.run_alone.result ≡ Err f.reason = grind arith in
    let s : f.script ≡ First = grind arith in
    let p = err_from_is_err_and c.from_residual.result c.from_residual.ensures.1 in
    rw (p.1, p.2, s)
    (leads_refused c.args.table c.args.leads.now c.args.follows.now (rw e at c.run_alone.ensures.value) (some_number f.reason))

pub returns-in_err-two : goal.returns-in_err-two
returns-in_err-two c =
    let f = c.in_err-two.field-0.0 in
    let e : c.run_alone.result ≡ Ok c.in_ok-one.one = grind arith in
    let g : c.run_alone-2.result ≡ Err f.reason = grind arith in
    let s : f.script ≡ Second = grind arith in
    let p = err_from_is_err_and c.from_residual-in_err-two.result c.from_residual-in_err-two.ensures.1 in
    rw (p.1, p.2, s)
    (follows_refused c.args.table c.args.leads.now c.args.follows.now (rw e at c.run_alone.ensures.value) refl
    (rw g at c.run_alone-2.ensures.value) (some_number f.reason))

pub returns : goal.returns
returns c =
    let e : c.run_alone.result ≡ Ok c.in_ok-one.one = grind arith in
    let g : c.run_alone-2.result ≡ Ok c.in_ok-two.two = grind arith in
    both_ended c.args.table c.args.leads.now c.args.follows.now (rw e at c.run_alone.ensures.value) refl
    (rw g at c.run_alone-2.ensures.value) refl
