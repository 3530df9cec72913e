-- `read::expression`: each answer cites one law of ExpressionLaws.
use Rattle.std.proofs.Common.{◌≡◌, ap, sym, ◌∙◌, List, ℕ, ◌-◌, ◌≤◌, ◌<◌, length, arith}
use Rattle.std.proofs.lemmas.Result.{err_from_is_err_and}
use Rattle.model.specs.Script.{is_binder}
use Rattle.plan_table.proofs.ReasonLaws.{some_number}
use Rattle.script_records.specs.declared.kinds.Kind.{Kind}
use Rattle.script.specs.Reading.{ExpressionPre}
use Rattle.script.proofs.ExpressionLaws.{record_refused, Headed, headed, record_fits, record_room, body_is, arity_is}
use Rattle.script.proofs.ExpressionLaws.{ends_none}
use Rattle.script.proofs.ExpressionLaws.{first_read, first_failed, ends_first, first_within}
use Rattle.script.proofs.ExpressionLaws.{second_read, second_failed, ends_second, second_within, ends_third}
use Rattle.script.proofs.read.+expression.Goals as goal

-- an operand of the record, one level below
operand_asks : {b : List ℕ} {at left n v p t : ℕ} {k : Kind} → Headed b at left n v k → left ≡ t → p ≤ length b →
    (left - 1 < t) × ExpressionPre b p (left - 1)
operand_asks h e w = (omega (arith, (record_fits h).depth), record { within = w; depth = omega (arith, h.deep) })

pub returns-in_err-kind : goal.returns-in_err-kind
returns-in_err-kind t c =
    let p = err_from_is_err_and c.from_residual.result c.from_residual.ensures.1 in
    rw (p.1, p.2) (record_refused c.requires c.in_err-kind.ensures.refusal (some_number c.in_err-kind.field-0.0))

pub overflow_add-parsed-3 : goal.overflow_add-parsed-3
overflow_add-parsed-3 t c =
    let h = headed c.requires c.head.ensures.refusal c.head.ensures.kind c.in_ok-kind.was in
    omega (arith, record_room h)

pub returns-then-operands-eq0 : goal.returns-then-operands-eq0
returns-then-operands-eq0 t c =
    let h = headed c.requires c.head.ensures.refusal c.head.ensures.kind c.in_ok-kind.was in
    ends_none h c.sizes-body.ensures.body (omega (arith, c.sizes-body.ensures.operands, c.if-operands-eq0.true))

pub overflow_sub-left : goal.overflow_sub-left
overflow_sub-left t c =
    let h = headed c.requires c.head.ensures.refusal c.head.ensures.kind c.in_ok-kind.was in
    (record_fits h).depth

pub expression-requires : goal.expression-requires
expression-requires t c =
    let h = headed c.requires c.head.ensures.refusal c.head.ensures.kind c.in_ok-kind.was in
    operand_asks h c.decreases (omega (arith, (record_fits h).whole, body_is h, c.sizes-body.ensures.body))

pub returns-then-operands-eq1 : goal.returns-then-operands-eq1
returns-then-operands-eq1 t c =
    let h = headed c.requires c.head.ensures.refusal c.head.ensures.kind c.in_ok-kind.was in
    let f = first_read h c.sizes-body.ensures.body (omega (arith, c.sizes-body.ensures.operands, c.if-operands-eq0.false))
    c.expression.ensures in
    ends_first f (omega (arith, arity_is h, c.sizes-body.ensures.operands, c.if-operands-eq1.true))

pub expression-requires-2 : goal.expression-requires-2
expression-requires-2 t c =
    let h = headed c.requires c.head.ensures.refusal c.head.ensures.kind c.in_ok-kind.was in
    operand_asks h c.decreases (omega (arith, (record_fits h).whole, body_is h, c.sizes-body.ensures.body))

pub returns-in_err-expression : goal.returns-in_err-expression
returns-in_err-expression t c =
    let h = headed c.requires c.head.ensures.refusal c.head.ensures.kind c.in_ok-kind.was in
    let f = first_read h c.sizes-body.ensures.body (omega (arith, c.sizes-body.ensures.operands, c.if-operands-eq0.false))
    c.in_err-expression.ensures in
    let p = err_from_is_err_and c.from_residual-in_err-expression.result c.from_residual-in_err-expression.ensures.1 in
    rw (p.1, p.2) (first_failed c.in_err-expression.field-0.0 f)

pub inner-inside-requires : goal.inner-inside-requires
inner-inside-requires t c =
    let h = headed c.requires c.head.ensures.refusal c.head.ensures.kind c.in_ok-kind.was in
    λ b. omega (arith, (record_fits h).scope (sym (ap is_binder h.is) ∙ b))

pub expression-requires-then-operands-eq2 : goal.expression-requires-then-operands-eq2
expression-requires-then-operands-eq2 t c =
    let h = headed c.requires c.head.ensures.refusal c.head.ensures.kind c.in_ok-kind.was in
    let f = first_read h c.sizes-body.ensures.body (omega (arith, c.sizes-body.ensures.operands, c.if-operands-eq0.false))
    c.in_ok-expression.ensures in
    operand_asks h c.decreases (first_within f)

pub returns-then-operands-eq2 : goal.returns-then-operands-eq2
returns-then-operands-eq2 t c =
    let h = headed c.requires c.head.ensures.refusal c.head.ensures.kind c.in_ok-kind.was in
    let f = first_read h c.sizes-body.ensures.body (omega (arith, c.sizes-body.ensures.operands, c.if-operands-eq0.false))
    c.in_ok-expression.ensures in
    let g = second_read f (omega (arith, c.sizes-body.ensures.operands, c.if-operands-eq0.false, c.if-operands-eq1.false))
    c.inner-inside.ensures c.expression-then-operands-eq2.ensures in
    ends_second g (omega (arith, arity_is h, c.sizes-body.ensures.operands, c.if-operands-eq2.true))

pub expression-requires-3 : goal.expression-requires-3
expression-requires-3 t c =
    let h = headed c.requires c.head.ensures.refusal c.head.ensures.kind c.in_ok-kind.was in
    let f = first_read h c.sizes-body.ensures.body (omega (arith, c.sizes-body.ensures.operands, c.if-operands-eq0.false))
    c.in_ok-expression.ensures in
    operand_asks h c.decreases (first_within f)

pub returns-in_err-expression-2 : goal.returns-in_err-expression-2
returns-in_err-expression-2 t c =
    let h = headed c.requires c.head.ensures.refusal c.head.ensures.kind c.in_ok-kind.was in
    let f = first_read h c.sizes-body.ensures.body (omega (arith, c.sizes-body.ensures.operands, c.if-operands-eq0.false))
    c.in_ok-expression.ensures in
    let g = second_read f (omega (arith, c.sizes-body.ensures.operands, c.if-operands-eq0.false, c.if-operands-eq1.false))
    c.inner-inside.ensures c.in_err-expression-2.ensures in
    let p = err_from_is_err_and c.from_residual-in_err-expression-2.result c.from_residual-in_err-expression-2.ensures.1 in
    rw (p.1, p.2) (second_failed c.in_err-expression-2.field-0.0 g)

pub expression-requires-4 : goal.expression-requires-4
expression-requires-4 t c =
    let h = headed c.requires c.head.ensures.refusal c.head.ensures.kind c.in_ok-kind.was in
    let f = first_read h c.sizes-body.ensures.body (omega (arith, c.sizes-body.ensures.operands, c.if-operands-eq0.false))
    c.in_ok-expression.ensures in
    let g = second_read f (omega (arith, c.sizes-body.ensures.operands, c.if-operands-eq0.false, c.if-operands-eq1.false))
    c.inner-inside.ensures c.in_ok-expression-2.ensures in
    operand_asks h c.decreases (second_within g)

pub returns : goal.returns
returns t c =
    let h = headed c.requires c.head.ensures.refusal c.head.ensures.kind c.in_ok-kind.was in
    let f = first_read h c.sizes-body.ensures.body (omega (arith, c.sizes-body.ensures.operands, c.if-operands-eq0.false))
    c.in_ok-expression.ensures in
    let g = second_read f (omega (arith, c.sizes-body.ensures.operands, c.if-operands-eq0.false, c.if-operands-eq1.false))
    c.inner-inside.ensures c.in_ok-expression-2.ensures in
    ends_third g
    (omega (arith, arity_is h, c.sizes-body.ensures.operands, c.if-operands-eq0.false, c.if-operands-eq1.false, c.if-operands-eq2.false))
    c.expression-4.ensures
