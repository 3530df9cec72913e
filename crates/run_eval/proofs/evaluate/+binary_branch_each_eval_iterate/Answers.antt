use Rattle.std.proofs.Common.{◌≡◌, ap, sym, ◌∙◌, arith, refl, ℕ, true, Result, Ok, Err}
use mathlib.Core.Bool.{false≢true}
use Rattle.std.specs.Result.{IsOk}
use Rattle.run_eval.proofs.BinaryLaws.{second_asks, combine_asks, combine_yields}
use Rattle.run_eval.proofs.BranchLaws.{then_asks, then_refused, then_yields}
use Rattle.run_eval.proofs.LoopLaws.{one_asks, body_asks}
use Rattle.run_eval.proofs.LoopLaws.{one_refused, one_all, begin_refused, begin_yields, near_asks, near_refused, near_all}
use Rattle.run_eval.proofs.LoopLaws.{far_asks, far_yields}
use Rattle.run_eval.proofs.ScopeLaws.{index_kept}
use Rattle.script.proofs.AcceptedLaws.{accepted_record}
use Rattle.run_eval.proofs.OperandLaws.{kind_operands, for_operands, if_operands}
use Rattle.run_eval.proofs.EvalLaws.{deep, first_asks, first_fewer, first_refused, operator_asks, unary_asks, unary_yields}
use Rattle.run_eval.proofs.EvalLaws.{two_asks, two_fewer, two_yields, three_asks, three_fewer, three_yields}
use Rattle.run_eval.proofs.LoopLaws.{for_none, each_asks, close_asks, close_yields}
use Rattle.std.proofs.lemmas.Result.{err_from_is_err_and}
use Rattle.plan_table.proofs.ReasonLaws.{some_number}
use Rattle.model.specs.Script.{is_script_kind, body_size, arity}
use Rattle.plan_table.specs.declared.Reason.{Reason}
use Rattle.script_records.specs.declared.kinds.Kind.{Kind}
use Rattle.script_records.specs.Kinds.{byte_of, KindRead}
use Rattle.run_eval.proofs.evaluate.+binary_branch_each_eval_iterate.Goals as goal

-- the kind that is read of an accepted record
kind_is : {b : ℕ} {x : Result Kind Reason} {k : Kind} → KindRead b x → x ≡ Ok k → byte_of k ≡ b
kind_is r e = rw e at r

some_read : (b : ℕ) (x : Result Kind Reason) → KindRead b x → is_script_kind b ≡ true → IsOk x
some_read b (Ok k) r e = refl
some_read b (Err y) r e = absurd (false≢true (sym r.0 ∙ e))

pub binary-eval-requires : goal.binary-eval-requires
binary-eval-requires t c =
    let m = c.decreases in
    (omega (arith, m), (second_asks c.requires.rest_pre c.bind-inside.ensures c.inner-n.ensures, c.requires.index_held))

pub binary-combined-requires : goal.binary-combined-requires
binary-combined-requires t c =
    combine_asks c.requires.rest_pre c.bind-inside.ensures c.inner-n.ensures c.in_ok-y.ensures refl

pub binary-returns : goal.binary-returns
binary-returns t c =
    combine_yields c.requires.rest_pre c.bind-inside.ensures c.inner-n.ensures c.in_ok-y.ensures refl c.args.at
    c.combined.ensures

pub branch-eval-requires-2 : goal.branch-eval-requires-2
branch-eval-requires-2 t c =
    let m = c.decreases in
    (omega (arith, m), (then_asks c.requires.rest_pre, c.requires.index_held))

pub branch-returns-in_err-y : goal.branch-returns-in_err-y
branch-returns-in_err-y t c =
    let out = err_from_is_err_and c.from_residual.result c.from_residual.ensures.1 in
    rw (out.1, out.2) (then_refused c.requires.rest_pre c.if-x-top.false c.in_err-y.ensures (some_number c.in_err-y.field-0.0.reason))

pub branch-returns : goal.branch-returns
branch-returns t c =
    then_yields c.requires.rest_pre c.if-x-top.false c.in_ok-y.ensures refl c.past.ensures

pub each-eval-requires : goal.each-eval-requires
each-eval-requires t c =
    (omega (arith, c.decreases), (body_asks (one_asks c.requires.each_pre) (omega arith) c.bind-inside.ensures, c.requires.index_held))

pub each-returns-in_err-y : goal.each-returns-in_err-y
each-returns-in_err-y t c =
    let out = err_from_is_err_and c.from_residual.result c.from_residual.ensures.1 in
    rw (out.1, out.2)
    (begin_refused c.requires.each_pre c.bind-inside.ensures c.in_err-y.ensures (some_number c.in_err-y.field-0.0.reason))

pub each-returns-in_err-first : goal.each-returns-in_err-first
each-returns-in_err-first t c =
    let out = err_from_is_err_and c.from_residual-in_err-first.result c.from_residual-in_err-first.ensures.1 in
    let first = begin_yields c.requires.each_pre c.bind-inside.ensures c.in_ok-y.ensures refl c.in_err-first.ensures in
    rw (out.1, out.2) (one_refused c.requires.each_pre first (some_number c.in_err-first.field-0.0.reason))

pub each-returns-then-next-to : goal.each-returns-then-next-to
each-returns-then-next-to t c =
    let first = begin_yields c.requires.each_pre c.bind-inside.ensures c.in_ok-y.ensures refl c.in_ok-first.ensures in
    one_all c.requires.each_pre first c.if-next-to.true

pub each-each-requires : goal.each-each-requires
each-each-requires t c =
    let first = begin_yields c.requires.each_pre c.bind-inside.ensures c.in_ok-y.ensures refl c.in_ok-first.ensures in (
      omega (arith, c.decreases, c.requires.each_pre.some, c.if-next-to.false),
      (near_asks c.requires.each_pre first refl c.if-next-to.false, index_kept c.requires.index_held first refl),
    )

pub each-returns-in_err-x : goal.each-returns-in_err-x
each-returns-in_err-x t c =
    let out = err_from_is_err_and c.from_residual-in_err-x.result c.from_residual-in_err-x.ensures.1 in
    let first = begin_yields c.requires.each_pre c.bind-inside.ensures c.in_ok-y.ensures refl c.in_ok-first.ensures in
    rw (out.1, out.2)
    (near_refused c.requires.each_pre first refl c.if-next-to.false c.in_err-x.ensures (some_number c.in_err-x.field-0.0.reason))

pub each-returns-then-half-to : goal.each-returns-then-half-to
each-returns-then-half-to t c =
    let first = begin_yields c.requires.each_pre c.bind-inside.ensures c.in_ok-y.ensures refl c.in_ok-first.ensures in
    near_all c.requires.each_pre first refl c.if-next-to.false c.in_ok-x.ensures c.if-half-to.true

pub each-each-requires-2 : goal.each-each-requires-2
each-each-requires-2 t c =
    let first = begin_yields c.requires.each_pre c.bind-inside.ensures c.in_ok-y.ensures refl c.in_ok-first.ensures in (
      omega (arith, c.decreases, c.requires.each_pre.some, c.if-next-to.false),
      (
        far_asks c.requires.each_pre first refl c.if-next-to.false c.in_ok-x.ensures refl c.if-half-to.false,
        index_kept (index_kept c.requires.index_held first refl) c.in_ok-x.ensures refl,
      ),
    )

pub each-returns : goal.each-returns
each-returns t c =
    let first = begin_yields c.requires.each_pre c.bind-inside.ensures c.in_ok-y.ensures refl c.in_ok-first.ensures in
    far_yields c.requires.each_pre first refl c.if-next-to.false c.in_ok-x.ensures refl c.if-half-to.false c.each-2.ensures

pub eval-bounds-program-at : goal.eval-bounds-program-at
eval-bounds-program-at t c =
    let a = (accepted_record c.requires.eval_pre.accepted).whole in
    omega (arith, a)

pub eval-overflow_add-i-2 : goal.eval-overflow_add-i-2
eval-overflow_add-i-2 t c =
    let is = kind_is c.try_from.ensures c.unwrap-kind.ensures in
    let size = c.body_size.ensures.value ∙ ap body_size is in
    let a = (accepted_record c.requires.eval_pre.accepted).whole in
    omega (arith, a, size)

pub eval-overflow_sub-k : goal.eval-overflow_sub-k
eval-overflow_sub-k t c =
    deep c.requires.eval_pre

pub eval-unwrap-kind-requires : goal.eval-unwrap-kind-requires
eval-unwrap-kind-requires t c =
    some_read _ c.try_from.result c.try_from.ensures (accepted_record c.requires.eval_pre.accepted).kind

pub eval-eval-requires : goal.eval-eval-requires
eval-eval-requires t c =
    let is = kind_is c.try_from.ensures c.unwrap-kind.ensures in
    let size = c.body_size.ensures.value ∙ ap body_size is in
    let count = c.arity-operands.ensures.value ∙ ap arity is in
    let l = first_fewer c.requires.eval_pre size count c.if-operands-eq0.false in
    let m = c.decreases in
    let a = first_asks c.requires.eval_pre size count c.if-operands-eq0.false in
    (omega (arith, l, m), (a, c.requires.index_held))

pub eval-returns-in_err-x : goal.eval-returns-in_err-x
eval-returns-in_err-x t c =
    let is = kind_is c.try_from.ensures c.unwrap-kind.ensures in
    let size = c.body_size.ensures.value ∙ ap body_size is in
    let count = c.arity-operands.ensures.value ∙ ap arity is in
    let out = err_from_is_err_and c.from_residual.result c.from_residual.ensures.1 in
    rw (out.1, out.2)
    (first_refused c.requires.eval_pre size c.in_err-x.ensures count
    c.if-operands-eq0.false (some_number c.in_err-x.field-0.0.reason))

pub eval-applied-requires : goal.eval-applied-requires
eval-applied-requires t c =
    let is = kind_is c.try_from.ensures c.unwrap-kind.ensures in
    let size = c.body_size.ensures.value ∙ ap body_size is in
    let count = c.arity-operands.ensures.value ∙ ap arity is in
    record {
      value_pre = unary_asks c.requires.eval_pre size c.in_ok-x.ensures refl count
          c.if-operands-eq1.true;
      index_held = index_kept c.requires.index_held c.in_ok-x.ensures refl;
    }

pub eval-returns-then-operands-eq1 : goal.eval-returns-then-operands-eq1
eval-returns-then-operands-eq1 t c =
    let is = kind_is c.try_from.ensures c.unwrap-kind.ensures in
    let size = c.body_size.ensures.value ∙ ap body_size is in
    let count = c.arity-operands.ensures.value ∙ ap arity is in
    unary_yields c.requires.eval_pre size c.in_ok-x.ensures refl count
    c.if-operands-eq1.true c.read-operator.ensures c.applied.ensures

pub eval-branch-program-requires : goal.eval-branch-program-requires
eval-branch-program-requires t c =
    let is = kind_is c.try_from.ensures c.unwrap-kind.ensures in
    let size = c.body_size.ensures.value ∙ ap body_size is in
    let three = if_operands c.requires.eval_pre.accepted (sym is ∙ ap byte_of c.in-If.is) in
    let l = three_fewer c.requires.eval_pre size c.in_ok-x.ensures refl (sym is ∙ ap byte_of c.in-If.is) three in
    let a = three_asks c.requires.eval_pre size c.in_ok-x.ensures refl (sym is ∙ ap byte_of c.in-If.is) three in
    let m = c.decreases in (
      omega (arith, l, m),
      (a.0, (a.1, index_kept c.requires.index_held c.in_ok-x.ensures refl)),
    )

pub eval-returns-in-If : goal.eval-returns-in-If
eval-returns-in-If t c =
    let is = kind_is c.try_from.ensures c.unwrap-kind.ensures in
    let size = c.body_size.ensures.value ∙ ap body_size is in
    let three = if_operands c.requires.eval_pre.accepted (sym is ∙ ap byte_of c.in-If.is) in
    three_yields c.requires.eval_pre size c.in_ok-x.ensures refl (sym is ∙ ap byte_of c.in-If.is) three
    c.branch-program.ensures

pub eval-iterate-requires : goal.eval-iterate-requires
eval-iterate-requires t c =
    let is = kind_is c.try_from.ensures c.unwrap-kind.ensures in
    let size = c.body_size.ensures.value ∙ ap body_size is in
    let two = for_operands c.requires.eval_pre.accepted (sym is ∙ ap byte_of c.in-For.is) in
    let l = two_fewer c.requires.eval_pre size c.in_ok-x.ensures refl (sym is ∙ ap byte_of c.in-For.is) two in
    let m = c.decreases in (
      omega (arith, l, m),
      (
        two_asks c.requires.eval_pre size c.in_ok-x.ensures refl (sym is ∙ ap byte_of c.in-For.is) two,
        index_kept c.requires.index_held c.in_ok-x.ensures refl,
      ),
    )

pub eval-returns-in-For : goal.eval-returns-in-For
eval-returns-in-For t c =
    let is = kind_is c.try_from.ensures c.unwrap-kind.ensures in
    let size = c.body_size.ensures.value ∙ ap body_size is in
    let two = for_operands c.requires.eval_pre.accepted (sym is ∙ ap byte_of c.in-For.is) in
    two_yields c.requires.eval_pre size c.in_ok-x.ensures refl (sym is ∙ ap byte_of c.in-For.is) two
    c.iterate.ensures

pub eval-binary-requires : goal.eval-binary-requires
eval-binary-requires t c =
    let is = kind_is c.try_from.ensures c.unwrap-kind.ensures in
    let size = c.body_size.ensures.value ∙ ap body_size is in
    let two = kind_operands c.requires.eval_pre.accepted c.unwrap-kind.result is c.arity-operands.ensures.value
    c.if-operands-eq0.false c.if-operands-eq1.false c.in_default.not-If c.in_default.not-For in
    let l = two_fewer c.requires.eval_pre size c.in_ok-x.ensures refl (sym is) two in
    let m = c.decreases in (
      omega (arith, l, m),
      (
        two_asks c.requires.eval_pre size c.in_ok-x.ensures refl (sym is) two,
        index_kept c.requires.index_held c.in_ok-x.ensures refl,
      ),
    )

pub eval-returns-in_default : goal.eval-returns-in_default
eval-returns-in_default t c =
    let is = kind_is c.try_from.ensures c.unwrap-kind.ensures in
    let size = c.body_size.ensures.value ∙ ap body_size is in
    let two = kind_operands c.requires.eval_pre.accepted c.unwrap-kind.result is c.arity-operands.ensures.value
    c.if-operands-eq0.false c.if-operands-eq1.false c.in_default.not-If c.in_default.not-For in
    two_yields c.requires.eval_pre size c.in_ok-x.ensures refl (sym is) two c.binary.ensures

pub eval-read-operator-requires-clause-operator_pre : goal.eval-read-operator-requires-clause-operator_pre
eval-read-operator-requires-clause-operator_pre t c =
    let is = kind_is c.try_from.ensures c.unwrap-kind.ensures in
    let count = c.arity-operands.ensures.value ∙ ap arity is in
    operator_asks c.requires.eval_pre count c.if-operands-eq1.true

pub iterate-returns-then-mid-top : goal.iterate-returns-then-mid-top
iterate-returns-then-mid-top t c =
    for_none c.requires.rest_pre c.args.at c.if-mid-top.true c.past.ensures

pub iterate-each-requires : goal.iterate-each-requires
iterate-each-requires t c =
    let m = c.decreases in
    let s = c.requires.rest_pre.value.short in
    (omega (arith, m, s), (each_asks c.requires.rest_pre c.args.at c.if-mid-top.false, c.requires.index_held))

pub iterate-combined-requires : goal.iterate-combined-requires
iterate-combined-requires t c =
    close_asks c.requires.rest_pre c.args.at c.in_ok-y.ensures refl

pub iterate-returns : goal.iterate-returns
iterate-returns t c =
    close_yields c.requires.rest_pre c.args.at c.in_ok-y.ensures refl c.combined.ensures
