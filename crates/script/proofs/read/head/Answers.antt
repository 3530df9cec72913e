-- `read::head`: each answer cites one law of HeadLaws.
use Rattle.std.proofs.Common.{arith}
use Rattle.script.proofs.HeadLaws.{head_records, head_depth, head_ninth, head_fine, head_field}
use Rattle.script.proofs.read.head.Goals as goal

pub returns-then-records-ge-SCRIPT_RECORDS-clause-refusal : goal.returns-then-records-ge-SCRIPT_RECORDS-clause-refusal
returns-then-records-ge-SCRIPT_RECORDS-clause-refusal c =
    head_records (omega arith) c.in_ok-kind.kind c.in_ok-kind.ensures (omega arith)

pub returns-then-left-eq0-clause-refusal : goal.returns-then-left-eq0-clause-refusal
returns-then-left-eq0-clause-refusal c =
    head_depth (omega arith) c.in_ok-kind.kind c.in_ok-kind.ensures (omega arith) (omega arith)

pub returns-then-is_binder-bound-clause-refusal : goal.returns-then-is_binder-bound-clause-refusal
returns-then-is_binder-bound-clause-refusal c =
    head_ninth (omega arith) c.in_ok-kind.kind c.in_ok-kind.ensures (omega arith) (omega arith)
    (rw c.is_binder.ensures at c.if-is_binder-bound.true)

pub returns-then-body_fits-clause-refusal : goal.returns-then-body_fits-clause-refusal
returns-then-body_fits-clause-refusal c =
    head_fine (omega arith) c.in_ok-kind.kind c.in_ok-kind.ensures (omega arith) (omega arith)
    (rw c.is_binder.ensures at c.if-is_binder-bound.false) (omega (arith, c.body_size.ensures.value))
    c.body_fits.ensures c.if-body_fits.true

pub returns-clause-refusal : goal.returns-clause-refusal
returns-clause-refusal c =
    head_field (omega arith) c.in_ok-kind.kind c.in_ok-kind.ensures (omega arith) (omega arith)
    (rw c.is_binder.ensures at c.if-is_binder-bound.false) (omega (arith, c.body_size.ensures.value))
    c.body_fits.ensures c.if-body_fits.false
