use Rattle.std.proofs.Common.{refl}
use Rattle.std.proofs.lemmas.Result.{err_from_is_err_and}
use Rattle.plan_table.proofs.ReasonLaws.{some_number}
use Rattle.run_insert.proofs.InsertLawsRest.{copying_end, copying_refused, copying_again}
use Rattle.run_insert.proofs.insert.copy_rest.Goals as goal

pub returns-in_err-now : goal.returns-in_err-now
returns-in_err-now c =
    let p = err_from_is_err_and c.from_residual.result c.from_residual.ensures.1 in
    rw (p.1, p.2)
    (copying_refused c.requires c.loop-j.invariant c.loop-j-test.true c.in_err-now.ensures (some_number c.in_err-now.field-0.0))

pub loop-j-preserved : goal.loop-j-preserved
loop-j-preserved c =
    copying_again c.requires c.loop-j.invariant c.loop-j-test.true c.in_ok-now.ensures refl

pub returns : goal.returns
returns c =
    copying_end c.requires c.loop-j.invariant c.loop-j-test.false
