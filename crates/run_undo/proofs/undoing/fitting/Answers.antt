-- `undoing::fitting` takes a table that fits back as the model does.
use Rattle.std.proofs.Common.{Ok, Err, refl, arith}
use Rattle.std.proofs.lemmas.Result.{err_from_is_err_and}
use Rattle.run_undo.proofs.UndoLawsCall.{form_refused, undo_pre, undo_left, undo_refused, undo_done}
use Rattle.plan_table.proofs.ReasonLaws.{some_number}
use Rattle.plan_table.specs.Results.{end_by}
use Rattle.run_undo.proofs.undoing.fitting.Goals as goal

pub returns-in_err-records-clause-table_after : goal.returns-in_err-records-clause-table_after
returns-in_err-records-clause-table_after c =
    let t = c.args.table.now in
    let h = c.args.history.now in
    let f = c.in_err-records.field-0.0 in
    let p = err_from_is_err_and c.from_residual.result c.from_residual.ensures.1 in
    let some = some_number f.reason in
    rw (p.1, p.2)
    (undo_refused t h t.rows (end_by (Err f)) (form_refused t h c.requires c.in_err-records.ensures t.rows some) some)

pub undo_all-requires : goal.undo_all-requires
undo_all-requires c =
    undo_pre c.args.table.now c.args.history.now c.requires c.in_ok-records.ensures refl (omega arith) c.form.auto.places

pub returns-in_err-table-clause-table_after : goal.returns-in_err-table-clause-table_after
returns-in_err-table-clause-table_after c =
    let t = c.args.table.now in
    let h = c.args.history.now in
    let f = c.in_err-table.field-0.0 in
    let p = err_from_is_err_and c.from_residual-in_err-table.result c.from_residual-in_err-table.ensures.1 in
    let some = some_number f.reason in
    rw (p.1, p.2)
    (undo_refused t h c.undo_all.new.rows (end_by (Err f))
    (undo_left t h c.requires c.in_ok-records.ensures refl c.in_err-table.ensures (omega (arith, c.undo_all.auto.rows)) c.form.auto.places)
    some)

pub returns-clause-table_after : goal.returns-clause-table_after
returns-clause-table_after c =
    let t = c.args.table.now in
    let h = c.args.history.now in
    undo_done t h c.undo_all.new.rows (end_by (Ok c.in_ok-table.field-0))
    (undo_left t h c.requires c.in_ok-records.ensures refl c.in_ok-table.ensures (omega (arith, c.undo_all.auto.rows)) c.form.auto.places)
    refl
