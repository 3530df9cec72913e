-- `combined`: a record with two operands, one law of OperatorLaws for what each call asks and for each way out.
use Rattle.std.proofs.Common.{refl, ap, rules, ◌≡◌}
use Rattle.std.proofs.lemmas.Result.{err_from_is_err_and}
use Rattle.script_records.specs.Kinds.{byte_of}
use Rattle.script.proofs.ToldLaws.{told_ok, told_err}
use Rattle.run_operators.proofs.OperatorLaws.{insert_asks, join_yields, insert_refused, insert_yields, body_yields}
use Rattle.run_operators.proofs.record.combined.Goals as goal

pub returns-in-Join : goal.returns-in-Join
returns-in-Join c =
    join_yields c.requires (byte_of c.args.kind) c.args.at (ap byte_of c.in-Join.is) c.limited.ensures

pub insert-requires : goal.insert-requires
insert-requires c =
    insert_asks c.requires

pub returns-in_err-q-in-Insert : goal.returns-in_err-q-in-Insert
returns-in_err-q-in-Insert c =
    let told = told_err _ c.insert.result c.map_err.ensures.cases c.in_err-q-in-Insert.was in
    let out = err_from_is_err_and c.from_residual.result c.from_residual.ensures.1 in
    let k : c.in_err-q-in-Insert.field-0.0 ≡ record { reason = told.0; place = c.args.at } = search (told.2, rules) in
    rw (out.1, out.2, k)
    (insert_refused c.requires (byte_of c.args.kind) c.args.at (ap byte_of c.in-Insert.is) told.0 (rw told.1 at c.insert.ensures))

pub returns-in_ok-q-in-Insert : goal.returns-in_ok-q-in-Insert
returns-in_ok-q-in-Insert c =
    let told = told_ok _ c.insert.result c.map_err.ensures.cases c.in_ok-q-in-Insert.was in
    insert_yields c.requires (byte_of c.args.kind) c.args.at (ap byte_of c.in-Insert.is) (rw told at c.insert.ensures) refl

pub returns-in_default : goal.returns-in_default
returns-in_default c =
    body_yields c.requires c.args.kind c.args.at c.in_default.not-Join c.in_default.not-Insert c.copied-end.auto.work
    c.copied-end.ensures refl
