-- `lent::run_in`: the run in cleared areas, one law of CallLaws for what each call asks and for each way out.
use Rattle.std.proofs.Common.{refl, ap, ◌≡◌, arith, ◌∙◌, ℕ, length, replicate}
use Rattle.model.specs.Limits.{max_rows, documents}
use Rattle.plan_table.specs.Refusals.{number_of}
use Rattle.plan_table.specs.declared.Table.{Table}
use Rattle.plan_table.proofs.ReasonLaws.{some_number}
use Rattle.run.proofs.CallLaws.{refused_post, accepted_by, eval_asks, run_refused_lem, run_post}
use Rattle.run.proofs.lent.run_in.Goals as goal

pub evaluated-requires : goal.evaluated-requires
evaluated-requires c =
    let given : Table = c.args.table.now in
    eval_asks (given) c.args.script.now c.requires.fits
    (accepted_by c.args.script.now c.in_ok-read_script.ensures refl)
    (omega arith) (omega arith) c.requires.run_pre.history c.requires.run_pre.work refl
    c.start.ensures

pub returns-in-Err-clause-run_post : goal.returns-in-Err-clause-run_post
returns-in-Err-clause-run_post c =
    let given : Table = c.args.table.now in
    let some = some_number c.in-Err.refusal.reason in
    refused_post (given) c.args.script.now (length c.args.answer.now) (length c.args.history.now)
    (length c.args.work.now) (number_of c.in-Err.refusal.reason) c.in-Err.refusal.place some
    (run_refused_lem (given) c.args.script.now c.requires.fits
    (accepted_by c.args.script.now c.in_ok-read_script.ensures refl)
    (omega arith) (omega arith)
    c.start.ensures c.in-Err.ensures some) refl refl refl c.requires.run_pre.answered
    (c.fill.ensures.after (λ y e. e) ∙ ap (λ (j : ℕ). replicate j 0) c.evaluated.auto.history) refl

pub returns-clause-run_post : goal.returns-clause-run_post
returns-clause-run_post c =
    let given : Table = c.args.table.now in
    let fits = c.requires.fits in
    let accepted = accepted_by c.args.script.now c.in_ok-read_script.ensures refl in
    let rows : length given.rows ≡ max_rows = omega arith in
    let marks : length given.marks ≡ documents = omega arith in
    run_post given c.args.script.now fits accepted rows marks c.start.ensures c.in-Ok.ensures refl
    c.requires.run_pre c.put.ensures refl
