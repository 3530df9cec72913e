use Rattle.std.proofs.Common.{List, get_or, Ok, Err, refl, ◌≡◌, ◌∙◌, ap, ℕ, ◌+◌, arith}
use Rattle.std.proofs.lemmas.Result.{err_from_is_err_and}
use Rattle.model.proofs.ListLaws.{drop_all, drop_first}
use Rattle.model.specs.History.{history_size}
use Rattle.run_updates.specs.HistoryKinds.{byte_of}
use Rattle.plan_table.proofs.ReasonLaws.{some_number}
use Rattle.run_undo.proofs.UndoLaws.{forming_start, forming_end, forming_refused}
use Rattle.run_undo.proofs.UndoLaws.{forming_again}
use Rattle.run_undo.proofs.undoing.form.Goals as goal

pub loop-at-init : goal.loop-at-init
loop-at-init c =
    forming_start c.requires

pub returns-in_err-kind : goal.returns-in_err-kind
returns-in_err-kind c =
    let l = c.loop-at in
    let r = c.front in
    let f = c.in_err-kind.field-0.0 in
    let e : r.result ≡ Err f.reason = grind arith in
    let a : f.place ≡ l.at = grind arith in
    let p = err_from_is_err_and c.from_residual.result c.from_residual.ensures.1 in
    rw (p.1, p.2, a)
    (forming_refused l.invariant c.loop-at-test.true (rw e at r.ensures.form) (some_number f.reason))

pub loop-at-preserved : goal.loop-at-preserved
loop-at-preserved c =
    let k = c.in_ok-kind.kind in
    let e : c.front.result ≡ Ok k = grind arith in
    let b = c.args.bytes.now in
    let at = c.loop-at.at in
    let same : byte_of k ≡ get_or b at 0 =
    c.front.ensures.kind k e ∙ ap (λ (l : List ℕ). get_or l 0 0) (drop_all b at) ∙ drop_first b at in
    forming_again c.loop-at.invariant c.loop-at-test.true (rw e at c.front.ensures.form) refl
    (ap (λ (j : ℕ). at + j) (c.size.ensures ∙ ap history_size same))

pub returns : goal.returns
returns c =
    forming_end c.loop-at.invariant (omega (arith, c.loop-at-test.false))
