use Rattle.std.proofs.Common.{Bool, ◌&&◌, ◌∙◌, sym, ap, ◌+◌, ◌-◌, arith}
use Rattle.plan_table.proofs.FitCheckLaws.{rows_turn, rows_end}
use Rattle.plan_table.specs.Fitting.{rows_fit}
use Rattle.plan_table.proofs.fit.rows_fit.Goals as goal

pub returns-then-not-row_fits : goal.returns-then-not-row_fits
returns-then-not-row_fits c =
    sym (c.loop-i.invariant ∙ rows_turn c.args.rows.now c.loop-i.i c.args.count c.loop-i-test.true ∙ ap
    (λ (z : Bool). z && rows_fit c.args.rows.now (c.loop-i.i + 1) (c.args.count - (c.loop-i.i + 1)))
    (sym c.row_fits.ensures
    ∙ c.if-not-row_fits.true))

pub loop-i-preserved : goal.loop-i-preserved
loop-i-preserved c =
    c.loop-i.invariant ∙ rows_turn c.args.rows.now c.loop-i.i c.args.count c.loop-i-test.true ∙
    ap (λ (z : Bool). z && rows_fit c.args.rows.now (c.loop-i.i + 1) (c.args.count - (c.loop-i.i + 1))) (sym
    c.row_fits.ensures ∙ c.if-not-row_fits.false)

pub returns : goal.returns
returns c =
    sym (c.loop-i.invariant ∙ rows_end c.args.rows.now c.loop-i.i c.args.count (omega arith))
