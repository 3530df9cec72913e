-- `fit::fits` is the model's rule: few rows, each fitting, zeros past them, and the marks fitting.
use Rattle.std.proofs.Common.{drop, Bool, ◌&&◌, ◌∙◌, sym, ap, arith, rules}
use Rattle.plan_table.proofs.FitCheckLaws.{parts_fit_lem}
use Rattle.plan_table.specs.Fitting.{TableSizes, marks_fit}
use Rattle.plan_table.specs.Packed.{is_zero}
use Rattle.model.specs.Base.{all}
use Rattle.plan_table.proofs.fit.fits.Goals as goal

pub returns-then-not-rows_fit : goal.returns-then-not-rows_fit
returns-then-not-rows_fit c =
    let t = c.args.table.now in
    let size : TableSizes t.rows t.marks = search rules in
    sym (parts_fit_lem t.count t.rows t.marks size (omega (arith, c.if-count-gt-ROWS.false)) ∙
    ap (λ (b : Bool). b && all is_zero (drop t.count t.rows) && marks_fit t.rows t.count t.marks)
    (sym c.rows_fit.ensures ∙ c.if-not-rows_fit.true))

pub returns : goal.returns
returns c =
    let t = c.args.table.now in
    let size : TableSizes t.rows t.marks = search rules in
    c.marks_fit.ensures ∙ sym (parts_fit_lem t.count t.rows t.marks size (omega (arith, c.if-count-gt-ROWS.false)) ∙
    ap (λ (b : Bool). b && all is_zero (drop t.count t.rows) && marks_fit t.rows t.count t.marks)
    (sym c.rows_fit.ensures ∙ c.if-not-rows_fit.false) ∙ ap (λ (b : Bool). b && marks_fit t.rows t.count t.marks)
    (sym c.rest_zero.ensures ∙ c.if-not-rest_zero.false))
