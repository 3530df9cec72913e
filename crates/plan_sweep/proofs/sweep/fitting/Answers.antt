-- `sweep::fitting` gives the swept table.
use Rattle.std.proofs.Common.{◌≤◌, arith, length}
use Rattle.plan_sweep.proofs.SweepLaws.{encode_swept}
use Rattle.plan_table.proofs.FittedLaws.{Fits, fits_at, fits_mark}
use Rattle.plan_sweep.proofs.sweep.fitting.Goals as goal

pub renumber-requires : goal.renumber-requires
renumber-requires c =
    let t = c.args.table.now in
    let fit : Fits t.count t.rows t.marks = fits_at t.count t.rows t.marks c.requires in
    let within : t.count ≤ length t.rows = omega (arith, fit.few) in
    record { size = c.rows.ensures.size; links = λ d. omega (arith, fits_mark t.count t.rows t.marks fit within d, fit.few) }

pub returns : goal.returns
returns c =
    let t = c.args.table.now in
    let fit : Fits t.count t.rows t.marks = fits_at t.count t.rows t.marks c.requires in
    encode_swept t.rows t.marks t.count fit (omega arith) c.rows.result _ _ c.rows.ensures _ c.renumber.ensures
