-- `fit::rows_fit`: every row below the count fits. The loop's invariant: the rows from here on decide.
use Rattle.std.proofs.Common.{◌≡◌, ◌-◌}
use Rattle.plan_table.specs.Fitting.{rows_fit}
use Rattle.plan_table.proofs.fit.rows_fit.Given as goal

abbrev pub invariant-loop-i : goal.invariant-loop-i
invariant-loop-i l = rows_fit l.rows 0 l.count ≡ rows_fit l.rows l.i (l.count - l.i)
