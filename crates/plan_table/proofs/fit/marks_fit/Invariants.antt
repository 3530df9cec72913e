-- `fit::marks_fit`: every mark fits and none stands again behind it. The loop's invariant: the check from here on decides.
use Rattle.std.proofs.Common.{drop, ◌≡◌}
use Rattle.plan_table.specs.Fitting.{marks_fit}
use Rattle.plan_table.proofs.fit.marks_fit.Given as goal

abbrev pub invariant-loop-d : goal.invariant-loop-d
invariant-loop-d l = marks_fit l.rows l.count l.marks ≡ marks_fit l.rows l.count (drop l.d l.marks)
