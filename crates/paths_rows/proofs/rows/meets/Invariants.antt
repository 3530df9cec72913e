-- `rows::meets` keeps whether position k met one of the columns so far.
use Rattle.std.proofs.Common.{◌≡◌}
use Rattle.paths_positions.specs.Answer.{any_up_to}
use Rattle.paths_rows.specs.Rows.{met_by}
use Rattle.paths_rows.proofs.rows.meets.Given as goal

abbrev pub invariant-loop-l : goal.invariant-loop-l
invariant-loop-l l = l.seen ≡ any_up_to (met_by l.table l.m l.columns l.k l.number) l.l
