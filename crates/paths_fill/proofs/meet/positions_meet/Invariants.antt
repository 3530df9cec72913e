-- `meet::positions_meet` fills row after row, up to one that meets.
use Rattle.std.proofs.Common.{◌≡◌, length}
use Rattle.paths_positions.specs.Steps.{max_positions}
use Rattle.paths_fill.proofs.TableLaws.{RowsTo}
use Rattle.paths_fill.proofs.meet.positions_meet.Given as goal

abbrev pub invariant-loop-k : goal.invariant-loop-k
invariant-loop-k l =
    (length l.live ≡ max_positions) × (length l.table ≡ length l.initial.table) ×
    RowsTo l.first l.second l.k l.live l.table
