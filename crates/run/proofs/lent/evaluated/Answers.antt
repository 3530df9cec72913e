-- `lent::evaluated`: the index of no rows, or the one built, is held at the start.
use Rattle.std.proofs.Common.{ℕ}
use Rattle.run_query.specs.Index.{index_size}
use Rattle.run.proofs.CallLaws.{index_asks}
use lib.ListN.{length-replicate}
use Rattle.run.proofs.lent.evaluated.Goals as goal

pub build-requires : goal.build-requires
build-requires c =
    record { held = index_asks c.requires.held; size = length-replicate {A = ℕ} index_size 0 }
