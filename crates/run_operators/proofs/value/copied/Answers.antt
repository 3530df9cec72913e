use Rattle.std.proofs.Common.{arith}
use Rattle.run_operators.proofs.ValueLaws.{copying_all}
use Rattle.run_operators.proofs.value.copied.Goals as goal

pub returns : goal.returns
returns c =
    copying_all c.requires c.loop-k.invariant (omega arith)
