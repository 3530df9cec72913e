use Rattle.std.proofs.Common.{arith, refl}
use Rattle.script_records.proofs.KindLaws.{no_kind}
use Rattle.script_records.proofs.kinds.KindTryFromU8.try_from.Goals as goal

pub returns-in_default : goal.returns-in_default
returns-in_default c = (no_kind c.args.byte (omega arith), refl)
