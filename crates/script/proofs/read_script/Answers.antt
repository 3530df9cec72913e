-- `read_script` meets its contract: each answer cites one law of ScriptLaws.
use Rattle.std.proofs.Common.{refl, arith}
use Rattle.script.proofs.ScriptLaws.{script_tail, script_fine}
use Rattle.script.proofs.read_script.Goals as goal

pub returns-in-Ok : goal.returns-in-Ok
returns-in-Ok c = script_tail c.in-Ok.ensures refl c.if-whole-bytes.true

pub returns-in-Ok-2 : goal.returns-in-Ok-2
returns-in-Ok-2 c = script_fine c.in-Ok-2.ensures refl (omega (arith, c.if-whole-bytes.false))
