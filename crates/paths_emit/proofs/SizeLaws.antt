-- An accepted script has at most 64 records, and so at most 128 positions.
use mathlib.Core.Path.{◌≡◌, subst}
use mathlib.Core.List.{List}
use Prim.Native.Nat.{ℕ, ◌≤◌}
use native.Mathlib.Omega.{arith}
use Rattle.model.specs.Limits.{max_records, max_depth}
use Rattle.model.specs.Script.{records_of}
use Rattle.model.proofs.ScriptLaws.{ReadsWell, read_script_well}
use Rattle.script_records.specs.Walk.{expr_at}
use Rattle.script.specs.Reading.{script_read}
use Rattle.script.proofs.ScriptLaws.{script_parsed}

pub script_records : (b : List ℕ) → (script_read b).number ≡ 0 → records_of (expr_at max_depth b 0) ≤ max_records
script_records b h =
    let found = subst (ReadsWell 0 b) (script_parsed b h).1 (read_script_well b) in
    omega (arith, found.counted, found.few)
