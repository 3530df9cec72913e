-- The demands on what `read_plan` and `write_plan` do to each other's results. Each is a type; its proof is in proofs/Promised. Assumes
-- nothing.
use Rattle.std.specs.Prelude.{◌≡◌, true, List, ℕ, ◌≤◌, length, take}
use Rattle.model.specs.Base.{are_bytes, at_front}
use Rattle.model.specs.Limits.{max_rows}
use Rattle.model.specs.Refusal.{fine}
use Rattle.model.specs.Stored.{stored}
use Rattle.plan_table.specs.Results.{refusal_of}
use Rattle.plan_table.specs.Packed.{decode, fits}
use Rattle.plan_table.specs.declared.Table.{Table}
use Rattle.plan_writer.specs.Writing.{plan_written, written_out}
use Rattle.plan.specs.Calls.{plan_read}

-- DEMAND 2, table to bytes to table: a table that fits, with its 512 packed rows, is written where there is room, and what is written is
-- read as the same table
abbrev pub TableBack : Type 0
TableBack =
    (t : Table) (o : List ℕ) → length t.rows ≡ max_rows → fits t ≡ true → length (stored (decode t)) ≤ length o →
    (plan_written t o ≡ record { refusal = refusal_of fine; bytes = length (stored (decode t)) }) ×
    (plan_read (take (plan_written t o).bytes (written_out t o)) ≡ record { refusal = refusal_of fine; table = t })

-- and bytes to table to bytes: the table read from bytes is written as those bytes, the rest of out as it was
abbrev pub BytesBack : Type 0
BytesBack =
    (b o : List ℕ) → are_bytes b ≡ true → (plan_read b).refusal.number ≡ 0 → length b ≤ length o →
    (plan_written (plan_read b).table o ≡ record { refusal = refusal_of fine; bytes = length b }) ×
    (written_out (plan_read b).table o ≡ at_front b o)
