-- What is promised of reading a file's first bytes. Each promise is a type; a term of that type in proofs/ is its proof.
use Rattle.std.specs.Prelude.{◌≡◌, List, ℕ, ◌<◌, length, take}
use Rattle.model.specs.Refusal.{Refusal}
use Rattle.model.specs.Stored.{refused, read_plan}
use Rattle.model.specs.Script.{refused, read_script}

-- the bytes that are read of each file at most
abbrev pub file_bytes : ℕ
file_bytes = 4096

-- At most 4,096 bytes of each file, which is enough to refuse any longer one: those are read as the whole file is
abbrev pub ReadByFront : Type 0
ReadByFront =
    ((b : List ℕ) → read_plan (take file_bytes b) ≡ read_plan b) × ((b : List ℕ) → read_script (take file_bytes b) ≡ read_script b)

-- and a longer file is refused
abbrev pub LongerRefused : Type 0
LongerRefused =
    ((b : List ℕ) → file_bytes < length b → (f : Refusal) × (read_plan b ≡ refused f)) ×
    ((b : List ℕ) → file_bytes < length b → (f : Refusal) × (read_script b ≡ refused f))
