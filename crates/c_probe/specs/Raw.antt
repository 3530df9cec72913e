-- A table given as 512 packed rows and 8 marks.
use Rattle.std.specs.Prelude.{Bool, ◌&&◌, List, ℕ, eqb, length}
use Rattle.model.specs.Limits.{max_rows, documents}

-- 512 packed rows and 8 marks
abbrev pub is_given : (rows marks : List ℕ) → Bool
is_given ws ms = eqb (length ws) max_rows && eqb (length ms) documents
