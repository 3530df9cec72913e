-- How many positions a script may have.
use Rattle.std.specs.Prelude.{ℕ}

-- positions of a script, at most
abbrev pub max_positions : ℕ
max_positions = 128
