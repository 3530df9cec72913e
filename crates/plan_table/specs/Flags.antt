-- Rows by their numbers: items that are rows, and flags of rows.
use Rattle.std.specs.Prelude.{◌≡◌, Bool, List, ℕ, ◌+◌, ◌<◌, length, get_or}
use Rattle.model.specs.Limits.{max_links, max_rows}
use Rattle.model.specs.Base.{bit}

-- ITEMS are rows below a count
abbrev pub Within : (items : List ℕ) → (count : ℕ) → Type 0
Within v n = (k : ℕ) → k < length v → get_or v k 0 < n

-- FLAGS: 1 for each row of which f holds, else 0; a row's flag stands at its number plus one, position 0 is for no row
pub record Flags (f : ℕ → Bool) (fs : List ℕ) : Type 0 where
  pub size : length fs ≡ max_links
  pub none : get_or fs 0 0 ≡ 0
  pub flags : (k : ℕ) → k < max_rows → get_or fs (k + 1) 0 ≡ bit (f k)
