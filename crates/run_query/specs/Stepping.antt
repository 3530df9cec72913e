-- Contracts of a step's parts: flags at a row's number plus one.
use Rattle.std.specs.Prelude.{◌≡◌, Bool, ◌&&◌, ◌||◌, not, cond, List, [], ℕ, ◌+◌, ◌≤◌, ◌<◌, eqb, length, get_or, set, replicate}
use Rattle.std.proofs.Math.Option.{some}
use Rattle.model.specs.Limits.{max_links, max_rows}
use Rattle.model.specs.Base.{any, among, bit}
use Rattle.model.specs.Table as model
use Rattle.model.specs.Step.{reaches}
use Rattle.plan_table.specs.Flags.{Within, Flags}
use Rattle.plan_table.specs.Packed.{decode_parts, link_in}

-- ITEMS flagged
pub record FlagPre (fs v : List ℕ) (n : ℕ) : Type 0 where
  pub clear : fs ≡ replicate max_links 0
  pub low : Within v max_rows
  pub few : n ≤ max_rows

-- the flags are those of a value's rows
abbrev pub Flagged : (value flags : List ℕ) → Type 0
Flagged v fs = Flags (λ (k : ℕ). among k v) fs

-- no row below a bound, at most the count, has a flag
pub record ClearBelow (n low : ℕ) (fs : List ℕ) : Type 0 where
  pub few : low ≤ n
  pub clear : (k : ℕ) → k < low → get_or fs (k + 1) 0 ≡ 0

-- ONE ROW of a pass
abbrev pub counted : (item reached : ℕ) → (deep : Bool) → Bool
counted i r d = not (eqb i 0) || (d && not (eqb r 0))

pub record OnePre (w j : ℕ) (fs rs : List ℕ) : Type 0 where
  pub low : j < max_rows
  pub link : link_in w < max_links
  pub flags : length fs ≡ max_links
  pub reached : length rs ≡ max_links

-- a row on the way down: flagged where it counts by its parent's flag
abbrev pub marked_by : (flags : List ℕ) → (row above : ℕ) → (deep : Bool) → List ℕ
marked_by fs j a d = cond (counted 0 a d) (set fs (j + 1) 1) fs

-- a row on the way up: where it counts, its parent is reached
abbrev pub climbed : (packed row : ℕ) → (deep : Bool) → (flags reached : List ℕ) → List ℕ
climbed w j d fs rs = cond (counted (get_or fs (j + 1) 0) (get_or rs (j + 1) 0) d) (set rs (link_in w) 1) rs

-- A PASS over the rows below the count, whose parents are lower
pub record RowsHeld (ws : List ℕ) (n : ℕ) : Type 0 where
  pub rows : length ws ≡ max_rows
  pub few : n ≤ max_rows
  pub lower : (i p : ℕ) → (model.row_at (decode_parts n ws []) i).parent ≡ some p → p < i

pub record PassPre (ws : List ℕ) (n : ℕ) (fs rs : List ℕ) : Type 0 where
  pub held : RowsHeld ws n
  pub flags : length fs ≡ max_links
  pub clear : rs ≡ replicate max_links 0

-- after it each row below the count has the flag of what the axis reaches from the items
pub record Reached (ws : List ℕ) (n axis : ℕ) (fs rs : List ℕ) : Type 0 where
  pub size : length rs ≡ max_links
  pub flags : (ms v : List ℕ) → Flagged v fs → (j : ℕ) → j < n →
      get_or rs (j + 1) 0 ≡ bit (any (λ (i : ℕ). reaches (decode_parts n ws ms) axis i j) v)
