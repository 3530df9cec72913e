-- The index of children, and what remains true of it while a run goes on.
use Rattle.std.specs.Prelude.{◌≡◌, List, ℕ, ◌+◌, ◌≤◌, ◌<◌, length, get_or, set}
use Rattle.model.specs.Limits.{max_rows, max_links}
use Rattle.plan_table.specs.Packed.{link_in, LinksCut}
use Rattle.run_query.specs.Stepping.{RowsHeld}
use Rattle.run_query.specs.Values.{Skipped}

-- WHERE THINGS STAND: a link's first row at the link, the row after a row behind them
abbrev pub next_at : (row : ℕ) → ℕ
next_at j = max_links + j

abbrev pub index_size : ℕ
index_size = max_links + max_rows

-- link 0 has no row: there the count of rows stands
abbrev pub count_at : ℕ
count_at = 0

-- from a place on, r is the first row with the link, or the count where there is none
pub record Leads (ws : List ℕ) (n link from r : ℕ) : Type 0 where
  pub past : Skipped ws n link from r
  pub there : r < n → link_in (get_or ws r 0) ≡ link

-- THE INDEX of so many rows: how many they are, the first row with each link, and after each row the next with the same one
pub record IndexOf (ix : List ℕ) (n : ℕ) (ws : List ℕ) : Type 0 where
  pub some : count_at < length ix
  pub size : 0 < n → length ix ≡ index_size
  pub rows : get_or ix count_at 0 ≡ n
  pub first : (l : ℕ) → 0 < l → l < max_links → Leads ws n l 0 (get_or ix l 0)
  pub next : (j : ℕ) → j < n → Leads ws n (link_in (get_or ws j 0)) (j + 1) (get_or ix (next_at j) 0)

-- HELD: it is the index of rows to which others were added and whose links were only cut
pub record IndexHeld (ix ws : List ℕ) (count : ℕ) : Type 0 where
  pub many : ℕ  -- so many rows there were
  pub before : List ℕ  -- these
  pub index : IndexOf ix many before
  pub few : many ≤ count
  pub links : LinksCut many before ws

-- BUILT from the highest row down: no link has a row yet
abbrev pub Cleared : (count : ℕ) → (index : List ℕ) → Type 0
Cleared n ix = (l : ℕ) → l < max_links → get_or ix l 0 ≡ n

-- a row entered below all others
abbrev pub entered : (rows : List ℕ) → (row : ℕ) → (index : List ℕ) → List ℕ
entered ws j ix = set (set ix (next_at j) (get_or ix (link_in (get_or ws j 0)) 0)) (link_in (get_or ws j 0)) j

pub record BuildPre (ws : List ℕ) (n : ℕ) (ix : List ℕ) : Type 0 where
  pub held : RowsHeld ws n
  pub size : length ix ≡ index_size
