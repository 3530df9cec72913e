-- What a sweep answers, for every input, and the contracts of its parts: a row's entry among the numbers stands at its link.
use Rattle.std.specs.Prelude.{◌≡◌, Bool, true, ◌||◌, not, cond, List, map, ℕ, ◌+◌, ◌≤◌, ◌<◌, eqb, length, get_or, set, take, replicate}
use Rattle.model.specs.Limits.{max_links, max_rows}
use Rattle.model.specs.Base.{any, bit}
use Rattle.model.specs.Table as model
use Rattle.model.specs.Refusal as refusal
use Rattle.model.specs.Sweep.{swept, is_kept, new_number, swept_rows}
use Rattle.plan_table.specs.Flags.{Flags}
use Rattle.plan_table.specs.Packed.{of_link, with_link, pack_rows, decode, parts_fit, fits, link_in, link_room}
use Rattle.plan_table.specs.Results.{TableResult, result, with_table}
use Rattle.plan_table.specs.declared.Table.{Table}

-- SWEEPING a table handed in: refused, it is as it was
abbrev pub plan_swept : Table → TableResult
plan_swept t = cond (fits t) (result refusal.fine (swept (decode t))) (with_table (refusal.link_at 0) t)

-- FLAGS of marked rows
pub record LinksPre (ns ms : List ℕ) : Type 0 where
  pub size : length ns ≡ max_links
  pub links : (d : ℕ) → get_or ms d 0 < max_links

pub record FlagPre (ns ms : List ℕ) : Type 0 where
  pub clear : ns ≡ replicate max_links 0
  pub links : (d : ℕ) → get_or ms d 0 < max_links

-- the numbers are the flags of the rows that marks link to
abbrev pub Flagged : (marks numbers : List ℕ) → Type 0
Flagged ms ns = Flags (λ (k : ℕ). any (model.is_the k) (map of_link ms)) ns

-- ONE ROW, from its flag and its parent's entry
abbrev pub keeps : (flag parent : ℕ) → Bool
keeps f p = not (eqb f 0) || not (eqb p 0)

abbrev pub keeps_row : (packed row : ℕ) → (numbers : List ℕ) → Bool
keeps_row w i ns = keeps (get_or ns (i + 1) 0) (get_or ns (link_in w) 0)

abbrev pub relinked : (packed : ℕ) → (numbers : List ℕ) → ℕ
relinked w ns = with_link w (get_or ns (link_in w) 0)

pub record RowPre (w i next : ℕ) (ns out : List ℕ) : Type 0 where
  pub low : i < max_rows
  pub link : link_in w < max_links
  pub below : next ≤ i
  pub numbers : length ns ≡ max_links
  pub rows : length out ≡ max_rows
  pub parent : get_or ns (link_in w) 0 < link_room

pub record RowPost (w i next : ℕ) (ns out ns' out' : List ℕ) (r : ℕ) : Type 0 where
  pub numbers : ns' ≡ cond (keeps_row w i ns) (set ns (i + 1) (next + 1)) ns
  pub rows : out' ≡ cond (keeps_row w i ns) (set out next (relinked w ns)) out
  pub result : r ≡ cond (keeps_row w i ns) (next + 1) next

-- ALL ROWS: those before i are done, `next` of them kept; the flags of the others still stand
abbrev pub number_of : model.Table → (row : ℕ) → ℕ
number_of x k = cond (is_kept x k) (new_number x k + 1) 0

pub record Sweeping (x : model.Table) (i next : ℕ) (ns out : List ℕ) : Type 0 where
  pub size : length ns ≡ max_links
  pub none : get_or ns 0 0 ≡ 0
  pub done : (k : ℕ) → k < i → get_or ns (k + 1) 0 ≡ number_of x k
  pub flags : (k : ℕ) → i ≤ k → k < max_rows → get_or ns (k + 1) 0 ≡ bit (model.is_marked x k)
  pub kept : next ≡ new_number x i
  pub rows : out ≡ pack_rows (swept_rows x 0 (take i x.rows))

pub record RowsPre (ws ms : List ℕ) (n : ℕ) (ns out : List ℕ) : Type 0 where
  pub size : length ws ≡ max_rows
  pub fits : parts_fit n ws ms ≡ true
  pub clear : ns ≡ replicate max_links 0
  pub rows : out ≡ replicate max_rows 0

-- MARKS: each link's new one
abbrev pub new_links : (numbers marks : List ℕ) → List ℕ
new_links ns ms = map (λ (m : ℕ). get_or ns m 0) ms
