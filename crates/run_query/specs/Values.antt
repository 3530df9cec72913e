-- Values in the work area: a value stands from a place up to another. Contracts of the operators on values.
use Rattle.std.specs.Prelude.{◌≡◌, Bool, true, ◌&&◌, ◌||◌, not, cond, List, [], ◌∷◌, ◌++◌, ℕ, ◌+◌, ◌-◌, ◌≤◌, ◌<◌, eqb, length, get_or}
use Rattle.std.specs.Prelude.{take, drop}
use Rattle.model.specs.Limits.{max_items, max_links, max_rows}
use Rattle.model.specs.Script.{Step, step_by}
use Rattle.model.specs.Table.{Table, row_at}
use Rattle.model.specs.Step.{admits, letter_of, is_reached, is_below, stepped, collect}
use Rattle.plan_table.specs.Packed.{row_of, decode_parts, link_in}
use Rattle.run_query.specs.Stepping.{RowsHeld, Flagged, ClearBelow}

-- the value from a place up to another
abbrev pub value_at : (work : List ℕ) → (from to : ℕ) → List ℕ
value_at w i j = take (j - i) (drop i w)

-- w' is w up to the place, then the value v, which ends at r; what follows is open
pub record Appended (v w : List ℕ) (from : ℕ) (w' : List ℕ) (r : ℕ) : Type 0 where
  pub front : take r w' ≡ take from w ++ v
  pub end : r ≡ from + length v

-- whatever value ends at the place, w' has it with one item more where t holds, and it ends at r
pub record Grown (t : Bool) (item : ℕ) (w : List ℕ) (at : ℕ) (w' : List ℕ) (r : ℕ) : Type 0 where
  pub value : (v u : List ℕ) (from : ℕ) → Appended v u from w at → Appended (v ++ cond t (item ∷ []) []) u from w' r
  pub short : r ≤ at + 1

-- COLLECTING the rows that are flagged and pass the test
abbrev pub kept : (rows : List ℕ) → (row flag test name : ℕ) → Bool
kept ws j f t n = not (eqb f 0) && admits (step_by 0 t n) (letter_of (row_of (get_or ws j 0)))

abbrev pub kept_rows : (rows reached : List ℕ) → (test name count : ℕ) → List ℕ
kept_rows ws rs t n k = collect (λ (j : ℕ). kept ws j (get_or rs (j + 1) 0) t n) 0 k

pub record CollectPre (ws : List ℕ) (n : ℕ) (rs w : List ℕ) (from : ℕ) : Type 0 where
  pub rows : length ws ≡ max_rows
  pub few : n ≤ max_rows
  pub reached : length rs ≡ max_links
  pub room : from + max_items ≤ length w

-- ALL BELOW the flagged items: no row below `low` has a flag, and there is room for 512
pub record DescendPre (ws : List ℕ) (n : ℕ) (fs : List ℕ) (low : ℕ) (w : List ℕ) (from : ℕ) : Type 0 where
  pub held : RowsHeld ws n
  pub size : length fs ≡ max_links
  pub flags : ClearBelow n low fs
  pub room : from + max_items ≤ length w

-- the rows that a step reaches, of those below a bound, are appended
abbrev pub SteppedTo : (rows : List ℕ) → (count : ℕ) → Step → (items : List ℕ) → (bound : ℕ) → (before : List ℕ) → (from : ℕ) →
    (after : List ℕ) → (end : ℕ) → Type 0
SteppedTo ws n s v j w from w' r = (ms : List ℕ) → Appended (collect (is_reached (decode_parts n ws ms) s v) 0 j) w from w' r

-- whatever value has the flags, the rows that a step down reaches from it
abbrev pub DescendPost : (rows : List ℕ) → (count : ℕ) → Step → (flags before : List ℕ) → (from : ℕ) → (after : List ℕ) → (end : ℕ) →
    Type 0
DescendPost ws n s fs w from w' r = (v : List ℕ) → Flagged v fs → SteppedTo ws n s v n w from w' r

-- FROM ONE ITEM, a row, with room for 512
pub record ItemPre (ws : List ℕ) (n item : ℕ) (w : List ℕ) (from : ℕ) : Type 0 where
  pub held : RowsHeld ws n
  pub low : item < n
  pub room : from + max_items ≤ length w

-- the rows that a step reaches from it
abbrev pub ItemPost : (rows : List ℕ) → (count : ℕ) → Step → (item : ℕ) → (before : List ℕ) → (from : ℕ) → (after : List ℕ) →
    (end : ℕ) → Type 0
ItemPost ws n s i w from w' r = SteppedTo ws n s (i ∷ []) n w from w' r

-- a row with a link to the item that passes the test
abbrev pub is_child : (rows : List ℕ) → (row link test name : ℕ) → Bool
is_child ws j l t n = eqb (link_in (get_or ws j 0)) l && admits (step_by 0 t n) (letter_of (row_of (get_or ws j 0)))

-- no row of so many from a place on has the link
abbrev pub NoneLinked : (rows : List ℕ) → (from many link : ℕ) → Type 0
NoneLinked ws i m l = (k : ℕ) → i ≤ k → k < i + m → link_in (get_or ws k 0) ≡ l → ⊥

-- rows passed over: none has the link
pub record Skipped (ws : List ℕ) (n link from r : ℕ) : Type 0 where
  pub low : from ≤ r
  pub high : r ≤ n
  pub none : NoneLinked ws from (r - from) link

-- from a row on, with room for as many as follow
pub record ScanPre (ws : List ℕ) (n item low : ℕ) (w : List ℕ) (from : ℕ) : Type 0 where
  pub held : RowsHeld ws n
  pub row : item < n
  pub within : low ≤ n
  pub room : from + (n - low) ≤ length w

-- whatever is appended of the step up to there, all of it then is
abbrev pub ScanPost : (rows : List ℕ) → (count : ℕ) → Step → (item low : ℕ) → (before : List ℕ) → (from : ℕ) → (after : List ℕ) →
    (end : ℕ) → Type 0
ScanPost ws n s i low w from w' r =
    (u : List ℕ) (start : ℕ) → SteppedTo ws n s (i ∷ []) low u start w from → SteppedTo ws n s (i ∷ []) n u start w' r

-- the rows that pass the test on the way up by a link: its row, and along a deep axis those above it
abbrev pub is_on_way : Table → (deep : Bool) → Step → (link row : ℕ) → Bool
is_on_way x d s l j = admits s (letter_of (row_at x j)) && (eqb l (j + 1) || (d && is_below x j (l - 1)))

-- in rising number
abbrev pub way_up : Table → (deep : Bool) → Step → (link : ℕ) → List ℕ
way_up x d s l = collect (is_on_way x d s l) 0 l

-- COUNTED from an item, a row
pub record CountPre (ws : List ℕ) (n item : ℕ) : Type 0 where
  pub held : RowsHeld ws n
  pub low : item < n

-- its ancestors that pass the test, by its link
abbrev pub way_from : (rows : List ℕ) → (count test name link : ℕ) → (marks : List ℕ) → List ℕ
way_from ws n t a l ms = way_up (decode_parts n ws ms) true (step_by 3 t a) l

-- are so many
abbrev pub CountPost : (rows : List ℕ) → (count item test name : ℕ) → (result : ℕ) → Type 0
CountPost ws n i t a r = (ms : List ℕ) → r ≡ length (way_from ws n t a (link_in (get_or ws i 0)) ms)

-- A STEP from the value at a place: its items are rows, and there is room for 512
pub record StepPre (ws : List ℕ) (n axis : ℕ) (w : List ℕ) (from to : ℕ) : Type 0 where
  pub held : RowsHeld ws n
  pub axes : axis < 4
  pub order : from ≤ to
  pub within : to ≤ length w
  pub room : from + max_items ≤ length w
  pub low : (k : ℕ) → k < to - from → get_or (value_at w from to) k 0 < n

pub record StepPost (ws : List ℕ) (n : ℕ) (s : Step) (w : List ℕ) (from to : ℕ) (w' : List ℕ) (r : ℕ) : Type 0 where
  pub value : (ms : List ℕ) → Appended (stepped (decode_parts n ws ms) s (value_at w from to)) w from w' r
