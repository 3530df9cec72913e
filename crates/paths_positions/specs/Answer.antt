-- The answer by positions.
use Rattle.std.specs.Prelude.{◌≡◌, Bool, false, ◌&&◌, ◌||◌, cond, List, ℕ, zero, suc, length}
use Rattle.model.specs.Script.{Expr}
use Rattle.model.specs.Paths.{has_up}
use Rattle.model.specs.Meeting.{Cell, between, is_met, Answer, free, upward, meet}
use Rattle.paths_positions.specs.Positions.{Entry, entry_at, entries_of, paths_on}

-- MEETING: some position that one modifies meets one that the other accesses. A test of some number below the count
unfoldable pub any_up_to : (ℕ → Bool) → (count : ℕ) → Bool
any_up_to f zero = false
any_up_to f (suc n) = any_up_to f n || f n

-- one of the two is modified, the other accessed
abbrev pub is_tested : Entry → Entry → Bool
is_tested x y = (x.modified && y.accessed) || (x.accessed && y.modified)

-- what positions k and l have in common
abbrev pub cell_at : (first second : List Entry) → (k l : ℕ) → Cell
cell_at es fs k l = between (paths_on es k) (paths_on fs l)

-- no element in common: none on both, down or up
pub record NoElement (c : Cell) : Type 0 where
  pub on : c.on_element ≡ false
  pub down : c.down_element ≡ false
  pub up : c.up_element ≡ false

-- they are tested, and meet
abbrev pub meet_at : (first second : List Entry) → (k l : ℕ) → Bool
meet_at es fs k l = is_tested (entry_at es k) (entry_at fs l) && is_met (cell_at es fs k l)

-- a position with any of those below n
abbrev pub row_meets : (first second : List Entry) → (k n : ℕ) → Bool
row_meets es fs k n = any_up_to (meet_at es fs k) n

-- any two positions
abbrev pub positions_meet : (first second : List Entry) → Bool
positions_meet es fs = any_up_to (λ (k : ℕ). row_meets es fs k (length fs)) (length es)

-- THE ANSWER by positions
abbrev pub answer_by : (first second : Expr) → Answer
answer_by e f = cond (has_up e || has_up f) upward (cond (positions_meet (entries_of e) (entries_of f)) meet free)
