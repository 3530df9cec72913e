-- Pick: the rows kept are told by their ranks.
use Rattle.std.specs.Prelude.{◌≡◌, ℕ, ◌+◌, ◌-◌, ◌*◌, ◌/◌, ◌%◌, ◌<◌, ◌≤◌, Bool, cond, ◌&&◌, List, length, nat_le, nat_lt, slice_index}
use Rattle.model.specs.Limits.{max_rows}
use Rattle.model.specs.Step.{relates, picked}
use Rattle.plan_table.specs.Packed.{row_of, leaf_bits, link_room, decode_parts}
use Rattle.run_query.specs.Values.{value_at, Appended}

-- THE RANK of a packed row: leaves come first, by value and then by link. Packed rows, and their ranks, are below this
abbrev pub all_ranks : ℕ
all_ranks = 4294967296

-- the ranks of leaves are below this
abbrev pub leaf_ranks : ℕ
leaf_ranks = 1073741824

-- and those of values below 128 below this: a value has a rank for each link
abbrev pub half_ranks : ℕ
half_ranks = 128 * link_room

-- by its two low bits, and then by the others
abbrev pub turned : ℕ → ℕ
turned x = x % 4 * leaf_ranks + x / 4

-- a leaf's kind is taken away first, so that a leaf's two low bits are zero
abbrev pub rank_in : (packed : ℕ) → ℕ
rank_in w = turned ((w + (all_ranks - leaf_bits)) % all_ranks)

-- a rank with the halves of a size exchanged
abbrev pub key_by : (half rank : ℕ) → ℕ
key_by h r = cond (nat_lt r h) (r + h) (r - h)

-- it lies in a range, from `low` to below `high`
abbrev pub key_in : (half low high rank : ℕ) → Bool
key_in h l u r = nat_le l (key_by h r) && nat_lt (key_by h r) u

-- a rank is kept: with `lower` added where it is below `half`, or else `upper`, it comes to less than `many`
abbrev pub is_kept : (half lower upper many rank : ℕ) → Bool
is_kept h l u m r = nat_lt ((r + cond (nat_lt r h) l u) % all_ranks) m

-- the ranks kept are those in a range
abbrev pub KeepsRange : (size low high half lower upper many : ℕ) → Type 0
KeepsRange s i j h l u m = (r : ℕ) → r < all_ranks → is_kept h l u m r ≡ key_in s i j r

-- the ranks kept are those of the leaves whose value stands in the relation to the constant
abbrev pub KeepsRelated : (relation constant half lower upper many : ℕ) → Type 0
KeepsRelated r c h l u m = (w : ℕ) → w < all_ranks → is_kept h l u m (rank_in w) ≡ ((row_of w).is_leaf && relates r c (row_of w).tag)

-- PICK from the value at a place: what it keeps for every count of rows above the items
pub record PickPre (ws w : List ℕ) (from to : ℕ) : Type 0 where
  pub rows : length ws ≡ max_rows
  pub order : from ≤ to
  pub within : to ≤ length w
  pub low : (k : ℕ) → k < to - from → slice_index (value_at w from to) k < max_rows

pub record PickPost (ws : List ℕ) (relation constant : ℕ) (w : List ℕ) (from to : ℕ) (w' : List ℕ) (r : ℕ) : Type 0 where
  pub value : (n : ℕ) (ms : List ℕ) → n ≤ max_rows → ((k : ℕ) → k < to - from → slice_index (value_at w from to) k < n) →
      Appended (picked (decode_parts n ws ms) relation constant (value_at w from to)) w from w' r
