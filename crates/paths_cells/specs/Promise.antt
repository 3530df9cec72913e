-- What is promised of the marks after any calls: each is a byte, 1 exactly where a call marked its pair, else 0. A promise is a type; a
-- term of it in proofs/ is its proof. Calls of `is_marked` are not listed: it borrows the table by `&`, so it changes nothing. A call of
-- `clear` leaves `cleared t`, whatever the table t was: from there on the promises speak of the calls since.
use Rattle.std.specs.Prelude.{◌≡◌, Bool, false, ◌&&◌, List, [], ◌∷◌, ◌↔◌, ℕ, ◌<◌, eqb, length, get_or}
use Rattle.model.specs.Base.{All, any, bit}
use Rattle.paths_cells.specs.Pairs.{relations, place_of, mark_at, is_marked, HasRows, cleared, marked_where, MarkPre}

-- a call of `mark`: the relation, a position of the first script, one of the second, and whether the pair is to be marked
pub record Call : Type 0 where
  pub relation : ℕ
  pub first : ℕ
  pub second : ℕ
  pub holds : Bool

-- its relation and its pair are in a table of so many columns and rows
abbrev pub InTable : (columns rows : ℕ) → Call → Type 0
InTable m n c = (c.relation < relations) × (c.first < n) × (c.second < m)

-- what it leaves, by the contract of `mark`: the pair marked where the call holds, else the table as it was
abbrev pub called : (columns : ℕ) → (table : List ℕ) → Call → List ℕ
called m t c = marked_where c.holds t m c.relation c.first c.second

-- what several leave, called one after the other
unfoldable pub after : (columns : ℕ) → (table : List ℕ) → List Call → List ℕ
after m t [] = t
after m t (c ∷ cs) = after m (called m t c) cs

-- a call marks a relation and a pair: it holds, and is of just these
abbrev pub marks : (relation first second : ℕ) → Call → Bool
marks r k l c = c.holds && (eqb r c.relation && eqb k c.first && eqb l c.second)

-- a call sets a byte: it holds, and its mark stands there
abbrev pub sets : (columns place : ℕ) → Call → Bool
sets m i c = c.holds && eqb i (place_of m c.relation c.first c.second)

-- REQUEST (e), the marks: after any calls from cleared marks the byte of a relation and a pair is 1 if one of the calls marked it, else 0,
-- and `is_marked` reads just that; the table is as long as it was, and every byte of it that no call sets is the 0 that `clear` left
abbrev pub MarksKept : Type 0
MarksKept =
    (t : List ℕ) (m n : ℕ) (cs : List Call) → HasRows t m n → All (InTable m n) cs →
    ((r k l : ℕ) → r < relations → k < n → l < m →
    (mark_at (after m (cleared t) cs) m r k l ≡ bit (any (marks r k l) cs)) ×
    (is_marked (after m (cleared t) cs) m r k l ≡ any (marks r k l) cs)) ×
    (length (after m (cleared t) cs) ≡ length t) ×
    ((i : ℕ) → get_or (after m (cleared t) cs) i 0 ≡ bit (any (sets m i) cs))

-- REQUEST (e), which lists of calls these are: of a relation and a pair of the table `mark` requires exactly that, at a call that does not
-- hold, no call before it marked the pair. The promise above needs no such premise: there a call that does not hold changes nothing
abbrev pub MarkAllowed : Type 0
MarkAllowed =
    (t : List ℕ) (m n : ℕ) (cs : List Call) (c : Call) → HasRows t m n → All (InTable m n) cs → InTable m n c →
    MarkPre (after m (cleared t) cs) m c.relation c.first c.second c.holds ↔
    (c.holds ≡ false → any (marks c.relation c.first c.second) cs ≡ false)
