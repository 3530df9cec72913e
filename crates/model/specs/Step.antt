-- Document 01: what a test sees, which rows a step reaches, what pick keeps; of a pick, request (a) too.
use Rattle.std.specs.Prelude.{Bool, false, ◌&&◌, ◌||◌, not, cond, List, [], ◌∷◌, ℕ, zero, suc, ◌+◌, ◌-◌, ltb, eqb}
use Rattle.model.specs.Base.{any, filtered}
use Rattle.model.specs.Table.{Row, Table, row_at, count, is_the}
use Rattle.model.specs.Sweep.{through}
use Rattle.model.specs.Script.{Step}

-- LETTERS: what a test sees of a row, a leaf or an element's name; a leaf's value is not part of it
pub data Letter : Type 0 where
  leaf_letter : Letter
  named : ℕ → Letter

-- the letter of a row
abbrev pub letter_of : Row → Letter
letter_of r = cond r.is_leaf leaf_letter (named r.tag)

-- Test: 0 any node, 1 any element, 2 any leaf, 3 the named element
abbrev pub admits : Step → Letter → Bool
admits s leaf_letter = eqb s.test 0 || eqb s.test 2
admits s (named n) = eqb s.test 0 || eqb s.test 1 || (not (eqb s.test 2) && eqb n s.name)

-- AXES: parent, and ancestor
abbrev pub parent_is : Table → (parent row : ℕ) → Bool
parent_is x p i = is_the p (row_at x i).parent

-- fuel: a row's number plus one, parents being lower
unfoldable pub is_below_from : ℕ → Table → (top row : ℕ) → Bool
is_below_from zero x t i = false
is_below_from (suc n) x t i = parent_is x t i || through (is_below_from n x t) (row_at x i).parent

-- a row below another
abbrev pub is_below : Table → (top row : ℕ) → Bool
is_below x t i = is_below_from (suc i) x t i

-- Axis: 0 child, 1 descendant, 2 parent, 3 ancestor
abbrev pub reaches : Table → (axis from to : ℕ) → Bool
reaches x a i j =
    cond (eqb a 0) (parent_is x i j) (cond (eqb a 1) (is_below x i j) (cond (eqb a 2) (parent_is x j i) (is_below x j i)))

-- the rows that pass a test, of so many from a row on, in rising number
unfoldable pub collect : (ℕ → Bool) → (row : ℕ) → ℕ → List ℕ
collect f i zero = []
collect f i (suc n) = cond (f i) (i ∷ collect f (suc i) n) (collect f (suc i) n)

-- a row that passes the test and that the axis reaches from an item
abbrev pub is_reached : Table → Step → (items : List ℕ) → (row : ℕ) → Bool
is_reached x s v j = admits s (letter_of (row_at x j)) && any (λ (i : ℕ). reaches x s.axis i j) v

-- A step answers its rows in rising number, each once
abbrev pub stepped : Table → Step → (items : List ℕ) → List ℕ
stepped x s v = collect (is_reached x s v) 0 (count x)

-- PICK: the order of signed values, two's complement with its halves exchanged
abbrev pub signed_key : (value : ℕ) → ℕ
signed_key v = cond (ltb v 128) (v + 128) (v - 128)

-- Relation: 0 equal, 1 less, 2 greater
abbrev pub compares : (relation constant value : ℕ) → Bool
compares r c v =
    cond (eqb r 0) (eqb v c) (cond (eqb r 1) (ltb (signed_key v) (signed_key c)) (ltb (signed_key c) (signed_key v)))

-- Request (a): −128 stands for a leaf that nobody has measured
abbrev pub unsurveyed : ℕ
unsurveyed = 0x80

-- any other value was measured
abbrev pub is_surveyed : (value : ℕ) → Bool
is_surveyed v = not (eqb v unsurveyed)

-- Request (a): relations 1 and 2 never keep −128
abbrev pub relates : (relation constant value : ℕ) → Bool
relates r c v = (eqb r 0 || is_surveyed v) && compares r c v

-- Pick keeps the leaves whose signed value stands in the relation to the constant; elements are dropped
abbrev pub is_picked : Table → (relation constant row : ℕ) → Bool
is_picked x r c i = (row_at x i).is_leaf && relates r c (row_at x i).tag

-- the items picked, in order
abbrev pub picked : Table → (relation constant : ℕ) → (items : List ℕ) → List ℕ
picked x r c is = filtered (is_picked x r c) is
