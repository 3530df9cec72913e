-- All or some items of a list; areas.
use Rattle.std.specs.Prelude.{Bool, true, false, ◌&&◌, ◌||◌, cond, List, [], ◌∷◌, ◌++◌, ℕ, ◌+◌, leb, eqb, length, take, drop}

-- low ≤ x ≤ high
abbrev pub is_in : (low high x : ℕ) → Bool
is_in a b x = leb a x && leb x b

-- every item has a property
pub data All {A : Type 0} (P : A → Type 0) : List A → Type 0 where
  nothing : All P []
  also : {a : A} {l : List A} → P a → All P l → All P (a ∷ l)

-- every item passes a test
unfoldable pub all : {A : Type 0} → (A → Bool) → List A → Bool
all f [] = true
all f (x ∷ xs) = f x && all f xs

-- some item passes a test
unfoldable pub any : {A : Type 0} → (A → Bool) → List A → Bool
any f [] = false
any f (x ∷ xs) = f x || any f xs

-- the items that pass a test
unfoldable pub filtered : {A : Type 0} → (A → Bool) → List A → List A
filtered f [] = []
filtered f (x ∷ xs) = cond (f x) (x ∷ filtered f xs) (filtered f xs)

-- x is an element of the list
unfoldable pub among : ℕ → List ℕ → Bool
among x [] = false
among x (y ∷ ys) = eqb x y || among x ys

-- a test as a number
abbrev pub bit : Bool → ℕ
bit t = cond t 1 0

-- the highest byte
abbrev pub max_byte : ℕ
max_byte = 255

-- every number is a byte
unfoldable pub are_bytes : List ℕ → Bool
are_bytes [] = true
are_bytes (b ∷ bs) = leb b max_byte && are_bytes bs

-- an area with these items at its front
abbrev pub at_front : (items area : List ℕ) → List ℕ
at_front v o = v ++ drop (length v) o

-- an area with these bytes from a place on
abbrev pub over : (place : ℕ) → (bytes area : List ℕ) → List ℕ
over i b o = take i o ++ b ++ drop (i + length b) o
