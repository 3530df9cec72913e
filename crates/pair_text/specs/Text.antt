-- Fixed text in bytes, numbers in decimal, and a text placed in an area.
use Rattle.std.specs.Prelude.{◌≡◌, true, cond, List, [], ◌∷◌, ◌++◌, ℕ, zero, suc, ◌+◌, ◌-◌, ◌*◌, ◌/◌, ◌%◌, ◌≤◌, ◌<◌, ltb, length, get_or}
use Prim.Native.Char.{code}
use Prim.Native.String.{String, len, char_at}
use Rattle.model.specs.Base.{is_in, all, over}

-- THE BYTES of a fixed text
abbrev pub codes_from : (count at : ℕ) → String → List ℕ
codes_from zero i s = []
codes_from (suc k) i s = code (char_at s i) ∷ codes_from k (suc i) s

abbrev pub ascii : String → List ℕ
ascii s = codes_from (len s) 0 s

-- A NUMBER in decimal: the highest digit first, no zero in front; fuel: how many digits it may have
abbrev pub last_digit : (n : ℕ) → ℕ
last_digit n = 48 + n % 10

unfoldable pub digits : ℕ → (n : ℕ) → List ℕ
digits zero n = []
digits (suc k) n = cond (ltb n 10) ((48 + n) ∷ []) (digits k (n / 10) ++ (last_digit n ∷ []))

-- 20 digits hold every number of 64 bits
abbrev pub decimal : (n : ℕ) → List ℕ
decimal n = digits 20 n

-- a field of a line: a space and a number
abbrev pub field : (n : ℕ) → List ℕ
field n = ascii " " ++ decimal n

-- A TEXT PLACED in an area, the bytes around it as they were: the area after it, and the place past it
pub record Placed (o : List ℕ) (i : ℕ) (s o' : List ℕ) (r : ℕ) : Type 0 where
  pub area : o' ≡ over i s o
  pub next : r ≡ i + length s

-- THE PARTS: what each leaves
pub record Number (o : List ℕ) (i n : ℕ) (o' : List ℕ) (r : ℕ) : Type 0 where
  pub text : Placed o i (decimal n) o' r
  pub few : r ≤ i + 20

pub record Field (o : List ℕ) (i n : ℕ) (o' : List ℕ) (r : ℕ) : Type 0 where
  pub text : Placed o i (field n) o' r
  pub few : r ≤ i + 21

-- DIGITS READ BACK, from the first on; the number stands before them so far
unfoldable pub value_from : (before : ℕ) → (digits : List ℕ) → ℕ
value_from v [] = v
value_from v (d ∷ ds) = value_from (10 * v + (d - 48)) ds

-- A number of 64 bits is read back from its digits, each of which is one of `0` to `9`; one below 10 has one digit, and no zero stands in
-- front of others
abbrev pub DecimalBack : Type 0
DecimalBack =
    (n : ℕ) → n < 18446744073709551616 →
    (value_from 0 (decimal n) ≡ n) × (all (is_in 48 57) (decimal n) ≡ true) × (n < 10 → length (decimal n) ≡ 1) ×
    (10 ≤ n → 48 < get_or (decimal n) 0 0)
