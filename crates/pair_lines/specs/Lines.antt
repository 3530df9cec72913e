-- Document 01, 'The program `pair`': its lines. Every line ends with 0x0A.
use Rattle.std.specs.Prelude.{List, [], ◌∷◌, ◌++◌, ℕ, ◌+◌, ◌≤◌, length}
use Rattle.model.specs.Refusal.{Refusal}
use Rattle.pair_text.specs.Text.{ascii, field, Placed}
use Rattle.pair_orders.specs.Orders.{Order, Refused, Ended}

-- Every line ends with 0x0A
abbrev pub newline : List ℕ
newline = 0x0A ∷ []

-- A FILE refused: `file`, its name, number, place
unfoldable pub file_line : (name : List ℕ) → Refusal → List ℕ
file_line w f = ascii "file " ++ w ++ field f.number ++ field f.place ++ newline

-- THE ANSWER: `free`, `upward` or `meet`
unfoldable pub answer_line : (answer : List ℕ) → List ℕ
answer_line w = ascii "answer " ++ w ++ newline

-- AN ORDER: items in first's answer, items in second's, rows at the end; or refused: which script, which number
unfoldable pub order_line : (name : List ℕ) → Order → List ℕ
order_line w (Refused s n) = w ++ ascii " refused" ++ field s ++ field n ++ newline
order_line w (Ended i j r) = w ++ field i ++ field j ++ field r ++ newline

-- THE PARTS: what each asks, and what it leaves. A name or an answer has seven bytes at most
pub record NamePre (o : List ℕ) (i : ℕ) (w : List ℕ) : Type 0 where
  pub room : i + 71 ≤ length o
  pub few : length w ≤ 7

pub record FileLine (o w : List ℕ) (f : Refusal) (o' : List ℕ) (r : ℕ) : Type 0 where
  pub text : Placed o 0 (file_line w f) o' r
  pub few : r ≤ 55

pub record AnswerLine (o w o' : List ℕ) (r : ℕ) : Type 0 where
  pub text : Placed o 0 (answer_line w) o' r
  pub few : r ≤ 15

pub record OrderLine (o : List ℕ) (i : ℕ) (w : List ℕ) (x : Order) (o' : List ℕ) (r : ℕ) : Type 0 where
  pub text : Placed o i (order_line w x) o' r
  pub few : r ≤ i + 71
