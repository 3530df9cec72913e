-- Document 01, 'The program `pair`': what it prints for the content of its three files.
use Rattle.std.specs.Prelude.{◌≡◌, cond, List, ◌++◌, ℕ, ◌≤◌, ltb, eqb, length, take}
use Rattle.model.specs.Base.{at_front}
use Rattle.plan.specs.Calls.{plan_read}
use Rattle.plan_table.specs.declared.Table.{Table}
use Rattle.plan_table.specs.Results.{TableResult, Written, refusal_of}
use Rattle.paths.specs.Analysis.{Analysis, Refused, Free, Upward, Meet, analysed, answer_text}
use Rattle.pair_text.specs.Text.{ascii, Placed}
use Rattle.pair_orders.specs.Orders.{Order, order, swap}
use Rattle.pair_lines.specs.Lines.{file_line, answer_line, order_line}
use Rattle.model.specs.Refusal.{fine, lent_short}

-- the bytes that the lines take at most
abbrev pub room : ℕ
room = 160

-- THREE LINES: the answer, and both orders
abbrev pub lines_of : (answer : List ℕ) → (oneTwo twoOne : Order) → List ℕ
lines_of w x y = answer_line w ++ order_line (ascii "one-two") x ++ order_line (ascii "two-one") y

-- each from the plan read
unfoldable pub three_lines : Table → (answer first second : List ℕ) → List ℕ
three_lines t w b c = lines_of w (order t b c) (swap (order t c b))

-- A refused script gives the only line; after every answer both orders are run
abbrev pub text_by : Analysis → Table → (first second : List ℕ) → List ℕ
text_by (Refused s f) t b c = file_line (cond (eqb s 1) (ascii "first") (ascii "second")) f
text_by Free t b c = three_lines t (ascii (answer_text Free)) b c
text_by Upward t b c = three_lines t (ascii (answer_text Upward)) b c
text_by Meet t b c = three_lines t (ascii (answer_text Meet)) b c

-- The first file refused, in the order plan, first, second, gives the only line
abbrev pub plan_text : TableResult → (first second : List ℕ) → List ℕ
plan_text r b c = cond (eqb r.refusal.number 0) (text_by (analysed b c) r.table b c) (file_line (ascii "plan") r.refusal)

-- ALL LINES
unfoldable pub pair_text : (plan first second : List ℕ) → List ℕ
pair_text p b c = plan_text (plan_read p) b c

-- in an area lent for them: 11 where it is too short, and nothing touched; the bytes past the lines stay
abbrev pub pair_written : (plan first second out : List ℕ) → Written
pair_written p b c o =
    cond (ltb (length o) room)
    (record { refusal = refusal_of lent_short; bytes = 0 })
    (record { refusal = refusal_of fine; bytes = length (pair_text p b c) })

-- the area after it
abbrev pub pair_out : (plan first second out : List ℕ) → List ℕ
pair_out p b c o = cond (ltb (length o) room) o (at_front (pair_text p b c) o)

-- so many bytes stand at the front of the area: both parts, so that a caller may lend the front with no proof of its own
abbrev pub Counted : (bytes : ℕ) → (area : List ℕ) → Type 0
Counted n o = (n ≤ length o) × (n ≡ length (take n o))

-- what lines leave that are placed at the start
pub record Report (text o o' : List ℕ) (r : ℕ) : Type 0 where
  pub placed : Placed o 0 text o' r
  pub few : r ≤ room
