-- Document 01's table of refusals, as requests have changed it: number, word and when it is given.
use Rattle.std.specs.Prelude.{Bool, ◌||◌, cond, ℕ, leb, eqb}

-- a refusal answers its number and place; number 0: nothing is refused
pub record Refusal : Type 0 where
  pub number : ℕ
  pub place : ℕ

-- a refusal of a number at a place
abbrev pub refusal : (number place : ℕ) → Refusal
refusal n i = record { number = n; place = i }

-- what a C call or an analysis answers: a refusal's number, whose it is, and its place; or number 0, and what the call says
pub record Values : Type 0 where
  pub number : ℕ
  pub which : ℕ
  pub place : ℕ

-- these three
abbrev pub values : (number which place : ℕ) → Values
values n w i = record { number = n; which = w; place = i }

-- nothing is refused
abbrev pub fine : Refusal
fine = refusal 0 0

-- 1 kind: kind byte not of this form
abbrev pub kind_at : (place : ℕ) → Refusal
kind_at i = refusal 1 i

-- 2 short: a record or operand is cut off by the end
abbrev pub short_at : (place : ℕ) → Refusal
short_at i = refusal 2 i

-- 3 tail: bytes after the whole script
abbrev pub tail_at : (place : ℕ) → Refusal
tail_at i = refusal 3 i

-- 4 field: a body field out of its range, a variable not bound
abbrev pub field_at : (place : ℕ) → Refusal
field_at i = refusal 4 i

-- 5 size: 513th row, 65th script record, depth 17, ninth nested binder, 2,049th history record read
abbrev pub size_at : (place : ℕ) → Refusal
size_at i = refusal 5 i

-- 6 link: parent, mark or row order breaks the table's rules, or a history does not fit
abbrev pub link_at : (place : ℕ) → Refusal
link_at i = refusal 6 i

-- 7 target: insert's target is not one element
abbrev pub target_at : (place : ℕ) → Refusal
target_at i = refusal 7 i

-- 8 items: a join or 'for' passes 512 items
abbrev pub items_at : (place : ℕ) → Refusal
items_at i = refusal 8 i

-- 9 is retired by request (h), and its number is not used again

-- 10 table: new rows pass 512
abbrev pub table_at : (place : ℕ) → Refusal
table_at i = refusal 10 i

-- 11 lent: a lent area is too short for its stated need; always at place 0
abbrev pub lent_short : Refusal
lent_short = refusal 11 0

-- the table's numbers, and 0
abbrev pub is_listed : (number : ℕ) → Bool
is_listed n = leb n 8 || eqb n 10 || eqb n 11

-- the numbers of a run's own refusals
abbrev pub is_of_run : (number : ℕ) → Bool
is_of_run n = eqb n 7 || eqb n 8 || eqb n 10

-- the refusal of a number at a place, 0 being none
abbrev pub refusal_at : (number place : ℕ) → Refusal
refusal_at n i = cond (eqb n 0) fine (refusal n i)

-- THE ORDER OF CHECKS: the first refusal counts
abbrev pub is_fine : Refusal → Bool
is_fine x = eqb x.number 0

-- the second refusal only where there is no first
abbrev pub or_else : Refusal → Refusal → Refusal
or_else x y = cond (is_fine x) y x

-- the condition that must hold, and the refusal where it does not
abbrev pub unless : Bool → Refusal → Refusal
unless z x = cond z fine x
