-- What reading a script answers, and the contracts of the reader's parts.
use Rattle.std.specs.Prelude.{◌≡◌, Bool, List, ℕ, suc, ◌+◌, ◌-◌, ◌≤◌, length, get_or, drop, Result, Ok, Err, IfOk}
use Rattle.model.specs.Limits.{max_depth}
use Rattle.model.specs.Refusal as refusal
use Rattle.model.specs.Refusal.{Refusal}
use Rattle.model.specs.Script.{Parsed, refused, parsed, parse_from, read_script, expr_refusal, body_size, body_fits, refusal_by}
use Rattle.plan_table.specs.Refusals.{number_of}
use Rattle.plan_table.specs.Results.{End, refusal_of}
use Rattle.plan_table.specs.declared.Reason.{Reason}
use Rattle.script_records.specs.Kinds.{byte_of}
use Rattle.script_records.specs.declared.kinds.Kind.{Kind}
use Rattle.script.specs.declared.read.Parsed as found

-- READING a script: its refusal, or none
abbrev pub script_read : (bytes : List ℕ) → Refusal
script_read b = refusal_of (refusal_by (read_script b))

-- the model's reader at a place: the expression there may be `left` deep, so its own depth is 17 less that
abbrev pub parse_at : (bytes : List ℕ) → (at left records bound : ℕ) → Parsed
parse_at b i k n v = parse_from (suc (suc k)) (max_depth + 1 - k) i n v (drop i b)

-- how it ends: the refusal's number, or 0, and place, or the place past the expression; the records so far, 0 where it is refused
abbrev pub end_by : (number place records : ℕ) → End
end_by n i m = record { number = n; place = i; count = m }

-- of what the reader answers, and where it stands then
abbrev pub parsed_by : {A : Type 0} → Result A Reason → found.Parsed → End
parsed_by (Ok u) x = end_by 0 x.place x.records
parsed_by (Err r) x = end_by (number_of r) x.place 0

-- of what is parsed
abbrev pub end_of : Parsed → End
end_of (refused x) = end_by x.number x.place 0
end_of (parsed e i n b) = end_by 0 i n

-- of an expression's bytes
abbrev pub expression_read : (bytes : List ℕ) → (at left records bound : ℕ) → End
expression_read b i k n v = end_of (parse_at b i k n v)

-- THE PARTS: what each asks, and what it leaves
pub record BodyPre (s : List ℕ) : Type 0 where
  pub whole : 1 + body_size (get_or s 0 0) ≤ length s

pub record BodyPost (s : List ℕ) (bound : ℕ) (r : Bool) : Type 0 where
  pub fits : r ≡ body_fits bound s

pub record ExpressionPre (b : List ℕ) (at left : ℕ) : Type 0 where
  pub within : at ≤ length b
  pub depth : left ≤ max_depth

pub record ExpressionPost (b : List ℕ) (at left records bound : ℕ) (r : End) : Type 0 where
  pub read : r ≡ expression_read b at left records bound

pub record HeadPost (s : List ℕ) (left records bound r : ℕ) : Type 0 where
  pub refusal : (i : ℕ) → expr_refusal i records (max_depth + 1 - left) bound s ≡ refusal.refusal_at r i

-- the kind that is read is that of the byte at the front
abbrev pub HeadKind : (s : List ℕ) → Result Kind Reason → Type 0
HeadKind s r = IfOk r (λ k. byte_of k ≡ get_or s 0 0)
