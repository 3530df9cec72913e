-- Kinds: each form of bytes has one table, a row for each kind, and what is asked of a kind byte is asked of that table.
use Rattle.std.specs.Prelude.{Bool, true, false, cond, List, [], ◌∷◌, ℕ, eqb}
use Rattle.std.proofs.Math.Option.{Option, none, some}

-- a row: the kind's number, the bytes of its body, its operands
pub record Kind : Type 0 where
  pub number : ℕ
  pub body : ℕ
  pub operands : ℕ

-- such a row
abbrev pub kind_by : (number body operands : ℕ) → Kind
kind_by k s n = record { number = k; body = s; operands = n }

-- the row of a kind byte; none where the byte is no kind of the table
abbrev pub kind_of : List Kind → (byte : ℕ) → Option Kind
kind_of [] k = none
kind_of (r ∷ rs) k = cond (eqb k r.number) (some r) (kind_of rs k)

-- it is a kind
abbrev pub is_found : Option Kind → Bool
is_found none = false
is_found (some r) = true

-- a field of the row; 0 where it is no kind
abbrev pub field_by : (Kind → ℕ) → Option Kind → ℕ
field_by f none = 0
field_by f (some r) = f r

-- the bytes of its body
abbrev pub body_by : Option Kind → ℕ
body_by o = field_by (λ (r : Kind). r.body) o

-- its operands
abbrev pub operands_by : Option Kind → ℕ
operands_by o = field_by (λ (r : Kind). r.operands) o
