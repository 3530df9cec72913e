-- The reader accepts the expression at a place: what an evaluator of the script in place goes by.
use Rattle.std.specs.Prelude.{◌≡◌, true, List, ℕ, ◌+◌, ◌-◌, ◌≤◌, ◌<◌, length, get_or, drop}
use Rattle.model.specs.Limits.{max_depth, max_binders}
use Rattle.model.specs.Script.{Expr, parsed, is_script_kind, body_size, body_fits, is_binder}
use Rattle.script_records.specs.Walk.{end_at, first_at, second_at, third_at, expr_at}
use Rattle.script.specs.Reading.{parse_at}

-- the expression at a place is accepted, `left` deep at most, with so many variables bound; `records` stand before it
pub record Accepted (b : List ℕ) (at left bound : ℕ) : Type 0 where
  pub deep : left ≤ max_depth
  pub records : ℕ
  pub expr : Expr
  pub place : ℕ
  pub after : ℕ
  pub rest : List ℕ
  pub read : parse_at b at left records bound ≡ parsed expr place after rest

-- ITS RECORD
pub record RecordFits (b : List ℕ) (at left bound : ℕ) : Type 0 where
  pub kind : is_script_kind (get_or b at 0) ≡ true
  pub depth : 0 < left
  pub scope : is_binder (get_or b at 0) ≡ true → bound < max_binders
  pub whole : at + body_size (get_or b at 0) < length b
  pub fields : body_fits bound (drop at b) ≡ true

-- ITS OPERANDS, none, one, two or three: each is accepted one level below; the expression is made of theirs, and ends where the last does
pub record Nullary (b : List ℕ) (at left : ℕ) (e : Expr) : Type 0 where
  pub expr : expr_at left b at ≡ e
  pub ends : end_at b at ≡ first_at b at

pub record Unary (b : List ℕ) (at left bound : ℕ) (make : Expr → Expr) : Type 0 where
  pub first : Accepted b (first_at b at) (left - 1) bound
  pub expr : expr_at left b at ≡ make (expr_at (left - 1) b (first_at b at))
  pub ends : end_at b at ≡ second_at b at

pub record Binary (b : List ℕ) (at left bound inside : ℕ) (make : Expr → Expr → Expr) : Type 0 where
  pub first : Accepted b (first_at b at) (left - 1) bound
  pub second : Accepted b (second_at b at) (left - 1) inside
  pub expr : expr_at left b at ≡ make (expr_at (left - 1) b (first_at b at)) (expr_at (left - 1) b (second_at b at))
  pub ends : end_at b at ≡ third_at b at

pub record Ternary (b : List ℕ) (at left bound : ℕ) (make : Expr → Expr → Expr → Expr) : Type 0 where
  pub first : Accepted b (first_at b at) (left - 1) bound
  pub second : Accepted b (second_at b at) (left - 1) bound
  pub third : Accepted b (third_at b at) (left - 1) bound
  pub expr : expr_at left b at ≡
      make (expr_at (left - 1) b (first_at b at)) (expr_at (left - 1) b (second_at b at)) (expr_at (left - 1) b (third_at b at))
  pub ends : end_at b at ≡ end_at b (third_at b at)
