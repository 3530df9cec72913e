-- For a walk of an accepted script: an accepted expression in place and, kind by kind, its operands.
-- It starts from `script-accepted` of ScriptLaws; the ranges of fields are in FieldLaws.
use mathlib.Core.Path.{◌≡◌, refl, ap, sym, subst, ◌∙◌}
use mathlib.Core.List.{List}
use Prim.Native.Nat.{ℕ, suc, ◌+◌, ◌-◌, ◌<◌}
use native.Mathlib.Omega.{arith}
use lib.ListN.{get_or}
use Rattle.model.specs.Limits.{max_depth}
use Rattle.model.specs.Script.{Expr, nil, document, var, step, both, let_in, for_in, if_in, element, leaf, delete, insert, pick, step_by}
use Rattle.model.specs.Script.{nil_kind, document_kind, variable_kind, step_kind, join_kind, let_kind, for_kind, if_kind}
use Rattle.model.specs.Script.{new_element_kind, new_leaf_kind, delete_kind, insert_kind, pick_kind, script_kinds, arity, parsed}
use Rattle.script_records.specs.Walk.{inner, past, end_at, first_at, second_at, third_at, expr_of, expr_at}
use Rattle.script.specs.Reading.{parse_at}
use Rattle.script.specs.Accepted.{Accepted, RecordFits, Nullary, Unary, Binary, Ternary}
use Rattle.script_records.proofs.WalkLaws.{past_none}
use Rattle.script.proofs.ParseLaws.{after_first, after_second, Then}
use Rattle.script.proofs.PlaceLaws.{Reads, Known, reads, reads_end, accepted_fits, pending}
use Rattle.script.proofs.PlaceLaws.{first_operand, first_reads, second_operand, second_reads, third_operand}

-- where it ends, and what it is
module _ {b : List ℕ} {at left v : ℕ} (a : Accepted b at left v) where
  reading : Reads b at left a.expr a.place a.rest
  reading = reads b left a.deep at a.records v a.expr a.place a.after a.rest a.read

  pub accepted_record : RecordFits b at left v
  accepted_record = accepted_fits b at left a.records v a.read

  accepted_past : (p : ℕ) → past (suc p) b at ≡ past p b (end_at b at)
  accepted_past p = reading.ends p ∙ ap (past p b) (reads_end reading)

  level : left ≡ suc (left - 1)
  level = omega (arith, accepted_record.depth)

  made : expr_at left b at ≡
      expr_of (get_or b at 0) b at (expr_at (left - 1) b (first_at b at)) (expr_at (left - 1) b (second_at b at))
      (expr_at (left - 1) b (third_at b at))
  unfolding expr_at
  made = ap (λ (q : ℕ). expr_at q b at) level

  -- its operands
  read_level : parse_at b at (suc (left - 1)) a.records v ≡ parsed a.expr a.place a.after a.rest
  read_level = ap (λ (q : ℕ). parse_at b at q a.records v) (sym level) ∙ a.read

  shallow : left - 1 < max_depth
  shallow = omega (arith, a.deep, accepted_record.depth)

  known : Known b (left - 1)
  known = reads b (left - 1) (omega (arith, a.deep))

  abbrev FirstFound : Type 0
  FirstFound =
      Then (parse_at b (first_at b at) (left - 1) (a.records + 1) v) (after_first (left - 1) (get_or b at 0) b at v)
      a.expr a.place a.after a.rest

  first_found : 0 < arity (get_or b at 0) → FirstFound
  first_found = first_operand b at (left - 1) a.records v shallow known read_level

  accepted_first : 0 < arity (get_or b at 0) → Accepted b (first_at b at) (left - 1) v
  accepted_first some =
      let t = first_found some in
      record {
        deep = omega (arith, a.deep);
        records = a.records + 1;
        expr = t.expr;
        place = t.place;
        after = t.records;
        rest = t.bytes;
        read = t.is;
      }

  module _ (t : FirstFound) where
    second_at_lem : t.place ≡ second_at b at
    second_at_lem = reads_end (first_reads b at (left - 1) a.records v shallow known read_level t)

    abbrev SecondFound : Type 0
    SecondFound =
        Then (parse_at b t.place (left - 1) t.records (inner (get_or b at 0) v)) (after_second (left - 1) (get_or b at 0) b at v t.expr)
        a.expr a.place a.after a.rest

    second_found : 1 < arity (get_or b at 0) → SecondFound
    second_found = second_operand b at (left - 1) a.records v shallow known read_level t

    found_second : 1 < arity (get_or b at 0) → Accepted b (second_at b at) (left - 1) (inner (get_or b at 0) v)
    found_second more =
        let u = second_found more in
        record {
          deep = omega (arith, a.deep);
          records = t.records;
          expr = u.expr;
          place = u.place;
          after = u.records;
          rest = u.bytes;
          read = ap (λ (q : ℕ). parse_at b q (left - 1) t.records (inner (get_or b at 0) v)) (sym second_at_lem) ∙ u.is;
        }

    found_third : SecondFound → 2 < arity (get_or b at 0) → Accepted b (third_at b at) (left - 1) v
    found_third u most =
        let w = third_operand b at (left - 1) a.records v shallow known read_level t u most in
        let p : u.place ≡ third_at b at =
        reads_end (second_reads b at (left - 1) a.records v shallow known read_level t u) ∙ ap (end_at b) second_at_lem in
        record {
          deep = omega (arith, a.deep);
          records = u.records;
          expr = w.expr;
          place = w.place;
          after = w.records;
          rest = w.bytes;
          read = ap (λ (q : ℕ). parse_at b q (left - 1) u.records v) (sym p) ∙ w.is;
        }

  accepted_second : 1 < arity (get_or b at 0) → Accepted b (second_at b at) (left - 1) (inner (get_or b at 0) v)
  accepted_second more = found_second (first_found (omega arith)) more

  accepted_third : 2 < arity (get_or b at 0) → Accepted b (third_at b at) (left - 1) v
  accepted_third most =
      let t = first_found (omega arith) in
      found_third t (second_found t (omega arith)) most

-- BY ARITY: the expression is made of its operands' and ends where the last does
module _ {b : List ℕ} {at left v : ℕ} (a : Accepted b at left v) (k : ℕ) (kind : get_or b at 0 ≡ k) where
  made_by : expr_at left b at ≡
      expr_of k b at (expr_at (left - 1) b (first_at b at)) (expr_at (left - 1) b (second_at b at)) (expr_at (left - 1) b (third_at b at))
  made_by = made a ∙ rw kind

  module _ (q : ℕ) (count : arity k ≡ q) where
    operands_are : arity (get_or b at 0) ≡ q
    operands_are = ap (λ (j : ℕ). arity j) kind ∙ count

    ends_by : end_at b at ≡ past q b (first_at b at)
    ends_by = pending b at (left - 1) (accepted_record a).whole 0 q (omega (arith, operands_are))

  nullary : (e : Expr) → arity k ≡ 0 → ((x y z : Expr) → expr_of k b at x y z ≡ e) → Nullary b at left e
  nullary e n f = record { expr = made_by ∙ f _ _ _; ends = ends_by 0 n ∙ past_none b (first_at b at) }

  unary : (make : Expr → Expr) → arity k ≡ 1 → ((x y z : Expr) → expr_of k b at x y z ≡ make x) → Unary b at left v make
  unary make n f =
      record {
        first = accepted_first a (omega (arith, operands_are 1 n));
        expr = made_by ∙ f _ _ _;
        ends = ends_by 1 n;
      }

  binary : (w : ℕ) (make : Expr → Expr → Expr) → inner k v ≡ w → arity k ≡ 2 → ((x y z : Expr) → expr_of k b at x y z ≡ make x y) →
      Binary b at left v w make
  binary w make scope n f =
      let x = accepted_first a (omega (arith, operands_are 2 n)) in
      let y = accepted_second a (omega (arith, operands_are 2 n)) in
      record {
        first = x;
        second = subst (Accepted b (second_at b at) (left - 1)) (ap (λ (j : ℕ). inner j v) kind ∙ scope) y;
        expr = made_by ∙ f _ _ _;
        ends = ends_by 2 n ∙ accepted_past x 1;
      }

  ternary : (make : Expr → Expr → Expr → Expr) → inner k v ≡ v → arity k ≡ 3 → ((x y z : Expr) → expr_of k b at x y z ≡ make x y z) →
      Ternary b at left v make
  ternary make scope n f =
      let x = accepted_first a (omega (arith, operands_are 3 n)) in
      let y = accepted_second a (omega (arith, operands_are 3 n)) in
      record {
        first = x;
        second = subst (Accepted b (second_at b at) (left - 1)) (ap (λ (j : ℕ). inner j v) kind ∙ scope) y;
        third = accepted_third a (omega (arith, operands_are 3 n));
        expr = made_by ∙ f _ _ _;
        ends = ends_by 3 n ∙ accepted_past x 2 ∙ accepted_past y 1;
      }

-- at the same place
pub accepted_at : {b : List ℕ} {p q left v : ℕ} → p ≡ q → Accepted b q left v → Accepted b p left v
accepted_at {b} {left = left} {v = v} e a = subst (λ (i : ℕ). Accepted b i left v) (sym e) a

-- BY KIND
module _ {b : List ℕ} {at left v : ℕ} (a : Accepted b at left v) where
  pub accepted_nil : get_or b at 0 ≡ nil_kind → Nullary b at left (nil at)
  unfolding script_kinds expr_of
  accepted_nil e = nullary a nil_kind e (nil at) refl (λ x y z. refl)

  pub accepted_document : get_or b at 0 ≡ document_kind → Nullary b at left (document at (get_or b (at + 1) 0))
  unfolding script_kinds expr_of
  accepted_document e = nullary a document_kind e (document at (get_or b (at + 1) 0)) refl (λ x y z. refl)

  pub accepted_variable : get_or b at 0 ≡ variable_kind → Nullary b at left (var at (get_or b (at + 1) 0))
  unfolding script_kinds expr_of
  accepted_variable e = nullary a variable_kind e (var at (get_or b (at + 1) 0)) refl (λ x y z. refl)

  pub accepted_element : get_or b at 0 ≡ new_element_kind → Nullary b at left (element at (get_or b (at + 1) 0))
  unfolding script_kinds expr_of
  accepted_element e = nullary a new_element_kind e (element at (get_or b (at + 1) 0)) refl (λ x y z. refl)

  pub accepted_leaf : get_or b at 0 ≡ new_leaf_kind → Nullary b at left (leaf at (get_or b (at + 1) 0))
  unfolding script_kinds expr_of
  accepted_leaf e = nullary a new_leaf_kind e (leaf at (get_or b (at + 1) 0)) refl (λ x y z. refl)

  pub accepted_step : get_or b at 0 ≡ step_kind →
      Unary b at left v (step at (step_by (get_or b (at + 1) 0) (get_or b (at + 2) 0) (get_or b (at + 3) 0)))
  unfolding script_kinds expr_of
  accepted_step e =
      unary a step_kind e (step at (step_by (get_or b (at + 1) 0) (get_or b (at + 2) 0) (get_or b (at + 3) 0))) refl (λ x y z. refl)

  pub accepted_delete : get_or b at 0 ≡ delete_kind → Unary b at left v (delete at)
  unfolding script_kinds expr_of
  accepted_delete e = unary a delete_kind e (delete at) refl (λ x y z. refl)

  pub accepted_pick : get_or b at 0 ≡ pick_kind → Unary b at left v (pick at (get_or b (at + 1) 0) (get_or b (at + 2) 0))
  unfolding script_kinds expr_of
  accepted_pick e = unary a pick_kind e (pick at (get_or b (at + 1) 0) (get_or b (at + 2) 0)) refl (λ x y z. refl)

  pub accepted_join : get_or b at 0 ≡ join_kind → Binary b at left v v (both at)
  unfolding script_kinds inner expr_of
  accepted_join e = binary a join_kind e v (both at) refl refl (λ x y z. refl)

  pub accepted_let : get_or b at 0 ≡ let_kind → Binary b at left v (v + 1) (let_in at)
  unfolding script_kinds inner expr_of
  accepted_let e = binary a let_kind e (v + 1) (let_in at) refl refl (λ x y z. refl)

  pub accepted_for : get_or b at 0 ≡ for_kind → Binary b at left v (v + 1) (for_in at)
  unfolding script_kinds inner expr_of
  accepted_for e = binary a for_kind e (v + 1) (for_in at) refl refl (λ x y z. refl)

  pub accepted_insert : get_or b at 0 ≡ insert_kind → Binary b at left v v (insert at)
  unfolding script_kinds inner expr_of
  accepted_insert e = binary a insert_kind e v (insert at) refl refl (λ x y z. refl)

  pub accepted_if : get_or b at 0 ≡ if_kind → Ternary b at left v (if_in at)
  unfolding script_kinds inner expr_of
  accepted_if e = ternary a if_kind e (if_in at) refl refl (λ x y z. refl)
