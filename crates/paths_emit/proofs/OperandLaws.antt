-- An accepted record by its arity: what it emits from its operands' emissions, its operands, and its records.
use mathlib.Core.Path.{◌≡◌, refl, ap, sym, ◌∙◌, subst}
use mathlib.Core.List.{List}
use Prim.Native.Nat.{ℕ, ◌+◌, ◌-◌, ◌<◌}
use native.Mathlib.Omega.{arith}
use lib.ListN.{get_or}
use Rattle.model.specs.Script.{arity, if_kind}
use Rattle.model.specs.Script.{Expr, nil, document, var, step, both, let_in, for_in, element, leaf, delete, insert, pick, step_by}
use Rattle.model.specs.Script.{records_of}
use Rattle.model.proofs.BoolLaws.{eq_cases}
use Rattle.script_records.specs.Walk.{with_bound, inner, end_at, first_at, second_at, third_at, expr_at}
use Rattle.script.specs.Accepted.{Accepted, RecordFits, Nullary, Unary, Binary}
use Rattle.model.proofs.KindLaws.{nullary_kind, unary_kind, binary_kind, two_left}
use Rattle.script.proofs.AcceptedLaws.{accepted_record, accepted_nil, accepted_document}
use Rattle.script.proofs.AcceptedLaws.{accepted_variable, accepted_element, accepted_leaf}
use Rattle.script.proofs.AcceptedLaws.{accepted_step, accepted_delete, accepted_pick, accepted_join, accepted_let, accepted_for}
use Rattle.script.proofs.AcceptedLaws.{accepted_insert, accepted_if}
use Rattle.paths_positions.specs.Positions.{Entry, emit, push_union}
use Rattle.paths_emit.specs.Emitting.{nullary_of, unary_of, binary_of}

module _ (b : List ℕ) (at left v : ℕ) (a : Accepted b at left v) where
  abbrev one : Expr
  one = expr_at (left - 1) b (first_at b at)

  abbrev two : Expr
  two = expr_at (left - 1) b (second_at b at)

  fits : RecordFits b at left v
  fits = accepted_record a

  -- NO OPERAND
  pub record Zero : Type 0 where
    pub emits : (ns : List ℕ) (es : List Entry) → emit (expr_at left b at) ns es ≡ nullary_of b at ns es
    pub ends : end_at b at ≡ first_at b at
    pub size : records_of (expr_at left b at) ≡ 1

  zero_of : (e : Expr) → Nullary b at left e → ((ns : List ℕ) (es : List Entry) → emit e ns es ≡ nullary_of b at ns es) →
      records_of e ≡ 1 →
      Zero
  zero_of e n f s =
      record {
        emits = λ ns es. ap (λ (x : Expr). emit x ns es) n.expr ∙ f ns es;
        ends = n.ends;
        size = ap records_of n.expr ∙ s;
      }

  pub no_operand : arity (get_or b at 0) ≡ 0 → Zero
  unfolding emit records_of
  no_operand z =
      nullary_kind (get_or b at 0) fits.kind z
      (λ e. zero_of (nil at) (accepted_nil a e) (λ ns es. rw e) refl)
      (λ e. zero_of (document at (get_or b (at + 1) 0)) (accepted_document a e) (λ ns es. rw e) refl)
      (λ e. zero_of (var at (get_or b (at + 1) 0)) (accepted_variable a e) (λ ns es. rw e) refl)
      (λ e. zero_of (element at (get_or b (at + 1) 0)) (accepted_element a e) (λ ns es. rw e) refl)
      (λ e. zero_of (leaf at (get_or b (at + 1) 0)) (accepted_leaf a e) (λ ns es. rw e) refl)

  -- ONE OPERAND
  pub record One : Type 0 where
    pub first : Accepted b (first_at b at) (left - 1) v
    pub emits : (ns : List ℕ) (es : List Entry) →
        emit (expr_at left b at) ns es ≡ unary_of b at (emit (expr_at (left - 1) b (first_at b at)) ns es)
    pub ends : end_at b at ≡ second_at b at
    pub size : records_of (expr_at left b at) ≡ 1 + records_of (expr_at (left - 1) b (first_at b at))

  one_of : (make : Expr → Expr) → Unary b at left v make →
      ((x : Expr) (ns : List ℕ) (es : List Entry) → emit (make x) ns es ≡ unary_of b at (emit x ns es)) →
      ((x : Expr) → records_of (make x) ≡ 1 + records_of x) → One
  one_of make u f s =
      record {
        first = u.first;
        emits = λ ns es. ap (λ (x : Expr). emit x ns es) u.expr ∙ f one ns es;
        ends = u.ends;
        size = ap records_of u.expr ∙ s one;
      }

  pub one_operand : arity (get_or b at 0) ≡ 1 → One
  unfolding emit records_of
  one_operand z =
      unary_kind (get_or b at 0) fits.kind z
      (λ e. one_of (step at (step_by (get_or b (at + 1) 0) (get_or b (at + 2) 0) (get_or b (at + 3) 0))) (accepted_step a e)
      (λ x ns es. rw e) (λ x. refl))
      (λ e. one_of (delete at) (accepted_delete a e) (λ x ns es. rw e) (λ x. refl))
      (λ e. one_of (pick at (get_or b (at + 1) 0) (get_or b (at + 2) 0)) (accepted_pick a e) (λ x ns es. rw e) (λ x. refl))

  -- TWO OPERANDS
  pub record Two : Type 0 where
    pub first : Accepted b (first_at b at) (left - 1) v
    pub second : Accepted b (second_at b at) (left - 1) (inner (get_or b at 0) v)
    pub emits : (ns : List ℕ) (es : List Entry) → emit (expr_at left b at) ns es ≡
        binary_of (get_or b at 0) (emit (expr_at (left - 1) b (first_at b at)) ns es).result
        (emit (expr_at (left - 1) b (second_at b at))
        (with_bound (get_or b at 0) ns (emit (expr_at (left - 1) b (first_at b at)) ns es).result)
        (emit (expr_at (left - 1) b (first_at b at)) ns es).entries)
    pub ends : end_at b at ≡ third_at b at
    pub size : records_of (expr_at left b at) ≡ 1 + records_of (expr_at (left - 1) b (first_at b at)) + records_of
        (expr_at (left - 1) b (second_at b at))

  two_of : (w : ℕ) (make : Expr → Expr → Expr) → Binary b at left v w make → w ≡ inner (get_or b at 0) v →
      ((x y : Expr) (ns : List ℕ) (es : List Entry) → emit (make x y) ns es ≡
      binary_of (get_or b at 0) (emit x ns es).result
      (emit y (with_bound (get_or b at 0) ns (emit x ns es).result) (emit x ns es).entries)) →
      ((x y : Expr) → records_of (make x y) ≡ 1 + records_of x + records_of y) → Two
  two_of w make u scope f s =
      record {
        first = u.first;
        second = subst (Accepted b (second_at b at) (left - 1)) scope u.second;
        emits = λ ns es. ap (λ (x : Expr). emit x ns es) u.expr ∙ f one two ns es;
        ends = u.ends;
        size = ap records_of u.expr ∙ s one two;
      }

  pub two_operands : arity (get_or b at 0) ≡ 2 → Two
  unfolding inner emit records_of
  two_operands z =
      binary_kind (get_or b at 0) fits.kind z
      (λ e. two_of v (both at) (accepted_join a e) (rw e) (λ x y ns es. rw e) (λ x y. refl))
      (λ e. two_of (v + 1) (let_in at) (accepted_let a e) (rw e) (λ x y ns es. rw e) (λ x y. refl))
      (λ e. two_of (v + 1) (for_in at) (accepted_for a e) (rw e) (λ x y ns es. rw e) (λ x y. refl))
      (λ e. two_of v (insert at) (accepted_insert a e) (rw e) (λ x y ns es. rw e) (λ x y. refl))

  -- THREE OPERANDS
  pub record Three : Type 0 where
    pub first : Accepted b (first_at b at) (left - 1) v
    pub second : Accepted b (second_at b at) (left - 1) (inner (get_or b at 0) v)
    pub third : Accepted b (third_at b at) (left - 1) v
    pub scope : inner (get_or b at 0) v ≡ v
    pub same : (ns : List ℕ) (r : ℕ) → with_bound (get_or b at 0) ns r ≡ ns
    pub emits : (ns : List ℕ) (es : List Entry) → emit (expr_at left b at) ns es ≡
        push_union (emit (expr_at (left - 1) b (second_at b at)) ns (emit (expr_at (left - 1) b (first_at b at)) ns es).entries).result
        (emit (expr_at (left - 1) b (third_at b at)) ns
        (emit (expr_at (left - 1) b (second_at b at)) ns (emit (expr_at (left - 1) b (first_at b at)) ns es).entries).entries)
    pub ends : end_at b at ≡ end_at b (third_at b at)
    pub size : records_of (expr_at left b at) ≡
        1 + records_of (expr_at (left - 1) b (first_at b at)) + records_of (expr_at (left - 1) b (second_at b at)) + records_of
        (expr_at (left - 1) b (third_at b at))

  three_of : get_or b at 0 ≡ if_kind → Three
  unfolding inner emit records_of
  three_of e =
      let u = accepted_if a e in
      let w : v ≡ inner (get_or b at 0) v = rw e in
      record {
        first = u.first;
        second = subst (Accepted b (second_at b at) (left - 1)) w u.second;
        third = u.third;
        scope = sym w;
        same = λ ns r. rw e;
        emits = λ ns es. ap (λ (x : Expr). emit x ns es) u.expr;
        ends = u.ends;
        size = ap records_of u.expr;
      }

  pub three_operands : 2 < arity (get_or b at 0) → Three
  three_operands z =
      eq_cases (get_or b at 0) if_kind three_of
      (λ e. absurd
      (omega
      (arith, two_left (get_or b at 0) fits.kind (λ q. omega arith) (λ q. omega arith) e)))
