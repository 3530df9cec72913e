-- An accepted record by its arity: what it runs, from the runs of its operands; its operands, which have fewer records, and where it ends.
use mathlib.Core.Path.{◌≡◌, refl, ap, sym, subst, ◌∙◌}
use mathlib.Core.List.{List, [], ◌∷◌, ◌++◌}
use Prim.Native.Nat.{ℕ, ◌+◌, ◌-◌, ◌<◌}
use native.Mathlib.Omega.{arith}
use lib.ListN.{get_or}
use Rattle.model.specs.Script.{arity, for_kind, if_kind, Expr, records_of}
use Rattle.model.specs.Run.{State, Out, refused, gives, and_then, run}
use Rattle.model.proofs.BoolLaws.{eq_cases}
use Rattle.model.proofs.ValueLaws.{then_same}
use Rattle.script_records.specs.Walk.{inner, end_at, first_at, second_at, third_at, expr_at}
use Rattle.script_records.specs.Kinds.{byte_of}
use Rattle.script_records.specs.declared.kinds.Kind.{Kind}
use Rattle.script_records.specs.declared.kinds.Kind.TheVariants.{If, For}
use Rattle.script_records.proofs.KindLaws.{other_byte}
use Rattle.script.specs.Accepted.{Accepted, RecordFits, Unary, Binary}
use Rattle.model.proofs.KindLaws.{unary_kind, binary_kind, two_left}
use Rattle.script.proofs.AcceptedLaws.{accepted_record, accepted_step, accepted_delete, accepted_pick, accepted_join, accepted_let}
use Rattle.script.proofs.AcceptedLaws.{accepted_for, accepted_insert, accepted_if}
use Rattle.run_operators.specs.Evaluating.{unary_of}
use Rattle.run_eval.specs.Rests.{Rest, binary_rest, for_rest, if_rest}

-- an outcome that goes on with its own value
then_gives : (o : Out) → and_then o (λ (v : List ℕ) (s : State). gives v s) ≡ o
then_gives (refused f) = refl
then_gives (gives v s) = refl

-- RECORDS of the expression at a place
abbrev pub records_at : (left : ℕ) → (bytes : List ℕ) → (at : ℕ) → ℕ
records_at k b i = records_of (expr_at k b i)

-- THE FIRST OPERAND. The record's run goes on from its value with what is left
pub record First (b : List ℕ) (at left n : ℕ) (rest : Rest) : Type 0 where
  pub accepted : Accepted b (first_at b at) (left - 1) n
  pub runs : (vs : List (List ℕ)) (s : State) →
      run (expr_at left b at) vs s ≡ and_then (run (expr_at (left - 1) b (first_at b at)) vs s) (rest (second_at b at) vs)
  pub fewer : records_at (left - 1) b (first_at b at) < records_at left b at

-- a record with no other operand, with a second, and with a third
pub record One (b : List ℕ) (at left n : ℕ) (rest : Rest) : Type 0 where
  pub first : First b at left n rest
  pub ends : end_at b at ≡ second_at b at

pub record Two (b : List ℕ) (at left n inside : ℕ) (rest : Rest) : Type 0 where
  pub first : First b at left n rest
  pub second : Accepted b (second_at b at) (left - 1) inside
  pub ends : end_at b at ≡ third_at b at
  pub fewer : records_at (left - 1) b (second_at b at) < records_at left b at

pub record Three (b : List ℕ) (at left n : ℕ) (rest : Rest) : Type 0 where
  pub first : First b at left n rest
  pub second : Accepted b (second_at b at) (left - 1) n
  pub third : Accepted b (third_at b at) (left - 1) n
  pub ends : end_at b at ≡ end_at b (third_at b at)
  pub fewer : records_at (left - 1) b (second_at b at) + records_at (left - 1) b (third_at b at) < records_at left b at

-- a record with a first operand, whatever follows it
pub record Opens (b : List ℕ) (at left n : ℕ) : Type 0 where
  pub rest : Rest
  pub first : First b at left n rest

-- what is left of a step, a delete or a pick
abbrev unary_rest : (bytes : List ℕ) → (at : ℕ) → Rest
unary_rest b z i vs v s = unary_of b z v s

module _ {b : List ℕ} {at left n : ℕ} (a : Accepted b at left n) where
  fits : RecordFits b at left n
  fits = accepted_record a

  abbrev one : Expr
  one = expr_at (left - 1) b (first_at b at)

  abbrev two : Expr
  two = expr_at (left - 1) b (second_at b at)

  first_of : {rest : Rest} {e : Expr} → Accepted b (first_at b at) (left - 1) n → expr_at left b at ≡ e → records_of one < records_of e →
      ((vs : List (List ℕ)) (s : State) → run e vs s ≡ and_then (run one vs s) (rest (second_at b at) vs)) → First b at left n rest
  first_of f e l r =
      record {
        accepted = f;
        runs = λ vs s. ap (λ (x : Expr). run x vs s) e ∙ r vs s;
        fewer = subst (λ (x : Expr). records_of one < records_of x) (sym e) l;
      }

  -- ONE OPERAND
  one_of : {make : Expr → Expr} → Unary b at left n make → records_of (make one) ≡ 1 + records_of one →
      ((vs : List (List ℕ)) (s : State) → run (make one) vs s ≡ and_then (run one vs s) (unary_of b at)) →
      One b at left n (unary_rest b at)
  one_of u size r = record { first = first_of u.first u.expr (omega (arith, size)) r; ends = u.ends }

  pub one_operand : {q : ℕ} → q ≡ arity (get_or b at 0) → q ≡ 1 → One b at left n (unary_rest b at)
  unfolding run records_of
  one_operand count z =
      unary_kind (get_or b at 0) fits.kind (sym count ∙ z)
      (λ e. one_of (accepted_step a e) refl (λ vs s. then_same (run one vs s) refl (λ v u. rw e)))
      (λ e. one_of (accepted_delete a e) refl (λ vs s. then_same (run one vs s) refl (λ v u. rw e)))
      (λ e. one_of (accepted_pick a e) refl (λ vs s. then_same (run one vs s) refl (λ v u. rw e)))

  -- TWO OPERANDS
  two_of : {m inside : ℕ} {rest : Rest} {make : Expr → Expr → Expr} → Binary b at left n m make → m ≡ inside →
      records_of (make one two) ≡ 1 + records_of one + records_of two →
      ((vs : List (List ℕ)) (s : State) → run (make one two) vs s ≡ and_then (run one vs s) (rest (second_at b at) vs)) →
      Two b at left n inside rest
  two_of u scope size r =
      record {
        first = first_of u.first u.expr (omega (arith, size)) r;
        second = subst (Accepted b (second_at b at) (left - 1)) scope u.second;
        ends = u.ends;
        fewer = omega (arith, ap records_of u.expr, size);
      }

  two_operands : {q : ℕ} → q ≡ arity (get_or b at 0) → (q ≡ 0 → ⊥) → (q ≡ 1 → ⊥) → (get_or b at 0 ≡ if_kind → ⊥) →
      (get_or b at 0 ≡ for_kind → ⊥) →
      Two b at left n (inner (get_or b at 0) n) (binary_rest b (get_or b at 0) at (left - 1))
  unfolding run inner records_of
  two_operands count f g i l =
      let z = two_left (get_or b at 0) fits.kind (λ e. f (count ∙ e)) (λ e. g (count ∙ e)) i in
      binary_kind (get_or b at 0) fits.kind z
      (λ e. two_of (accepted_join a e) (rw e) refl (λ vs s. then_same (run one vs s) refl (λ v u. rw e)))
      (λ e. two_of (accepted_let a e) (rw e) refl
      (λ vs s. then_same (run one vs s) refl (λ v u. sym (then_gives (run two (vs ++ (v ∷ [])) u)) ∙ rw e)))
      (λ e. absurd (l e))
      (λ e. two_of (accepted_insert a e) (rw e) refl (λ vs s. then_same (run one vs s) refl (λ v u. rw e)))

  pub kind_operands : (k : Kind) → byte_of k ≡ get_or b at 0 → {q : ℕ} → q ≡ arity (byte_of k) → (q ≡ 0 → ⊥) → (q ≡ 1 → ⊥) →
      (k ≡ If → ⊥) → (k ≡ For → ⊥) → Two b at left n (inner (byte_of k) n) (binary_rest b (byte_of k) at (left - 1))
  kind_operands k is count f g i l =
      subst (λ (j : ℕ). Two b at left n (inner j n) (binary_rest b j at (left - 1))) (sym is)
      (two_operands (count ∙ ap arity is) f g (λ e. other_byte k If i (is ∙ e)) (λ e. other_byte k For l (is ∙ e)))

  pub for_operands : get_or b at 0 ≡ for_kind → Two b at left n (inner for_kind n) (for_rest b at (left - 1))
  unfolding run inner records_of
  for_operands e = two_of (accepted_for a e) refl refl (λ vs s. refl)

  -- THREE OPERANDS
  pub if_operands : get_or b at 0 ≡ if_kind → Three b at left n (if_rest b (left - 1))
  unfolding run records_of
  if_operands e =
      let u = accepted_if a e in
      let size : records_at left b at ≡ 1 + records_of one + records_of two + records_at (left - 1) b (third_at b at) =
      ap records_of u.expr in
      record {
        first = first_of u.first u.expr (omega arith) (λ vs s. refl);
        second = u.second;
        third = u.third;
        ends = u.ends;
        fewer = omega (arith, size);
      }

  -- ANY OPERAND
  pub opens : {q : ℕ} → q ≡ arity (get_or b at 0) → (q ≡ 0 → ⊥) → Opens b at left n
  opens {q} count some =
      eq_cases q 1 (λ z. record { rest = unary_rest b at; first = (one_operand count z).first })
      (λ f. eq_cases (get_or b at 0) if_kind (λ e. record { rest = if_rest b (left - 1); first = (if_operands e).first })
      (λ i. eq_cases (get_or b at 0) for_kind (λ e. record { rest = for_rest b at (left - 1); first = (for_operands e).first })
      (λ l. record { rest = binary_rest b (get_or b at 0) at (left - 1); first = (two_operands count some f i l).first })))
