-- A record by its arity and kind: one law for each way out of the code that emits it, and of what binds a variable.
use mathlib.Core.Path.{◌≡◌, ap, ◌∙◌, subst}
use mathlib.Core.Bool.{true, false}
use mathlib.Core.List.{List}
use Prim.Native.Nat.{ℕ, ◌+◌, ◌<◌}
use native.Mathlib.Omega.{arith}
use lib.ListN.{get_or, set, length-set}
use lib.Seq.{get_or-set_same, get_or-set_other}
use borrow.Author.Tests.{ne_eqb}
use Rattle.model.specs.Script.{document_kind, variable_kind, step_kind, delete_kind, join_kind, insert_kind}
use Rattle.model.specs.Script as model
use Rattle.model.proofs.BoolLaws.{eq_cases}
use Rattle.script_records.proofs.BindLaws.{with_bound_set, with_bound_same}
use Rattle.script_records.specs.Walk.{inner}
use Rattle.paths_positions.specs.Positions.{accessing, root}
use Rattle.paths_positions.specs.Positions as positions
use Rattle.paths_positions.specs.Packed.{root_by, entries_in, PushPost}
use Rattle.paths_emit.specs.Emitting.{out_of, nullary_of, unary_of, binary_of, UnaryPre, PairedPre, Grown, NullaryPre, NullaryPost}
use Rattle.paths_emit.specs.Emitting.{BindPre, BindPost}
use Rattle.paths_emit.proofs.GrowLaws.{pushed_is, grown_none}

-- WITHOUT OPERANDS
module _ {b : List ℕ} {at : ℕ} {env ws : List ℕ} {n : ℕ} (pre : NullaryPre b at env ws n) where
  pub nullary_document : get_or b at 0 ≡ document_kind → {d : ℕ} {ws' : List ℕ} {n' r : ℕ} → d ≡ get_or b (at + 1) 0 →
      PushPost ws n (root_by d) ws' n' r → NullaryPost b at env ws n ws' n' r
  nullary_document k f post =
      record {
        size = post.size ∙ pre.size;
        is = pushed_is post (accessing (root (get_or b (at + 1) 0))) (omega (arith, pre.size, pre.room))
            (ap (λ (x : ℕ). accessing (root x)) f) ∙ rw k;
        low = omega (arith, post.count, post.result);
        more = omega (arith, post.count);
        few = omega (arith, post.count);
      }

  unchanged : (r : ℕ) → r < n → out_of ws n r ≡ nullary_of b at env (entries_in ws n) → NullaryPost b at env ws n ws n r
  unchanged r low is = record { size = pre.size; is = is; low = low; more = omega arith; few = omega arith }

  pub nullary_variable : get_or b at 0 ≡ variable_kind → {v r : ℕ} → v ≡ get_or b (at + 1) 0 → r ≡ get_or env v 0 →
      NullaryPost b at env ws n ws n r
  nullary_variable k {r = r} e g =
      let f : r ≡ get_or env (get_or b (at + 1) 0) 0 = g ∙ ap (λ (x : ℕ). get_or env x 0) e in
      unchanged r (omega (arith, pre.low k)) (ap (out_of ws n) f ∙ rw k)

  pub nullary_none : (get_or b at 0 ≡ document_kind → ⊥) → (get_or b at 0 ≡ variable_kind → ⊥) → NullaryPost b at env ws n ws n 0
  nullary_none f g = unchanged 0 pre.some (rw (ne_eqb (get_or b at 0) document_kind f, ne_eqb (get_or b at 0) variable_kind g))

-- WITH ONE, AND WITH TWO
grown_as : {goal goal' : positions.Emitted} {n : ℕ} {ws' : List ℕ} {n' r : ℕ} → goal ≡ goal' → Grown goal n ws' n' r →
    Grown goal' n ws' n' r
grown_as {n = n} {ws' = ws'} {n' = n'} {r = r} = subst (λ (x : positions.Emitted). Grown x n ws' n' r)

module _ {b : List ℕ} {at : ℕ} {ws : List ℕ} {n x : ℕ} (pre : UnaryPre b at ws n x) where
  pub unary_step : get_or b at 0 ≡ step_kind → {a t m : ℕ} → a ≡ get_or b (at + 1) 0 → t ≡ get_or b (at + 2) 0 → m ≡ get_or b (at + 3) 0 →
      {ws' : List ℕ} {n' r : ℕ} → Grown (positions.push_step (model.step_by a t m) (out_of ws n x)) n ws' n' r →
      Grown (unary_of b at (out_of ws n x)) n ws' n' r
  unary_step k e f g = grown_as (rw (e, f, g, k))

  pub unary_delete : get_or b at 0 ≡ delete_kind → {ws' : List ℕ} {n' r : ℕ} → Grown (positions.push_delete (out_of ws n x)) n ws' n' r →
      Grown (unary_of b at (out_of ws n x)) n ws' n' r
  unary_delete k = grown_as (rw k)

  pub unary_none : (get_or b at 0 ≡ step_kind → ⊥) → (get_or b at 0 ≡ delete_kind → ⊥) → Grown (unary_of b at (out_of ws n x)) n ws n x
  unary_none f g = grown_none pre.grow (rw (ne_eqb (get_or b at 0) step_kind f, ne_eqb (get_or b at 0) delete_kind g))

module _ {k : ℕ} {ws : List ℕ} {n x y : ℕ} (pre : PairedPre ws n x y) where
  pub binary_join : k ≡ join_kind → {ws' : List ℕ} {n' r : ℕ} → Grown (positions.push_union x (out_of ws n y)) n ws' n' r →
      Grown (binary_of k x (out_of ws n y)) n ws' n' r
  binary_join e = grown_as (rw e)

  pub binary_insert : k ≡ insert_kind → {ws' : List ℕ} {n' r : ℕ} → Grown (positions.push_insert x (out_of ws n y)) n ws' n' r →
      Grown (binary_of k x (out_of ws n y)) n ws' n' r
  binary_insert e = grown_as (rw e)

  pub binary_none : (k ≡ join_kind → ⊥) → (k ≡ insert_kind → ⊥) → Grown (binary_of k x (out_of ws n y)) n ws n y
  binary_none f g = grown_none pre.grow (rw (ne_eqb k join_kind f, ne_eqb k insert_kind g))

-- THE VARIABLES of a second operand
module _ (k : ℕ) (env : List ℕ) (v r : ℕ) (pre : BindPre k env v r) where
  pub bind_one : model.is_binder k ≡ true → BindPost k env v r (set env v r)
  unfolding inner
  bind_one t =
      record {
        size = length-set env v r ∙ pre.size;
        is = with_bound_set k env v r t (omega (arith, pre.size, pre.scope t));
        low = λ n h g u l. eq_cases u v
            (λ q. here n h u q) (λ q. other n g u q (rw t at l));
      }
    where
      here : (n : ℕ) → r < n → (u : ℕ) → u ≡ v → get_or (set env v r) u 0 < n
      here n h u e =
          omega (
            arith,
            ap (λ (x : ℕ). get_or (set env v r) x 0) e,
            get_or-set_same env v r 0 (omega (arith, pre.size, pre.scope t)),
          )

      other : (n : ℕ) → ((u : ℕ) → u < v → get_or env u 0 < n) → (u : ℕ) → (u ≡ v → ⊥) → u < v + 1 → get_or (set env v r) u 0 < n
      other n g u e l = omega (arith, get_or-set_other env v u r 0 e, g u (omega (arith, e)))

  pub bind_none : model.is_binder k ≡ false → BindPost k env v r env
  unfolding inner
  bind_none t = record { size = pre.size; is = with_bound_same k env v r t; low = λ n h g u l. g u (rw t at l) }
