-- Emission from a script's bytes: what each call asks is there, and each way out is the emission of the expression at the place.
use mathlib.Core.Path.{◌≡◌, ap, sym, ◌∙◌, subst}
use mathlib.Core.List.{List}
use Prim.Native.Nat.{ℕ, ◌+◌, ◌-◌, ◌*◌, ◌≤◌, ◌<◌}
use native.Mathlib.Omega.{arith}
use lib.Dec.{eqb}
use lib.ListN.{length, get_or, take}
use lib.Seq.{get_or-take}
use borrow.Author.Tests.{eqb-true}
use Rattle.model.specs.Limits.{max_binders}
use Rattle.model.specs.Script.{arity, variable_kind, is_binder, records_of}
use Rattle.model.proofs.BoolLaws.{by_cases, eq_cases}
use Rattle.script_records.specs.Walk.{with_bound, inner, first_at, second_at, third_at, expr_at}
use Rattle.script.specs.Accepted.{Accepted, RecordFits}
use Rattle.script.proofs.AcceptedLaws.{accepted_record}
use Rattle.script.proofs.FieldLaws.{variable_number, step_axis, step_test}
use Rattle.paths_positions.specs.Positions.{emit}
use Rattle.paths_positions.specs.Positions as positions
use Rattle.paths_positions.specs.Packed.{entries_in}
use Rattle.paths_positions.specs.Steps.{max_positions}
use Rattle.paths_emit.specs.Emitting.{out_of, nullary_of, unary_of, binary_of, PairedPre, UnaryPre, Grown}
use Rattle.paths_emit.specs.Emitting.{NullaryPre, NullaryPost, BindPre, BindPost, emitter, EmitPre, EmitPost}
use Rattle.paths_emit.proofs.OperandLaws.{no_operand, one_operand, two_operands, Three, three_operands}

-- AFTER AN OPERAND: the first was emitted; and the second, of two or three
pub record First (b : List ℕ) (at left v : ℕ) (env ws : List ℕ) (n p₁ : ℕ) (ws₁ : List ℕ) (n₁ r₁ : ℕ) : Type 0 where
  pub pre : EmitPre b left v env (emitter at ws n)
  pub post : EmitPost b (left - 1) v env (emitter (first_at b at) ws n) (emitter p₁ ws₁ n₁) r₁

pub record Second (b : List ℕ) (at left v : ℕ) (env ws : List ℕ) (n r₁ p₂ : ℕ) (ws₂ : List ℕ) (n₂ r₂ : ℕ) : Type 0 where
  pub pre : EmitPre b left v env (emitter at ws n)
  pub size : length ws₂ ≡ max_positions
  pub first : r₁ ≡ (emit (expr_at (left - 1) b (first_at b at)) (take v env) (entries_in ws n)).result
  pub is : out_of ws₂ n₂ r₂ ≡ emit (expr_at (left - 1) b (second_at b at)) (with_bound (get_or b at 0) (take v env) r₁)
      (emit (expr_at (left - 1) b (first_at b at)) (take v env) (entries_in ws n)).entries
  pub place : p₂ ≡ third_at b at
  pub lower : r₁ < n₂
  pub low : r₂ < n₂
  pub more : n ≤ n₂
  pub few : n₂ + 2 ≤ n + 2 * (records_of (expr_at (left - 1) b (first_at b at)) + records_of (expr_at (left - 1) b (second_at b at)))

module _ {b : List ℕ} {at left v : ℕ} {env ws : List ℕ} {n : ℕ} (pre : EmitPre b left v env (emitter at ws n)) where
  fits : RecordFits b at left v
  fits = accepted_record pre.accepted

  -- an operand is one level below
  pub deeper : {t : ℕ} → left ≡ t → left - 1 < t
  deeper e = omega (arith, fits.depth)

  -- NO OPERAND
  pub nullary_asks : arity (get_or b at 0) ≡ 0 → NullaryPre b at env ws n
  nullary_asks z =
      let o = no_operand b at left v pre.accepted z in
      record {
        size = pre.size;
        room = omega (arith, pre.room, o.size);
        some = pre.some;
        whole = fits.whole;
        variable = λ e. omega (arith, variable_number fits e, pre.scope, pre.variables);
        low = λ e. pre.low (get_or b (at + 1) 0) (variable_number fits e);
      }

  pub nullary_emits : arity (get_or b at 0) ≡ 0 → {p : ℕ} → p ≡ first_at b at → {ws' : List ℕ} {n' r : ℕ} →
      NullaryPost b at env ws n ws' n' r → EmitPost b left v env (emitter at ws n) (emitter p ws' n') r
  nullary_emits z e post =
      let o = no_operand b at left v pre.accepted z in
      record {
        size = post.size;
        is = post.is ∙ by_cases (eqb (get_or b at 0) variable_kind) (λ t. variable (eqb-true (get_or b at 0) variable_kind t))
            (λ t. rw t) ∙
            sym (o.emits (take v env) (entries_in ws n));
        place = e ∙ sym o.ends;
        low = post.low;
        more = post.more;
        few = omega (arith, post.few, o.size);
      }
    where
      variable : get_or b at 0 ≡ variable_kind → nullary_of b at env (entries_in ws n) ≡ nullary_of b at (take v env) (entries_in ws n)
      variable k =
          rw k
          (ap (λ (x : ℕ). positions.emitted x (entries_in ws n))
          (sym (get_or-take v env (get_or b (at + 1) 0) 0 (variable_number fits k))))

  -- THE FIRST OPERAND, of one, two or three
  record Some : Type 0 where
    first : Accepted b (first_at b at) (left - 1) v
    size : 1 + records_of (expr_at (left - 1) b (first_at b at)) ≤ records_of (expr_at left b at)

  by_arity : {P : Type 0} → 0 < arity (get_or b at 0) → (arity (get_or b at 0) ≡ 1 → P) → (arity (get_or b at 0) ≡ 2 → P) →
      (2 < arity (get_or b at 0) → P) → P
  by_arity h f g i =
      eq_cases (arity (get_or b at 0)) 1 f
      (λ t. eq_cases (arity (get_or b at 0)) 2 g
      (λ u. i (omega (arith, t, u))))

  some : 0 < arity (get_or b at 0) → Some
  some h =
      by_arity h
      (λ z. let o = one_operand b at left v pre.accepted z in record { first = o.first; size = omega (arith, o.size) })
      (λ z. let o = two_operands b at left v pre.accepted z in record { first = o.first; size = omega (arith, o.size) })
      (λ z. let o = three_operands b at left v pre.accepted z in record { first = o.first; size = omega (arith, o.size) })

  pub first_asks : 0 < arity (get_or b at 0) → {p : ℕ} → p ≡ first_at b at → EmitPre b (left - 1) v env (emitter p ws n)
  first_asks h e =
      let o = some h in
      subst (λ (q : ℕ). EmitPre b (left - 1) v env (emitter q ws n)) (sym e)
      (record {
        accepted = o.first;
        scope = pre.scope;
        size = pre.size;
        variables = pre.variables;
        some = pre.some;
        room = omega (arith, pre.room, o.size);
        low = pre.low;
      })

  pub first_emitted : {p : ℕ} → p ≡ first_at b at → {p₁ : ℕ} {ws₁ : List ℕ} {n₁ r₁ : ℕ} →
      EmitPost b (left - 1) v env (emitter p ws n) (emitter p₁ ws₁ n₁) r₁ → First b at left v env ws n p₁ ws₁ n₁ r₁
  first_emitted e {p₁ = p₁} {ws₁ = ws₁} {n₁ = n₁} {r₁ = r₁} post =
      record { pre = pre; post = subst (λ (q : ℕ). EmitPost b (left - 1) v env (emitter q ws n) (emitter p₁ ws₁ n₁) r₁) e post }

module _ {b : List ℕ} {at left v : ℕ} {env ws : List ℕ} {n p₁ : ℕ} {ws₁ : List ℕ} {n₁ r₁ : ℕ}
    (f : First b at left v env ws n p₁ ws₁ n₁ r₁) where
  -- ONE OPERAND
  pub unary_asks : arity (get_or b at 0) ≡ 1 → UnaryPre b at ws₁ n₁ r₁
  unary_asks z =
      let o = one_operand b at left v f.pre.accepted z in
      record {
        grow = record { size = f.post.size; room = omega (arith, f.pre.room, o.size, f.post.few); low = f.post.low };
        whole = (fits f.pre).whole;
        axis = step_axis (fits f.pre);
        test = step_test (fits f.pre);
      }

  pub unary_emits : arity (get_or b at 0) ≡ 1 → {ws' : List ℕ} {n' r : ℕ} → Grown (unary_of b at (out_of ws₁ n₁ r₁)) n₁ ws' n' r →
      EmitPost b left v env (emitter at ws n) (emitter p₁ ws' n') r
  unary_emits z g =
      let o = one_operand b at left v f.pre.accepted z in
      record {
        size = g.size;
        is = g.is ∙ ap (unary_of b at) f.post.is ∙ sym (o.emits (take v env) (entries_in ws n));
        place = f.post.place ∙ sym o.ends;
        low = g.low;
        more = omega (arith, f.post.more, g.more);
        few = omega (arith, g.few, f.post.few, o.size);
      }

  -- THE SECOND OPERAND, of two or three
  record More : Type 0 where
    second : Accepted b (second_at b at) (left - 1) (inner (get_or b at 0) v)
    size : 1 + records_of (expr_at (left - 1) b (first_at b at)) + records_of (expr_at (left - 1) b (second_at b at)) ≤ records_of
        (expr_at left b at)

  more : 1 < arity (get_or b at 0) → More
  more h =
      by_arity f.pre (omega arith) (λ z. absurd (omega arith))
      (λ z. let o = two_operands b at left v f.pre.accepted z in record { second = o.second; size = omega (arith, o.size) })
      (λ z. let o = three_operands b at left v f.pre.accepted z in record { second = o.second; size = omega (arith, o.size) })

  pub bind_asks : 1 < arity (get_or b at 0) → BindPre (get_or b at 0) env v r₁
  bind_asks h =
      record {
        size = f.pre.variables;
        few = omega (arith, f.pre.room, f.post.low, f.post.few, (more h).size);
        scope = (fits f.pre).scope;
      }

  inner_most : inner (get_or b at 0) v ≤ max_binders
  unfolding inner
  inner_most = by_cases (is_binder (get_or b at 0)) (λ t. rw t (omega (arith, (fits f.pre).scope t))) (λ t. rw t f.pre.scope)

  module _ (h : 1 < arity (get_or b at 0)) {env' : List ℕ} (bound : BindPost (get_or b at 0) env v r₁ env') {w : ℕ}
      (scope : w ≡ inner (get_or b at 0) v) where
    pub second_asks : EmitPre b (left - 1) w env' (emitter p₁ ws₁ n₁)
    second_asks =
        subst (λ (q : ℕ). EmitPre b (left - 1) w env' (emitter q ws₁ n₁)) (sym f.post.place)
        (subst (λ (u : ℕ). EmitPre b (left - 1) u env' (emitter (second_at b at) ws₁ n₁)) (sym scope)
        (record {
          accepted = (more h).second;
          scope = inner_most;
          size = f.post.size;
          variables = bound.size;
          some = omega (arith, f.pre.some, f.post.more);
          room = omega (arith, f.pre.room, f.post.few, (more h).size);
          low = bound.low n₁ f.post.low (λ u l. omega (arith, f.pre.low u l, f.post.more));
        }))

    pub second_emitted : {p₂ : ℕ} {ws₂ : List ℕ} {n₂ r₂ : ℕ} → EmitPost b (left - 1) w env' (emitter p₁ ws₁ n₁) (emitter p₂ ws₂ n₂) r₂ →
        Second b at left v env ws n r₁ p₂ ws₂ n₂ r₂
    second_emitted {p₂ = p₂} {ws₂ = ws₂} {n₂ = n₂} {r₂ = r₂} post =
        record {
          pre = f.pre;
          size = second.size;
          first = ap (λ (x : positions.Emitted). x.result) f.post.is;
          is = second.is ∙ ap (λ (ns : List ℕ). emit (expr_at (left - 1) b (second_at b at)) ns (entries_in ws₁ n₁)) bound.is ∙
              ap (λ (x : positions.Emitted). emit (expr_at (left - 1) b (second_at b at)) (with_bound (get_or b at 0) (take v env) r₁)
              x.entries)
              f.post.is;
          place = second.place;
          lower = omega (arith, f.post.low, second.more);
          low = second.low;
          more = omega (arith, f.post.more, second.more);
          few = omega (arith, f.post.few, second.few);
        }
      where
        second : EmitPost b (left - 1) (inner (get_or b at 0) v) env' (emitter (second_at b at) ws₁ n₁) (emitter p₂ ws₂ n₂) r₂
        second =
            subst (λ (u : ℕ). EmitPost b (left - 1) u env' (emitter (second_at b at) ws₁ n₁) (emitter p₂ ws₂ n₂) r₂) scope
            (subst (λ (q : ℕ). EmitPost b (left - 1) w env' (emitter q ws₁ n₁) (emitter p₂ ws₂ n₂) r₂) f.post.place post)

module _ {b : List ℕ} {at left v : ℕ} {env ws : List ℕ} {n r₁ p₂ : ℕ} {ws₂ : List ℕ} {n₂ r₂ : ℕ}
    (s : Second b at left v env ws n r₁ p₂ ws₂ n₂ r₂) where
  -- the rules' emissions of the first operand, and of the second where r is the first's result
  abbrev one : positions.Emitted
  one = emit (expr_at (left - 1) b (first_at b at)) (take v env) (entries_in ws n)

  abbrev two : (r : ℕ) → positions.Emitted
  two r = emit (expr_at (left - 1) b (second_at b at)) (with_bound (get_or b at 0) (take v env) r) one.entries

  -- TWO OPERANDS
  pub binary_asks : arity (get_or b at 0) ≡ 2 → PairedPre ws₂ n₂ r₁ r₂
  binary_asks z =
      let o = two_operands b at left v s.pre.accepted z in
      record { grow = record { size = s.size; room = omega (arith, s.pre.room, o.size, s.few); low = s.low }; low = s.lower }

  pub binary_emits : arity (get_or b at 0) ≡ 2 → {ws' : List ℕ} {n' r : ℕ} →
      Grown (binary_of (get_or b at 0) r₁ (out_of ws₂ n₂ r₂)) n₂ ws' n' r → EmitPost b left v env (emitter at ws n) (emitter p₂ ws' n') r
  binary_emits z g =
      let o = two_operands b at left v s.pre.accepted z in
      record {
        size = g.size;
        is = g.is ∙ ap (binary_of (get_or b at 0) r₁) s.is ∙ ap (λ (r : ℕ). binary_of (get_or b at 0) r (two r)) s.first ∙
            sym (o.emits (take v env) (entries_in ws n));
        place = s.place ∙ sym o.ends;
        low = g.low;
        more = omega (arith, s.more, g.more);
        few = omega (arith, g.few, s.few, o.size);
      }

  -- THREE OPERANDS
  module _ (most : 2 < arity (get_or b at 0)) where
    three : Three b at left v s.pre.accepted
    three = three_operands b at left v s.pre.accepted most

    pub third_asks : EmitPre b (left - 1) v env (emitter p₂ ws₂ n₂)
    third_asks =
        subst (λ (q : ℕ). EmitPre b (left - 1) v env (emitter q ws₂ n₂)) (sym s.place)
        (record {
          accepted = three.third;
          scope = s.pre.scope;
          size = s.size;
          variables = s.pre.variables;
          some = omega (arith, s.pre.some, s.more);
          room = omega (arith, s.pre.room, s.few, three.size);
          low = λ u l. omega (arith, s.pre.low u l, s.more);
        })

    module _ {p₃ : ℕ} {ws₃ : List ℕ} {n₃ r₃ : ℕ} (post : EmitPost b (left - 1) v env (emitter p₂ ws₂ n₂) (emitter p₃ ws₃ n₃) r₃) where
      third : EmitPost b (left - 1) v env (emitter (third_at b at) ws₂ n₂) (emitter p₃ ws₃ n₃) r₃
      third = subst (λ (q : ℕ). EmitPost b (left - 1) v env (emitter q ws₂ n₂) (emitter p₃ ws₃ n₃) r₃) s.place post

      pub union_asks : PairedPre ws₃ n₃ r₂ r₃
      union_asks =
          record {
            grow = record {
              size = third.size;
              room = omega (arith, s.pre.room, three.size, s.few, third.few);
              low = third.low;
            };
            low = omega (arith, s.low, third.more);
          }

      pub union_emits : {ws' : List ℕ} {n' r : ℕ} → Grown (positions.push_union r₂ (out_of ws₃ n₃ r₃)) n₃ ws' n' r →
          EmitPost b left v env (emitter at ws n) (emitter p₃ ws' n') r
      union_emits g =
          record {
            size = g.size;
            is = g.is ∙ ap (positions.push_union r₂) third.is ∙
                ap (λ (x : positions.Emitted). positions.push_union x.result
                (emit (expr_at (left - 1) b (third_at b at)) (take v env) x.entries))
                (s.is ∙ ap (λ (ns : List ℕ). emit (expr_at (left - 1) b (second_at b at)) ns one.entries)
                (three.same (take v env) r₁)) ∙
                sym (three.emits (take v env) (entries_in ws n));
            place = third.place ∙ sym three.ends;
            low = g.low;
            more = omega (arith, s.more, third.more, g.more);
            few = omega (arith, g.few, s.few, third.few, three.size);
          }
