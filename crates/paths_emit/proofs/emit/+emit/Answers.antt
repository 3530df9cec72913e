use Rattle.std.proofs.Common.{◌≡◌, ap, sym, ◌∙◌, arith, get_or, ℕ, ◌+◌, ◌<◌}
use Rattle.model.specs.Script.{arity, body_size}
use Rattle.script_records.specs.Walk.{first_at}
use Rattle.script.proofs.AcceptedLaws.{accepted_record}
use Rattle.paths_emit.proofs.WalkLaws.{deeper, nullary_asks, nullary_emits, first_asks, First, first_emitted, unary_asks}
use Rattle.paths_emit.proofs.WalkLaws.{unary_emits}
use Rattle.paths_emit.proofs.WalkLaws.{bind_asks, second_asks, Second, second_emitted, binary_asks, binary_emits, third_asks}
use Rattle.paths_emit.proofs.WalkLaws.{union_asks, union_emits}
use Rattle.paths_emit.proofs.emit.+emit.Goals as goal

pub kind_at-kind-requires : goal.kind_at-kind-requires
kind_at-kind-requires t c =
    let r = accepted_record c.requires.accepted in
    record { in_bounds = omega (arith, r.whole); known = r.kind }

pub overflow_add-place-2 : goal.overflow_add-place-2
overflow_add-place-2 t c =
    omega (arith, (accepted_record c.requires.accepted).whole, (c.body_size.ensures.value ∙ ap body_size c.kind_at-kind.ensures))

pub overflow_sub-left : goal.overflow_sub-left
overflow_sub-left t c =
    (accepted_record c.requires.accepted).depth

pub emit-x-requires : goal.emit-x-requires
emit-x-requires t c =
    let place_at : let a = c.args in
    a.place.now + (1 + c.body_size.result) ≡ first_at a.bytes.now a.place.now =
    ap (λ (s : ℕ). c.args.place.now + (1 + s)) (c.body_size.ensures.value ∙ ap body_size c.kind_at-kind.ensures) in (
      deeper c.requires c.decreases,
      first_asks c.requires (omega (arith, (c.arity-operands.ensures.value ∙ ap arity c.kind_at-kind.ensures), c.if-operands-eq1.true))
          (place_at),
    )

pub unary-requires-clause-unary_pre : goal.unary-requires-clause-unary_pre
unary-requires-clause-unary_pre t c =
    let one_at : let a = c.args in
    let e = c.emit-x.new in
    First a.bytes.now a.place.now a.left a.bound a.env a.positions.now.items a.positions.now.count e.place
    e.positions.items e.positions.count c.emit-x.result = let place_at : let a = c.args in
    a.place.now + (1 + c.body_size.result) ≡ first_at a.bytes.now a.place.now =
    ap (λ (s : ℕ). c.args.place.now + (1 + s)) (c.body_size.ensures.value ∙ ap body_size c.kind_at-kind.ensures) in
    first_emitted c.requires (place_at) c.emit-x.ensures in
    unary_asks (one_at) (sym (c.arity-operands.ensures.value ∙ ap arity c.kind_at-kind.ensures) ∙ c.if-operands-eq1.true)

pub returns-then-operands-eq1 : goal.returns-then-operands-eq1
returns-then-operands-eq1 t c =
    let one_at : let a = c.args in
    let e = c.emit-x.new in
    First a.bytes.now a.place.now a.left a.bound a.env a.positions.now.items a.positions.now.count e.place
    e.positions.items e.positions.count c.emit-x.result = let place_at : let a = c.args in
    a.place.now + (1 + c.body_size.result) ≡ first_at a.bytes.now a.place.now =
    ap (λ (s : ℕ). c.args.place.now + (1 + s)) (c.body_size.ensures.value ∙ ap body_size c.kind_at-kind.ensures) in
    first_emitted c.requires (place_at) c.emit-x.ensures in
    unary_emits (one_at) (sym (c.arity-operands.ensures.value ∙ ap arity c.kind_at-kind.ensures) ∙ c.if-operands-eq1.true) c.unary.ensures

pub nullary-requires-clause-nullary_pre : goal.nullary-requires-clause-nullary_pre
nullary-requires-clause-nullary_pre t c =
    nullary_asks c.requires (sym (c.arity-operands.ensures.value ∙ ap arity c.kind_at-kind.ensures) ∙ c.if-operands-eq0.true)

pub returns-then-operands-eq0 : goal.returns-then-operands-eq0
returns-then-operands-eq0 t c =
    let place_at : let a = c.args in
    a.place.now + (1 + c.body_size.result) ≡ first_at a.bytes.now a.place.now =
    ap (λ (s : ℕ). c.args.place.now + (1 + s)) (c.body_size.ensures.value ∙ ap body_size c.kind_at-kind.ensures) in
    nullary_emits c.requires
    (sym (c.arity-operands.ensures.value ∙ ap arity c.kind_at-kind.ensures) ∙ c.if-operands-eq0.true) (place_at) c.nullary.ensures

pub overflow_sub-left-2 : goal.overflow_sub-left-2
overflow_sub-left-2 t c =
    (accepted_record c.requires.accepted).depth

pub emit-x-requires-2 : goal.emit-x-requires-2
emit-x-requires-2 t c =
    let place_at : let a = c.args in
    a.place.now + (1 + c.body_size.result) ≡ first_at a.bytes.now a.place.now =
    ap (λ (s : ℕ). c.args.place.now + (1 + s)) (c.body_size.ensures.value ∙ ap body_size c.kind_at-kind.ensures) in
    let many_at : let a = c.args in
    1 < arity (get_or a.bytes.now a.place.now 0) =
    omega (arith, (c.arity-operands.ensures.value ∙ ap arity c.kind_at-kind.ensures), c.if-operands-eq1.false, c.if-operands-eq0.false) in
    (deeper c.requires c.decreases, first_asks c.requires (omega (arith, many_at)) (place_at))

pub bind-inside-requires : goal.bind-inside-requires
bind-inside-requires t c =
    let many_at : let a = c.args in
    1 < arity (get_or a.bytes.now a.place.now 0) =
    omega (arith, (c.arity-operands.ensures.value ∙ ap arity c.kind_at-kind.ensures), c.if-operands-eq1.false, c.if-operands-eq0.false) in
    let first_at_lem : let a = c.args in
    let e = c.emit-x-2.new in
    First a.bytes.now a.place.now a.left a.bound a.env a.positions.now.items a.positions.now.count e.place
    e.positions.items e.positions.count c.emit-x-2.result = let place_at : let a = c.args in
    a.place.now + (1 + c.body_size.result) ≡ first_at a.bytes.now a.place.now =
    ap (λ (s : ℕ). c.args.place.now + (1 + s)) (c.body_size.ensures.value ∙ ap body_size c.kind_at-kind.ensures) in
    first_emitted c.requires (place_at) c.emit-x-2.ensures in
    rw c.kind_at-kind.ensures (bind_asks (first_at_lem) (many_at))

pub overflow_sub-left-3 : goal.overflow_sub-left-3
overflow_sub-left-3 t c =
    let first_at_lem : let a = c.args in
    let e = c.emit-x-2.new in
    First a.bytes.now a.place.now a.left a.bound a.env a.positions.now.items a.positions.now.count e.place
    e.positions.items e.positions.count c.emit-x-2.result = let place_at : let a = c.args in
    a.place.now + (1 + c.body_size.result) ≡ first_at a.bytes.now a.place.now =
    ap (λ (s : ℕ). c.args.place.now + (1 + s)) (c.body_size.ensures.value ∙ ap body_size c.kind_at-kind.ensures) in
    first_emitted c.requires (place_at) c.emit-x-2.ensures in
    (accepted_record (first_at_lem).pre.accepted).depth

pub emit-y-requires : goal.emit-y-requires
emit-y-requires t c =
    let many_at : let a = c.args in
    1 < arity (get_or a.bytes.now a.place.now 0) =
    omega (arith, (c.arity-operands.ensures.value ∙ ap arity c.kind_at-kind.ensures), c.if-operands-eq1.false, c.if-operands-eq0.false) in
    let first_at_lem : let a = c.args in
    let e = c.emit-x-2.new in
    First a.bytes.now a.place.now a.left a.bound a.env a.positions.now.items a.positions.now.count e.place
    e.positions.items e.positions.count c.emit-x-2.result = let place_at : let a = c.args in
    a.place.now + (1 + c.body_size.result) ≡ first_at a.bytes.now a.place.now =
    ap (λ (s : ℕ). c.args.place.now + (1 + s)) (c.body_size.ensures.value ∙ ap body_size c.kind_at-kind.ensures) in
    first_emitted c.requires (place_at) c.emit-x-2.ensures in (
      deeper c.requires c.decreases,
      second_asks (first_at_lem) (many_at) (rw c.kind_at-kind.ensures at c.bind-inside.ensures)
          (rw c.kind_at-kind.ensures at c.inner.ensures),
    )

pub binary-requires : goal.binary-requires
binary-requires t c =
    let second_at_lem : let a = c.args in
    let e = c.emit-y.new in
    Second a.bytes.now a.place.now a.left a.bound a.env a.positions.now.items a.positions.now.count c.emit-x-2.result
    e.place e.positions.items e.positions.count c.emit-y.result = let many_at : let a = c.args in
    1 < arity (get_or a.bytes.now a.place.now 0) =
    omega (arith, (c.arity-operands.ensures.value ∙ ap arity c.kind_at-kind.ensures), c.if-operands-eq1.false, c.if-operands-eq0.false) in
    let first_at_lem : let a = c.args in
    let e = c.emit-x-2.new in
    First a.bytes.now a.place.now a.left a.bound a.env a.positions.now.items a.positions.now.count e.place
    e.positions.items e.positions.count c.emit-x-2.result = let place_at : let a = c.args in
    a.place.now + (1 + c.body_size.result) ≡ first_at a.bytes.now a.place.now =
    ap (λ (s : ℕ). c.args.place.now + (1 + s)) (c.body_size.ensures.value ∙ ap body_size c.kind_at-kind.ensures) in
    first_emitted c.requires (place_at) c.emit-x-2.ensures in
    second_emitted (first_at_lem) (many_at) (rw c.kind_at-kind.ensures at c.bind-inside.ensures)
    (rw c.kind_at-kind.ensures at c.inner.ensures) c.emit-y.ensures in
    binary_asks (second_at_lem) (sym (c.arity-operands.ensures.value ∙ ap arity c.kind_at-kind.ensures) ∙ c.if-operands-eq2.true)

pub returns-then-operands-eq2 : goal.returns-then-operands-eq2
returns-then-operands-eq2 t c =
    let second_at_lem : let a = c.args in
    let e = c.emit-y.new in
    Second a.bytes.now a.place.now a.left a.bound a.env a.positions.now.items a.positions.now.count c.emit-x-2.result
    e.place e.positions.items e.positions.count c.emit-y.result = let many_at : let a = c.args in
    1 < arity (get_or a.bytes.now a.place.now 0) =
    omega (arith, (c.arity-operands.ensures.value ∙ ap arity c.kind_at-kind.ensures), c.if-operands-eq1.false, c.if-operands-eq0.false) in
    let first_at_lem : let a = c.args in
    let e = c.emit-x-2.new in
    First a.bytes.now a.place.now a.left a.bound a.env a.positions.now.items a.positions.now.count e.place
    e.positions.items e.positions.count c.emit-x-2.result = let place_at : let a = c.args in
    a.place.now + (1 + c.body_size.result) ≡ first_at a.bytes.now a.place.now =
    ap (λ (s : ℕ). c.args.place.now + (1 + s)) (c.body_size.ensures.value ∙ ap body_size c.kind_at-kind.ensures) in
    first_emitted c.requires (place_at) c.emit-x-2.ensures in
    second_emitted (first_at_lem) (many_at) (rw c.kind_at-kind.ensures at c.bind-inside.ensures)
    (rw c.kind_at-kind.ensures at c.inner.ensures) c.emit-y.ensures in
    binary_emits (second_at_lem)
    (sym (c.arity-operands.ensures.value ∙ ap arity c.kind_at-kind.ensures) ∙ c.if-operands-eq2.true)
    (rw c.kind_at-kind.ensures at c.binary.ensures)

pub overflow_sub-left-4 : goal.overflow_sub-left-4
overflow_sub-left-4 t c =
    let second_at_lem : let a = c.args in
    let e = c.emit-y.new in
    Second a.bytes.now a.place.now a.left a.bound a.env a.positions.now.items a.positions.now.count c.emit-x-2.result
    e.place e.positions.items e.positions.count c.emit-y.result = let many_at : let a = c.args in
    1 < arity (get_or a.bytes.now a.place.now 0) =
    omega (arith, (c.arity-operands.ensures.value ∙ ap arity c.kind_at-kind.ensures), c.if-operands-eq1.false, c.if-operands-eq0.false) in
    let first_at_lem : let a = c.args in
    let e = c.emit-x-2.new in
    First a.bytes.now a.place.now a.left a.bound a.env a.positions.now.items a.positions.now.count e.place
    e.positions.items e.positions.count c.emit-x-2.result = let place_at : let a = c.args in
    a.place.now + (1 + c.body_size.result) ≡ first_at a.bytes.now a.place.now =
    ap (λ (s : ℕ). c.args.place.now + (1 + s)) (c.body_size.ensures.value ∙ ap body_size c.kind_at-kind.ensures) in
    first_emitted c.requires (place_at) c.emit-x-2.ensures in
    second_emitted (first_at_lem) (many_at) (rw c.kind_at-kind.ensures at c.bind-inside.ensures)
    (rw c.kind_at-kind.ensures at c.inner.ensures) c.emit-y.ensures in
    (accepted_record (second_at_lem).pre.accepted).depth

pub emit-z-requires : goal.emit-z-requires
emit-z-requires t c =
    let three_at : let a = c.args in
    2 < arity (get_or a.bytes.now a.place.now 0) = let many_at : let a = c.args in
    1 < arity (get_or a.bytes.now a.place.now 0) =
    omega (arith, (c.arity-operands.ensures.value ∙ ap arity c.kind_at-kind.ensures), c.if-operands-eq1.false, c.if-operands-eq0.false) in
    omega (arith, many_at, (c.arity-operands.ensures.value ∙ ap arity c.kind_at-kind.ensures), c.if-operands-eq2.false) in
    let second_at_lem : let a = c.args in
    let e = c.emit-y.new in
    Second a.bytes.now a.place.now a.left a.bound a.env a.positions.now.items a.positions.now.count c.emit-x-2.result
    e.place e.positions.items e.positions.count c.emit-y.result = let many_at : let a = c.args in
    1 < arity (get_or a.bytes.now a.place.now 0) =
    omega (arith, (c.arity-operands.ensures.value ∙ ap arity c.kind_at-kind.ensures), c.if-operands-eq1.false, c.if-operands-eq0.false) in
    let first_at_lem : let a = c.args in
    let e = c.emit-x-2.new in
    First a.bytes.now a.place.now a.left a.bound a.env a.positions.now.items a.positions.now.count e.place
    e.positions.items e.positions.count c.emit-x-2.result = let place_at : let a = c.args in
    a.place.now + (1 + c.body_size.result) ≡ first_at a.bytes.now a.place.now =
    ap (λ (s : ℕ). c.args.place.now + (1 + s)) (c.body_size.ensures.value ∙ ap body_size c.kind_at-kind.ensures) in
    first_emitted c.requires (place_at) c.emit-x-2.ensures in
    second_emitted (first_at_lem) (many_at) (rw c.kind_at-kind.ensures at c.bind-inside.ensures)
    (rw c.kind_at-kind.ensures at c.inner.ensures) c.emit-y.ensures in
    let s = second_at_lem in
    (deeper s.pre c.decreases, third_asks s (three_at))

pub union-requires : goal.union-requires
union-requires t c =
    let three_at : let a = c.args in
    2 < arity (get_or a.bytes.now a.place.now 0) = let many_at : let a = c.args in
    1 < arity (get_or a.bytes.now a.place.now 0) =
    omega (arith, (c.arity-operands.ensures.value ∙ ap arity c.kind_at-kind.ensures), c.if-operands-eq1.false, c.if-operands-eq0.false) in
    omega (arith, many_at, (c.arity-operands.ensures.value ∙ ap arity c.kind_at-kind.ensures), c.if-operands-eq2.false) in
    let second_at_lem : let a = c.args in
    let e = c.emit-y.new in
    Second a.bytes.now a.place.now a.left a.bound a.env a.positions.now.items a.positions.now.count c.emit-x-2.result
    e.place e.positions.items e.positions.count c.emit-y.result = let many_at : let a = c.args in
    1 < arity (get_or a.bytes.now a.place.now 0) =
    omega (arith, (c.arity-operands.ensures.value ∙ ap arity c.kind_at-kind.ensures), c.if-operands-eq1.false, c.if-operands-eq0.false) in
    let first_at_lem : let a = c.args in
    let e = c.emit-x-2.new in
    First a.bytes.now a.place.now a.left a.bound a.env a.positions.now.items a.positions.now.count e.place
    e.positions.items e.positions.count c.emit-x-2.result = let place_at : let a = c.args in
    a.place.now + (1 + c.body_size.result) ≡ first_at a.bytes.now a.place.now =
    ap (λ (s : ℕ). c.args.place.now + (1 + s)) (c.body_size.ensures.value ∙ ap body_size c.kind_at-kind.ensures) in
    first_emitted c.requires (place_at) c.emit-x-2.ensures in
    second_emitted (first_at_lem) (many_at) (rw c.kind_at-kind.ensures at c.bind-inside.ensures)
    (rw c.kind_at-kind.ensures at c.inner.ensures) c.emit-y.ensures in
    union_asks (second_at_lem) (three_at) c.emit-z.ensures

pub returns : goal.returns
returns t c =
    let three_at : let a = c.args in
    2 < arity (get_or a.bytes.now a.place.now 0) = let many_at : let a = c.args in
    1 < arity (get_or a.bytes.now a.place.now 0) =
    omega (arith, (c.arity-operands.ensures.value ∙ ap arity c.kind_at-kind.ensures), c.if-operands-eq1.false, c.if-operands-eq0.false) in
    omega (arith, many_at, (c.arity-operands.ensures.value ∙ ap arity c.kind_at-kind.ensures), c.if-operands-eq2.false) in
    let second_at_lem : let a = c.args in
    let e = c.emit-y.new in
    Second a.bytes.now a.place.now a.left a.bound a.env a.positions.now.items a.positions.now.count c.emit-x-2.result
    e.place e.positions.items e.positions.count c.emit-y.result = let many_at : let a = c.args in
    1 < arity (get_or a.bytes.now a.place.now 0) =
    omega (arith, (c.arity-operands.ensures.value ∙ ap arity c.kind_at-kind.ensures), c.if-operands-eq1.false, c.if-operands-eq0.false) in
    let first_at_lem : let a = c.args in
    let e = c.emit-x-2.new in
    First a.bytes.now a.place.now a.left a.bound a.env a.positions.now.items a.positions.now.count e.place
    e.positions.items e.positions.count c.emit-x-2.result = let place_at : let a = c.args in
    a.place.now + (1 + c.body_size.result) ≡ first_at a.bytes.now a.place.now =
    ap (λ (s : ℕ). c.args.place.now + (1 + s)) (c.body_size.ensures.value ∙ ap body_size c.kind_at-kind.ensures) in
    first_emitted c.requires (place_at) c.emit-x-2.ensures in
    second_emitted (first_at_lem) (many_at) (rw c.kind_at-kind.ensures at c.bind-inside.ensures)
    (rw c.kind_at-kind.ensures at c.inner.ensures) c.emit-y.ensures in
    union_emits (second_at_lem) (three_at) c.emit-z.ensures c.union.ensures
