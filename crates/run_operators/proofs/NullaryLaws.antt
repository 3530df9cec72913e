-- Records without operands: each way out of the code yields the run of the expression at the place.
use mathlib.Core.Path.{◌≡◌, refl, ap, ap₂, sym, subst, ◌∙◌}
use mathlib.Core.Bool.{true, false}
use mathlib.Core.Logic.{inr}
use mathlib.Core.Option.{Option, none, some}
use mathlib.Core.List.{List, [], ◌∷◌, map}
use Prim.Native.Nat.{ℕ, zero, suc, ◌+◌, ◌-◌, ◌≤◌, ◌<◌}
use native.Mathlib.Omega.{arith}
use lib.Dec.{ltb, eqb}
use lib.ListN.{length, get_or, take, drop, length-take, get_or-map}
use borrow.Author.Tests.{eqb-false}
use Rattle.std.specs.Prelude.{Err}
use Rattle.model.specs.Limits.{max_items, max_rows}
use Rattle.model.specs.Table as model
use Rattle.model.specs.Script.{nil_kind, document_kind, variable_kind, new_element_kind, new_leaf_kind}
use Rattle.model.specs.Script.{Expr, nil, document, var, element, leaf, script_kinds, body_size}
use Rattle.model.specs.Run.{Out, refused, gives, marked, new_row, loose, run, AreRows}
use Rattle.model.proofs.BoolLaws.{by_cases, cond_true, cond_false, cond_cases}
use Rattle.model.proofs.GrowLaws.{count_with_row}
use Rattle.model.proofs.All.{all_read}
use Rattle.model.specs.Base.{nothing, also}
use Rattle.script.specs.Accepted.{RecordFits, Nullary}
use Rattle.script.proofs.AcceptedLaws.{accepted_record, accepted_nil, accepted_document}
use Rattle.script.proofs.AcceptedLaws.{accepted_variable, accepted_element, accepted_leaf}
use Rattle.script.proofs.FieldLaws.{variable_number}
use Rattle.plan_table.specs.Packed.{of_link, decode_parts}
use Rattle.plan_table.specs.declared.Reason.{Reason}
use Rattle.run_updates.specs.State.{Progress, came, state_of, Held, Updated}
use Rattle.run_updates.specs.Updating.{LoosePost}
use Rattle.run_query.specs.Values.{value_at, Appended}
use Rattle.run_updates.proofs.StateLaws.{outcome_gives, held_count}
use Rattle.run_query.proofs.ValueLaws.{appended_none}
use Rattle.run_operators.specs.Machine.{Evaluated, came_out, Machine, Frame, no_span, span_value, bound_values, machine, came_to}
use Rattle.run_operators.specs.Machine.{state_in, bound_in}
use Rattle.run_operators.specs.Evaluating.{CopyPre, ended_by, Yields, EvalPre, EvalPost}
use Rattle.run_operators.specs.declared.value.Span.{Span}
use Rattle.run_operators.proofs.YieldLaws.{yields_updated, refused_updated, updated_none, yields_as}

-- A NEW ROW has the number next to the rows so far
count_of : Out → ℕ
count_of (refused f) = max_rows + 1
count_of (gives v s) = model.count s.plan

made_count : {ws h : List ℕ} {p : Progress} {ws' h' : List ℕ} {q : Progress} {v : List ℕ} (r : model.Row) → Held ws h p →
    Updated (λ z s. new_row z r s) v ws h p ws' h' q → q.number ≡ 0 → p.count < q.count
unfolding count_of
made_count {ws} {h} {p} {ws'} {h'} {q} {v} r held up k =
    let held' = (up.after k).held in
    let e : model.count (decode_parts q.count ws' []) ≡ count_of (new_row 0 r (state_of ws [] h p)) =
    ap count_of (sym (outcome_gives 0 v ws' [] h' q k) ∙ up.same 0 []) in
    by_cases (ltb (model.count (decode_parts p.count ws [])) max_rows)
    (λ t.
    let g : model.count (decode_parts q.count ws' []) ≡ model.count (model.with_row (decode_parts p.count ws []) r) =
    e ∙ ap count_of (cond_true (ltb (model.count (decode_parts p.count ws [])) max_rows) _ _ t) in
    omega (arith, g, count_with_row (decode_parts p.count ws []) r, held_count held [], held_count held' []))
    (λ t.
    let g : model.count (decode_parts q.count ws' []) ≡ max_rows + 1 =
    e ∙ ap count_of (cond_false (ltb (model.count (decode_parts p.count ws [])) max_rows) _ _ t) in
    omega (arith, g, held_count held' [], held'.few))

-- a document's row is a row
marked_held : (m c : ℕ) → m ≤ c → AreRows c (marked (of_link m))
marked_held m c l =
    cond_cases (λ (o : Option ℕ). AreRows c (marked o)) (eqb m 0) (λ t. nothing)
    (λ t. let g : m - 1 < c = omega (arith, eqb-false m 0 t) in also g nothing)

marked_few : (o : Option ℕ) → length (marked o) ≤ 1
marked_few none = omega arith
marked_few (some i) = omega arith

-- a variable's value, among all
bound_at : (w : List ℕ) (n : ℕ) (env : List Span) (v : ℕ) → v < n → n ≤ length env →
    get_or (bound_values w n env) v [] ≡ span_value w (get_or env v no_span)
bound_at w zero env v l m = absurd (omega arith)
bound_at w (suc n) [] v l m = absurd (omega arith)
bound_at w (suc n) (s ∷ ss) zero l m = refl
bound_at w (suc n) (s ∷ ss) (suc v) l m = bound_at w n ss v (omega arith) (omega arith)

module _ {b : List ℕ} {left : ℕ} {f : Frame} {s : Machine} (pre : EvalPre b left f s) where
  abbrev at : ℕ
  at = s.place

  fits : RecordFits b s.place left f.bound
  fits = accepted_record pre.accepted

  pub nullary_room : f.top + max_items ≤ length s.work
  nullary_room = omega (arith, pre.room)

  -- the byte behind a kind that has a body
  pub body_within : {k : ℕ} → get_or b s.place 0 ≡ k → body_size k ≡ 1 → s.place + 1 < length b
  body_within e one = omega (arith, fits.whole, ap body_size e, one)

  -- the expression is e, and ends past its record
  from_record : (e : Expr) (k : ℕ) → get_or b at 0 ≡ k → Nullary b at left e → {s' : Machine} →
      Yields (run e (bound_in f s) (state_in f s)) (at + (1 + body_size k)) f s s' → EvalPost b left f s s'
  from_record e k is o y =
      yields_as (ap (λ (x : Expr). run x (bound_in f s) (state_in f s)) (sym o.expr))
      (sym (o.ends ∙ ap (λ (j : ℕ). at + (1 + body_size j)) is)) y

  pub nil_yields : get_or b s.place 0 ≡ nil_kind → {r : Evaluated} →
      r ≡ ended_by s.progress s.place (s.place + 1) f.top s.env →
      EvalPost b left f s (came_to r s)
  unfolding run script_kinds
  nil_yields k eq =
      from_record (nil at) 1 k (accepted_nil pre.accepted k)
      (yields_updated f s (updated_none pre.held) (appended_none s.work f.top) (λ q. refl) refl (omega (arith, nullary_room))
      (omega arith) (λ q. nothing) pre.scope.size eq)

  module _ {w' : List ℕ} {e : ℕ} (size : length w' ≡ length s.work) {r : Evaluated}
      (eq : r ≡ ended_by s.progress s.place (s.place + 2) e s.env) where
    pub document_yields : get_or b s.place 0 ≡ document_kind → {d : ℕ} → d ≡ get_or b (s.place + 1) 0 →
        Appended (marked (of_link (get_or f.marks d 0))) s.work f.top w' e →
        EvalPost b left f s (machine s.rows s.history w' r)
    unfolding run script_kinds
    document_yields k {d} i a =
        from_record (document at (get_or b (at + 1) 0)) 2 k (accepted_document pre.accepted k)
        (yields_as
        (ap (λ (o : Option ℕ). gives (marked o) (state_in f s))
        (sym (get_or-map of_link f.marks d 0) ∙ ap (λ (j : ℕ). get_or (map of_link f.marks) j none) i)) refl
        (yields_updated f s (updated_none pre.held) a (λ q. refl) size (omega (arith, nullary_room))
        (omega (arith, marked_few (of_link (get_or f.marks d 0))))
        (λ q. marked_held (get_or f.marks d 0) s.progress.count (pre.marks.rows d)) pre.scope.size eq))

    pub variable_yields : get_or b s.place 0 ≡ variable_kind → {v : ℕ} → v ≡ get_or b (s.place + 1) 0 →
        {from len : ℕ} → from ≡ (get_or s.env v no_span).start → len ≡ (get_or s.env v no_span).len →
        Appended (value_at s.work from (from + len)) s.work f.top w' e →
        EvalPost b left f s (machine s.rows s.history w' r)
    unfolding run script_kinds
    variable_yields k {v} i {from} {len} g h a =
        from_record (var at (get_or b (at + 1) 0)) 3 k (accepted_variable pre.accepted k)
        (yields_as (ap (λ (u : List ℕ). gives u (state_in f s)) is) refl
        (yields_updated f s (updated_none pre.held) a (λ q. refl) size (omega (arith, nullary_room)) few
        (λ q. subst (AreRows s.progress.count) (sym is) (all_read [] nothing pre.scope.values (get_or b (at + 1) 0)))
        pre.scope.size eq))
      where
        low : get_or b (at + 1) 0 < f.bound
        low = variable_number fits k

        is : value_at s.work from (from + len) ≡ get_or (bound_in f s) (get_or b (at + 1) 0) []
        is =
            let m : (from + len) - from ≡ len = omega arith in
            ap (λ (j : ℕ). take j (drop from s.work)) m ∙ ap₂ (λ (n j : ℕ). take n (drop j s.work)) h g ∙
            ap (λ (j : ℕ). span_value s.work (get_or s.env j no_span)) i ∙
            sym (bound_at s.work f.bound s.env (get_or b (at + 1) 0) low (omega (arith, pre.scope.few, pre.scope.size)))

        few : length (value_at s.work from (from + len)) ≤ max_items
        few =
            omega (
              arith,
              h,
              (pre.scope.spans v (omega (arith, low))).1,
              length-take ((from + len) - from) (drop from s.work),
            )

  -- NEW ROWS
  module _ {x : Expr} {k : ℕ} (is : get_or b s.place 0 ≡ k) (o : Nullary b s.place left x) (r : model.Row)
      (runs : run x (bound_in f s) (state_in f s) ≡ new_row s.place r (state_in f s)) {ws' h' w' : List ℕ} where
    row_refused : (q : Reason) →
        Updated (λ z s. new_row z r s) (s.progress.count ∷ []) s.rows s.history s.progress ws' h' (came (Err q)) →
        EvalPost b left f s (machine ws' h' w' (came_out (Err (record { reason = q; place = s.place }))))
    row_refused q up = from_record x k is o (yields_as (sym runs) refl (refused_updated f s q up w'))

    row_yields : body_size k ≡ 1 → {q : Progress} → q.number ≡ 0 →
        Updated (λ z s. new_row z r s) (s.progress.count ∷ []) s.rows s.history s.progress ws' h' q → length w' ≡ length s.work →
        {e : ℕ} → Appended (s.progress.count ∷ []) s.work f.top w' e → {y : Evaluated} →
        y ≡ ended_by q s.place (s.place + 2) e s.env →
        EvalPost b left f s (machine ws' h' w' y)
    row_yields body {q} z up size a eq =
        let l : s.progress.count < q.count = made_count r pre.held up z in
        from_record x k is o
        (yields_as (sym runs) (ap (λ (j : ℕ). at + (1 + j)) (sym body))
        (yields_updated f s up a (λ k. refl) size (omega (arith, nullary_room)) (omega arith) (λ k. also l nothing) pre.scope.size eq))

  module _ (k : get_or b s.place 0 ≡ new_element_kind) {tag : ℕ} (i : tag ≡ get_or b (s.place + 1) 0) where
    element_runs : run (element at (get_or b (at + 1) 0)) (bound_in f s) (state_in f s) ≡ new_row at (loose false tag) (state_in f s)
    unfolding run
    element_runs = ap (λ (j : ℕ). new_row at (loose false j) (state_in f s)) (sym i)

    module _ {ws' h' w' : List ℕ} where
      pub element_refused : (q : Reason) → LoosePost s.rows s.history s.progress false tag ws' h' (came (Err q)) →
          EvalPost b left f s (machine ws' h' w' (came_out (Err (record { reason = q; place = s.place }))))
      element_refused = row_refused k (accepted_element pre.accepted k) (loose false tag) element_runs

      pub element_yields : {q : Progress} → q.number ≡ 0 → LoosePost s.rows s.history s.progress false tag ws' h' q →
          length w' ≡ length s.work → {e : ℕ} → Appended (s.progress.count ∷ []) s.work f.top w' e → {y : Evaluated} →
          y ≡ ended_by q s.place (s.place + 2) e s.env → EvalPost b left f s (machine ws' h' w' y)
      unfolding script_kinds
      element_yields = row_yields k (accepted_element pre.accepted k) (loose false tag) element_runs refl

  module _ (k : get_or b s.place 0 ≡ new_leaf_kind) where
    leaf_runs : run (leaf at (get_or b (at + 1) 0)) (bound_in f s) (state_in f s) ≡
        new_row at (loose true (get_or b (at + 1) 0)) (state_in f s)
    unfolding run
    leaf_runs = refl

    module _ {ws' h' w' : List ℕ} where
      pub leaf_refused : (q : Reason) → LoosePost s.rows s.history s.progress true (get_or b (s.place + 1) 0) ws' h' (came (Err q)) →
          EvalPost b left f s (machine ws' h' w' (came_out (Err (record { reason = q; place = s.place }))))
      leaf_refused = row_refused k (accepted_leaf pre.accepted k) (loose true (get_or b (s.place + 1) 0)) leaf_runs

      pub leaf_yields : {q : Progress} → q.number ≡ 0 → LoosePost s.rows s.history s.progress true (get_or b (s.place + 1) 0) ws' h' q →
          length w' ≡ length s.work → {e : ℕ} → Appended (s.progress.count ∷ []) s.work f.top w' e → {y : Evaluated} →
          y ≡ ended_by q s.place (s.place + 2) e s.env → EvalPost b left f s (machine ws' h' w' y)
      unfolding script_kinds
      leaf_yields = row_yields k (accepted_leaf pre.accepted k) (loose true (get_or b (s.place + 1) 0)) leaf_runs refl

  -- a variable's value may be copied to top
  pub variable_asks : get_or b s.place 0 ≡ variable_kind → {v : ℕ} → v ≡ get_or b (s.place + 1) 0 →
      {from len : ℕ} → from ≡ (get_or s.env v no_span).start → len ≡ (get_or s.env v no_span).len →
      CopyPre s.work from (from + len) f.top
  variable_asks k {v} i {from} {len} g h =
      let z = pre.scope.spans v (omega (arith, variable_number fits k)) in
      let below : from + len ≤ f.top = omega (arith, z.0, g, h) in
      record {
        order = omega arith;
        within = omega (arith, below, nullary_room);
        room = omega (arith, z.1, h, nullary_room);
        apart = inr below;
      }

  pub variable_below : get_or b s.place 0 ≡ variable_kind → {v : ℕ} → v ≡ get_or b (s.place + 1) 0 →
      (get_or s.env v no_span).start + (get_or s.env v no_span).len ≤ f.top
  variable_below k {v} i = (pre.scope.spans v (omega (arith, variable_number fits k))).0
