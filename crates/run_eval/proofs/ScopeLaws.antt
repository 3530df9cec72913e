-- The variables in scope: kept while the area below top is kept, and one more inside a binder.
use mathlib.Core.Path.{◌≡◌, refl, ap, sym, subst, ◌∙◌}
use mathlib.Core.Bool.{Bool, true, false, cond}
use mathlib.Core.List.{List, [], ◌∷◌, ◌++◌, map, map-append}
use Prim.Native.Nat.{ℕ, zero, suc, ◌+◌, ◌-◌, ◌≤◌, ◌<◌}
use native.Mathlib.Omega.{arith}
use lib.ListN.{length, get_or, take, drop, get_or-append}
use lib.Seq.{get_or-take, get_or-append_seam, take_at, take-take, length-take-le}
use Rattle.model.specs.Limits.{max_items, max_binders}
use Rattle.model.specs.Script.{is_binder}
use Rattle.model.proofs.BoolLaws.{by_cases, eq_cases}
use Rattle.model.proofs.ValueLaws.{are_values_more}
use Rattle.model.proofs.All.{all_snoc}
use Rattle.model.specs.Run.{Out, AreRows, AreValues}
use Rattle.script_records.specs.Walk.{with_bound, inner}
use Rattle.run_query.specs.Values.{value_at}
use Rattle.run_query.specs.Index.{IndexHeld}
use Rattle.run_query.proofs.IndexLaws.{held_after}
use Rattle.run_operators.specs.Machine.{Machine, Frame, no_span, span_of, span_value, bound_values}
use Rattle.run_operators.specs.Evaluating.{SpanFits, InScope, BindPost, MarksHeld, Yields}
use Rattle.run_operators.specs.declared.value.Span.{Span}
use Rattle.run_operators.proofs.ValueLaws.{value_same}
use Rattle.script_records.proofs.BindLaws.{inner_more, inner_same}

-- MARKS stay within a table that grows
pub marks_more : {ms : List ℕ} {c d : ℕ} → MarksHeld ms c → c ≤ d → MarksHeld ms d
marks_more m l = record { size = m.size; rows = λ d. omega (arith, m.rows d) }

-- THE INDEX stays, while rows are added and links cut
pub index_kept : {ix : List ℕ} {goal : Out} {next : ℕ} {f : Frame} {s s' : Machine} → IndexHeld ix s.rows s.progress.count →
    Yields goal next f s s' → s'.progress.number ≡ 0 → IndexHeld ix s'.rows s'.progress.count
index_kept i y k = let a = (y.fine k).after in held_after i a.rows a.links

-- VALUES below top are kept
span_same : (w w' : List ℕ) (top : ℕ) (s : Span) → take top w' ≡ take top w → SpanFits top s → span_value w' s ≡ span_value w s
span_same w w' top s e f =
    let m : (s.start + s.len) - s.start ≡ s.len = omega arith in
    ap (λ (j : ℕ). take j (drop s.start w')) (sym m) ∙
    value_same w w' top s.start (s.start + s.len) e f.0 ∙
    ap (λ (j : ℕ). take j (drop s.start w)) m

values_same : (w w' : List ℕ) (top n : ℕ) (env : List Span) → take top w' ≡ take top w →
    ((v : ℕ) → v < n → SpanFits top (get_or env v no_span)) → n ≤ length env → bound_values w' n env ≡ bound_values w n env
values_same w w' top zero env e f l = refl
values_same w w' top (suc n) [] e f l = refl
values_same w w' top (suc n) (s ∷ ss) e f l =
    ap (λ (x : List ℕ). x ∷ bound_values w' n ss) (span_same w w' top s e (f 0 (omega arith))) ∙
    ap (λ (xs : List (List ℕ)). span_value w s ∷ xs)
    (values_same w w' top n ss e (λ v m. f (suc v) (omega arith)) (omega arith))

module _ {w : List ℕ} {n : ℕ} {env : List Span} {top c : ℕ} (scope : InScope w n env top c) (w' : List ℕ) (env' : List Span)
    (below : take top w' ≡ take top w) (back : take n env' ≡ take n env) where
  pub bound_kept : bound_values w' n env' ≡ bound_values w n env
  bound_kept =
      ap (map (span_value w')) back ∙
      values_same w w' top n env below scope.spans (omega (arith, scope.few, scope.size))

  pub scope_kept : {mid d : ℕ} → length env' ≡ max_binders → top ≤ mid → c ≤ d → InScope w' n env' mid d
  scope_kept {mid} {d} size l m =
      record {
        few = scope.few;
        size = size;
        spans = λ v k.
            let e : get_or env' v no_span ≡ get_or env v no_span =
            sym (get_or-take n env' v no_span k) ∙ ap (λ (x : List Span). get_or x v no_span) back ∙ get_or-take n env v no_span k in
            let f = scope.spans v k in
            let g : SpanFits mid (get_or env v no_span) = (omega (arith, f.0), f.1) in
            subst (SpanFits mid) (sym e) g;
        values = subst (AreValues d) (sym bound_kept) (are_values_more m scope.values);
      }

-- INSIDE A BINDER
module _ {w : List ℕ} {n : ℕ} {env : List Span} {top i j c : ℕ} (scope : InScope w n env top c) {k : ℕ} {inside : List Span}
    (post : BindPost k env n i j inside) where
  -- the values there
  pub bound_inside : bound_values w (inner k n) inside ≡ with_bound k (bound_values w n env) (value_at w i j)
  bound_inside = ap (map (span_value w)) post.is ∙ go (is_binder k)
    where
      go : (t : Bool) → map (span_value w) (cond t (take n env ++ (span_of i j ∷ [])) (take n env)) ≡
          cond t (bound_values w n env ++ (value_at w i j ∷ [])) (bound_values w n env)
      go true = map-append (span_value w) (take n env) (span_of i j ∷ [])
      go false = refl

  front_size : length (take n env) ≡ n
  front_size = length-take-le n env (omega (arith, scope.few, scope.size))

  -- the variables around it are handed back
  pub bound_back : (env' : List Span) → take (inner k n) env' ≡ take (inner k n) inside → take n env' ≡ take n env
  bound_back env' e = by_cases (is_binder k) more same
    where
      more : is_binder k ≡ true → take n env' ≡ take n env
      more t =
          let l : n ≤ inner k n = omega (arith, inner_more k n t) in
          sym (take-take n (inner k n) env' l) ∙
          ap (take n) (e ∙ post.is ∙ ap (λ (b : Bool). cond b (take n env ++ (span_of i j ∷ [])) (take n env)) t) ∙
          take_at (take n env) (span_of i j ∷ []) n front_size

      same : is_binder k ≡ false → take n env' ≡ take n env
      same t =
          ap (λ (m : ℕ). take m env') (inner_same k n t) ∙ e ∙ post.is ∙
          ap (λ (b : Bool). cond b (take n env ++ (span_of i j ∷ [])) (take n env)) t

  pub scope_inside : (mid : ℕ) → (is_binder k ≡ true → n < max_binders) → i ≤ j → j ≤ i + max_items → j ≤ mid → top ≤ mid →
      AreRows c (value_at w i j) →
      InScope w (inner k n) inside mid c
  scope_inside mid room l m u o rows = by_cases (is_binder k) more same
    where
      read : (v : ℕ) → v < inner k n → get_or inside v no_span ≡ get_or (with_bound k (take n env) (span_of i j)) v no_span
      read v q = sym (get_or-take (inner k n) inside v no_span q) ∙ ap (λ (x : List Span). get_or x v no_span) post.is

      old : (v : ℕ) → v < n → SpanFits mid (get_or env v no_span)
      old v q = let f = scope.spans v q in (omega (arith, f.0), f.1)

      more : is_binder k ≡ true → InScope w (inner k n) inside mid c
      more t =
          record {
            few = omega (arith, inner_more k n t, room t);
            size = post.size;
            spans = λ v q. subst (SpanFits mid) (sym (read v q ∙ bound_more v)) (each v (omega (arith, inner_more k n t)));
            values = subst (AreValues c) (sym (bound_inside ∙ ap (λ (b : Bool). cond b (bound_values w n env ++ (value_at w i j ∷ []))
                (bound_values w n env)) t)) (all_snoc scope.values rows);
          }
        where
          bound_more : (v : ℕ) →
              get_or (with_bound k (take n env) (span_of i j)) v no_span ≡ get_or (take n env ++ (span_of i j ∷ [])) v no_span
          bound_more v = ap (λ (b : Bool). get_or (cond b (take n env ++ (span_of i j ∷ [])) (take n env)) v no_span) t

          each : (v : ℕ) → v < n + 1 → SpanFits mid (get_or (take n env ++ (span_of i j ∷ [])) v no_span)
          each v q = eq_cases v n last before
            where
              last : v ≡ n → SpanFits mid (get_or (take n env ++ (span_of i j ∷ [])) v no_span)
              last e =
                  let f : SpanFits mid (span_of i j) = (omega arith, omega arith) in
                  subst (SpanFits mid)
                  (sym (ap (λ (u : ℕ). get_or (take n env ++ (span_of i j ∷ [])) u no_span) (e ∙ sym front_size) ∙
                  get_or-append_seam (take n env) (span_of i j) [] no_span)) f

              before : (v ≡ n → ⊥) → SpanFits mid (get_or (take n env ++ (span_of i j ∷ [])) v no_span)
              before e =
                  let q' : v < n = omega arith in
                  subst (SpanFits mid)
                  (sym (get_or-append (take n env) (span_of i j ∷ []) no_span v (omega (arith, front_size)) ∙
                  get_or-take n env v no_span q')) (old v q')

      same : is_binder k ≡ false → InScope w (inner k n) inside mid c
      same t =
          record {
            few = omega (arith, inner_same k n t, scope.few);
            size = post.size;
            spans = λ v q.
                let q' : v < n = omega (arith, inner_same k n t) in
                subst (SpanFits mid)
                (sym (read v q ∙ ap (λ (b : Bool). get_or (cond b (take n env ++ (span_of i j ∷ [])) (take n env)) v no_span) t ∙
                get_or-take n env v no_span q')) (old v q');
            values = subst (AreValues c) (sym (bound_inside ∙ ap (λ (b : Bool). cond b (bound_values w n env ++ (value_at w i j ∷ []))
                (bound_values w n env)) t)) scope.values;
          }
