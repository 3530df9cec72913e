-- What an accepted expression emits is the same by the fields that each packed position's kind has as by all of them: its steps have a
-- name only where their test is for one, and nothing has a role.
use mathlib.Core.Path.{◌≡◌, refl, ap, sym, ◌∙◌}
use mathlib.Core.Bool.{Bool, true, false, ◌&&◌, not, cond}
use mathlib.Core.List.{List, [], ◌∷◌, ◌++◌, map, map-append}
use Prim.Native.Nat.{ℕ, suc, zero, ◌+◌, ◌-◌, ◌≤◌}
use native.Mathlib.Omega.{arith}
use lib.Dec.{eqb, ltb}
use lib.ListN.{length, get_or, length-map, take}
use borrow.Author.Tests.{eqb-true, ne_eqb}
use Rattle.model.specs.Script.{Expr, Step, step_by, test_fits, arity, document_kind, variable_kind, step_kind, join_kind, delete_kind}
use Rattle.model.specs.Script.{insert_kind}
use Rattle.model.specs.Meeting.{is_named}
use Rattle.model.specs.Paths.{any_below, is_up}
use Rattle.model.proofs.BoolLaws.{by_cases, cond_cases, eq_cases, and_right}
use Rattle.script_records.specs.Walk.{with_bound, first_at, second_at, third_at, expr_at}
use Rattle.script.specs.Accepted.{Accepted}
use Rattle.script.proofs.AcceptedLaws.{accepted_record}
use Rattle.script.proofs.FieldLaws.{step_test}
use Rattle.paths_positions.specs.Positions.{Position, over, union, root, Entry, plain, accessing, modifying}
use Rattle.paths_positions.specs.Positions.{Emitted, emitted, push, push_step, push_union, push_delete, push_below, push_insert, emit}
use Rattle.paths_positions.specs.Packed.{entries_in}
use Rattle.paths_positions.proofs.CleanMeetLaws.{known}
use Rattle.paths_positions.proofs.KnownLaws.{known_entry, kept_all, kept_entries_in}
use Rattle.paths_emit.specs.Emitting.{nullary_of, unary_of, binary_of, Emitter, EmitPre, EmitPost}
use Rattle.paths_emit.proofs.OperandLaws.{no_operand, one_operand, two_operands, three_operands}

-- WHAT IS EMITTED, with such entries
abbrev known_out : Emitted → Emitted
known_out y = emitted y.result (map known_entry y.entries)

either_known : (t : Bool) {a b : Emitted} (c d : Emitted) → a ≡ known_out c → b ≡ known_out d → cond t a b ≡ known_out (cond t c d)
either_known true c d e f = e
either_known false c d e f = f

push_known : (es : List Entry) (x : Entry) → known_entry x ≡ x → push (map known_entry es) x ≡ known_out (push es x)
push_known es x e =
    ap (λ (n : ℕ). emitted n (map known_entry es ++ (x ∷ []))) (length-map es known_entry) ∙
    ap (λ (y : Entry). emitted (length es) (map known_entry es ++ (y ∷ []))) (sym e) ∙
    ap (emitted (length es)) (sym (map-append known_entry es (x ∷ [])))

-- a step whose name is stored where its test is for one
name_kept : (a t n : ℕ) → test_fits t n ≡ true → known (step_by a t n) ≡ step_by a t n
name_kept a t n h =
    eq_cases t 3 (λ e. rw e)
    (λ e. ap (step_by a t) (cond_cases (λ (m : ℕ). m ≡ n) (is_named (step_by a t n)) (λ _. refl)
    (λ _. sym (eqb-true n 0 (and_right (ltb t 3) (eqb n 0) (rw (ne_eqb t 3 e) at h))))))

step_known : (s : Step) → known s ≡ s → (x : Emitted) → push_step s (known_out x) ≡ known_out (push_step s x)
step_known s e x =
    either_known (eqb x.result 0 && not (is_up s)) _ _ refl
    (push_known x.entries (accessing (over s x.result)) (ap (λ (t : Step). accessing (over t x.result)) e))

union_known : (r : ℕ) (y : Emitted) → push_union r (known_out y) ≡ known_out (push_union r y)
union_known r y =
    either_known (eqb r 0) _ _ refl (either_known (eqb y.result 0) _ _ refl (push_known y.entries (plain (union r y.result)) refl))

delete_known : (x : Emitted) → push_delete (known_out x) ≡ known_out (push_delete x)
delete_known x =
    either_known (eqb x.result 0) _ _ refl
    (ap (λ (n : ℕ). emitted 0 (map known_entry x.entries ++ (below ∷ []) ++ (modifying (union x.result n) ∷ [])))
    (length-map x.entries known_entry) ∙
    ap (λ (es : List Entry). emitted 0 (es ++ (modifying (union x.result (length x.entries)) ∷ [])))
    (sym (map-append known_entry x.entries (below ∷ []))) ∙
    ap (emitted 0) (sym (map-append known_entry (x.entries ++ (below ∷ [])) (modifying (union x.result (length x.entries)) ∷ []))))
  where
    below : Entry
    below = plain (over any_below x.result)

below_known : (f : Position → Entry) (i : ℕ) → known_entry (f (over any_below i)) ≡ f (over any_below i) → (es : List Entry) →
    push_below f i (map known_entry es) ≡ map known_entry (push_below f i es)
below_known f i e es =
    by_cases (eqb i 0) (λ t. rw t)
    (λ t. rw t (ap (λ (x : Entry). map known_entry es ++ (x ∷ [])) (sym e) ∙ sym (map-append known_entry es (f (over any_below i) ∷ []))))

insert_known : (r : ℕ) (y : Emitted) → push_insert r (known_out y) ≡ known_out (push_insert r y)
insert_known r y =
    ap (λ (es : List Entry). emitted 0 (push_below modifying y.result es)) (below_known accessing r refl y.entries) ∙
    ap (emitted 0) (below_known modifying y.result refl (push_below accessing r y.entries))

-- BY ARITY
nullary_known : (b : List ℕ) (i : ℕ) (ns : List ℕ) (es : List Entry) →
    nullary_of b i ns (map known_entry es) ≡ known_out (nullary_of b i ns es)
nullary_known b i ns es =
    either_known (eqb (get_or b i 0) document_kind) _ _ (push_known es (accessing (root (get_or b (i + 1) 0))) refl)
    (either_known (eqb (get_or b i 0) variable_kind) _ _ refl refl)

unary_known : (b : List ℕ) (i : ℕ) → (get_or b i 0 ≡ step_kind → test_fits (get_or b (i + 2) 0) (get_or b (i + 3) 0) ≡ true) →
    (x : Emitted) → unary_of b i (known_out x) ≡ known_out (unary_of b i x)
unary_known b i h x =
    by_cases (eqb (get_or b i 0) step_kind)
    (λ t. rw t (step_known (step_by (get_or b (i + 1) 0) (get_or b (i + 2) 0) (get_or b (i + 3) 0))
    (name_kept (get_or b (i + 1) 0) (get_or b (i + 2) 0) (get_or b (i + 3) 0) (h (eqb-true (get_or b i 0) step_kind t))) x))
    (λ t. rw t (either_known (eqb (get_or b i 0) delete_kind) _ _ (delete_known x) refl))

binary_known : (k r : ℕ) (y : Emitted) → binary_of k r (known_out y) ≡ known_out (binary_of k r y)
binary_known k r y =
    either_known (eqb k join_kind) _ _ (union_known r y) (either_known (eqb k insert_kind) _ _ (insert_known r y) refl)

-- AN EXPRESSION, n levels deep at most
emits_known : (n : ℕ) (b : List ℕ) (left at v : ℕ) → left ≤ n → Accepted b at left v → (ns : List ℕ) (es : List Entry) →
    emit (expr_at left b at) ns (map known_entry es) ≡ known_out (emit (expr_at left b at) ns es)
emits_known zero b left at v h a ns es = absurd (omega (arith, h, (accepted_record a).depth))
emits_known (suc n) b left at v h a ns es =
    let deeper : (i w : ℕ) → Accepted b i (left - 1) w → (ms : List ℕ) (fs : List Entry) →
    emit (expr_at (left - 1) b i) ms (map known_entry fs) ≡ known_out (emit (expr_at (left - 1) b i) ms fs) =
    λ i w c. emits_known n b (left - 1) i w (omega (arith, h)) c in
    eq_cases (arity (get_or b at 0)) 0
    (λ z. let o = no_operand b at left v a z in
    o.emits ns (map known_entry es) ∙ nullary_known b at ns es ∙ ap known_out (sym (o.emits ns es)))
    (λ s. eq_cases (arity (get_or b at 0)) 1
    (λ z. let o = one_operand b at left v a z in
    o.emits ns (map known_entry es) ∙ ap (unary_of b at) (deeper _ _ o.first ns es) ∙
    unary_known b at (step_test (accepted_record a)) x ∙ ap known_out (sym (o.emits ns es)))
    (λ t. eq_cases (arity (get_or b at 0)) 2
    (λ z. let o = two_operands b at left v a z in
    o.emits ns (map known_entry es) ∙
    ap (λ (x : Emitted). binary_of (get_or b at 0) x.result (emit second (with_bound (get_or b at 0) ns x.result) x.entries))
    (deeper _ _ o.first ns es) ∙
    ap (binary_of (get_or b at 0) x.result) (deeper _ _ o.second (with_bound (get_or b at 0) ns x.result) x.entries) ∙
    binary_known (get_or b at 0) x.result (emit second (with_bound (get_or b at 0) ns x.result) x.entries) ∙
    ap known_out (sym (o.emits ns es)))
    (λ u. let o = three_operands b at left v a (omega (arith, s, t, u)) in
    let y = emit second ns x.entries in
    o.emits ns (map known_entry es) ∙
    ap (λ (w : Emitted). push_union (emit second ns w.entries).result (emit third ns (emit second ns w.entries).entries))
    (deeper _ _ o.first ns es) ∙
    ap (λ (w : Emitted). push_union w.result (emit third ns w.entries)) (deeper _ _ o.second ns x.entries) ∙
    ap (push_union y.result) (deeper _ _ o.third ns y.entries) ∙ union_known y.result (emit third ns y.entries) ∙
    ap known_out (sym (o.emits ns es)))))
  where
    x : Emitted
    x = emit (expr_at (left - 1) b (first_at b at)) ns es

    second : Expr
    second = expr_at (left - 1) b (second_at b at)

    third : Expr
    third = expr_at (left - 1) b (third_at b at)

-- BY EITHER READING the positions of an expression are emitted behind those that were there
pub emit_kept : {b : List ℕ} {left v : ℕ} {env : List ℕ} {e e' : Emitter} {r : ℕ} → EmitPre b left v env e → EmitPost b left v env e e' r →
    emitted r (kept_entries_in e'.area e'.count) ≡ emit (expr_at left b e.place) (take v env) (kept_entries_in e.area e.count)
emit_kept {b} {left} {v} {env} {e} {e'} {r} pre post =
    ap (emitted r) (kept_all (take e'.count e'.area)) ∙ ap known_out post.is ∙
    sym (emits_known left b left e.place v (omega arith) pre.accepted (take v env) (entries_in e.area e.count)) ∙
    ap (emit (expr_at left b e.place) (take v env)) (sym (kept_all (take e.count e.area)))
