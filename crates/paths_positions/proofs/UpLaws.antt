-- A script holds a step that leads up when one of its positions is such a step.
use mathlib.Core.Path.{◌≡◌, refl, ap, sym, ◌∙◌}
use mathlib.Core.Bool.{Bool, false, ◌&&◌, ◌||◌, not, or-false, or_assoc, or_comm}
use mathlib.Core.List.{List, [], ◌∷◌, ◌++◌}
use Prim.Native.Nat.{ℕ}
use native.Mathlib.Omega.{arith}
use lib.Dec.{eqb}
use lib.ListN.{length, get_or, length-map, get_or-map}
use lib.Seq.{take_all}
use borrow.Author.Tests.{not-true}
use Rattle.model.specs.Base.{any}
use Rattle.model.specs.Script.{Step, Expr, nil, document, var, step, both, let_in, for_in, if_in, element, leaf, delete}
use Rattle.model.specs.Script.{insert, pick}
use Rattle.model.specs.Paths.{any_below, is_up, has_up}
use Rattle.model.proofs.BoolLaws.{and_right, cond_cases}
use Rattle.model.proofs.ListLaws.{any_snoc}
use Rattle.paths_positions.specs.Positions as positions
use Rattle.paths_positions.specs.Positions.{nowhere, root, over, union, Entry, accessing, modifying, leads_up, Emitted}
use Rattle.paths_positions.specs.Positions.{push_step, push_union, push_delete, push_below, emit, entries_before, entries_of}
use Rattle.paths_positions.specs.Answer.{any_up_to}
use Rattle.paths_positions.specs.declared.packed.Fields.{Fields as Position}
use Rattle.paths_positions.specs.Packed.{position_by, fields_of, entry_of, entries_by, leads_up_at, some_leads_up}
use Rattle.paths_positions.proofs.AnyUpToLaws.{any_up_to_any}

-- ONE POSITION of a list
pub leads_up_at_lem : (ws : List ℕ) (k : ℕ) (p : Position) (t : Bool) → p ≡ fields_of (get_or ws k 0) →
    t ≡ leads_up (position_by p) → t ≡ leads_up_at ws k
leads_up_at_lem ws k p t e h =
    h ∙ ap (λ (q : Position). leads_up (position_by q)) e ∙ ap (λ (x : Entry). leads_up x.position) (sym (get_or-map entry_of ws k 0))

-- ALL OF THEM
abbrev leads : Entry → Bool
leads x = leads_up x.position

some_leads_up_any : (ws : List ℕ) → some_leads_up ws ≡ any leads (entries_by ws)
some_leads_up_any ws =
    ap (any_up_to (leads_up_at ws)) (sym (length-map ws entry_of)) ∙
    any_up_to_any leads (entries_by ws) (length (entries_by ws)) (omega arith) ∙
    ap (any leads) (take_all (length (entries_by ws)) (entries_by ws) (omega arith))

any_plain : (es : List Entry) (x : Entry) → leads x ≡ false → any leads (es ++ (x ∷ [])) ≡ any leads es
any_plain es x e = any_snoc leads es x ∙ ap (λ (t : Bool). any leads es || t) e ∙ or-false (any leads es)

-- RECORDS: a step's entry leads up where the step does, and no other record's does
step_leads : (s : Step) (x : Emitted) → any leads (push_step s x).entries ≡ (any leads x.entries || is_up s)
step_leads s x =
    cond_cases (λ (y : Emitted). any leads y.entries ≡ (any leads x.entries || is_up s)) (eqb x.result 0 && not (is_up s))
    (λ e. sym (ap (λ (t : Bool). any leads x.entries || t) (not-true (is_up s) (and_right (eqb x.result 0) (not (is_up s)) e)) ∙
    or-false (any leads x.entries)))
    (λ e. any_snoc leads x.entries _)

union_leads : (r : ℕ) (y : Emitted) → any leads (push_union r y).entries ≡ any leads y.entries
union_leads r y =
    cond_cases (λ (z : Emitted). any leads z.entries ≡ any leads y.entries) (eqb r 0) (λ e. refl)
    (λ e. cond_cases (λ (z : Emitted). any leads z.entries ≡ any leads y.entries) (eqb y.result 0) (λ f. refl)
    (λ f. any_plain y.entries _ refl))

delete_leads : (x : Emitted) → any leads (push_delete x).entries ≡ any leads x.entries
delete_leads x =
    cond_cases (λ (z : Emitted). any leads z.entries ≡ any leads x.entries) (eqb x.result 0) (λ e. refl)
    (λ e. any_plain _ _ refl ∙ any_plain x.entries _ refl)

below_leads : (f : positions.Position → Entry) (n : ℕ) → leads (f (over any_below n)) ≡ false → (es : List Entry) →
    any leads (push_below f n es) ≡ any leads es
below_leads f n h es =
    cond_cases (λ (v : List Entry). any leads v ≡ any leads es) (eqb n 0) (λ e. refl) (λ e. any_plain es _ h)

twice : (e f : Expr) (ns ms : List ℕ) (es : List Entry) → any leads (emit e ns es).entries ≡ (any leads es || has_up e) →
    any leads (emit f ms (emit e ns es).entries).entries ≡ (any leads (emit e ns es).entries || has_up f) →
    any leads (emit f ms (emit e ns es).entries).entries ≡ (any leads es || (has_up e || has_up f))
twice e f ns ms es h g = g ∙ ap (λ (t : Bool). t || has_up f) h ∙ or_assoc (any leads es) (has_up e) (has_up f)

-- an expression's positions, after those before
emit_leads : (e : Expr) (ns : List ℕ) (es : List Entry) → any leads (emit e ns es).entries ≡ (any leads es || has_up e)
unfolding emit has_up
emit_leads (nil z) ns es = sym (or-false (any leads es))
emit_leads (document z d) ns es = any_snoc leads es _
emit_leads (var z v) ns es = sym (or-false (any leads es))
emit_leads (step z s e) ns es =
    step_leads s (emit e ns es) ∙ ap (λ (t : Bool). t || is_up s) (emit_leads e ns es) ∙ or_assoc (any leads es) (has_up e) (is_up s) ∙
    ap (λ (t : Bool). any leads es || t) (or_comm (has_up e) (is_up s))
emit_leads (both z e f) ns es =
    union_leads (emit e ns es).result (emit f ns (emit e ns es).entries) ∙
    twice e f ns ns es (emit_leads e ns es) (emit_leads f ns (emit e ns es).entries)
emit_leads (let_in z e f) ns es =
    twice e f ns _ es (emit_leads e ns es) (emit_leads f (ns ++ ((emit e ns es).result ∷ [])) (emit e ns es).entries)
emit_leads (for_in z e f) ns es =
    twice e f ns _ es (emit_leads e ns es) (emit_leads f (ns ++ ((emit e ns es).result ∷ [])) (emit e ns es).entries)
emit_leads (if_in z e f g) ns es =
    union_leads (emit f ns (emit e ns es).entries).result (emit g ns (emit f ns (emit e ns es).entries).entries) ∙
    emit_leads g ns (emit f ns (emit e ns es).entries).entries ∙
    ap (λ (t : Bool). t || has_up g) (twice e f ns ns es (emit_leads e ns es) (emit_leads f ns (emit e ns es).entries)) ∙
    or_assoc (any leads es) (has_up e || has_up f) (has_up g)
emit_leads (element z n) ns es = sym (or-false (any leads es))
emit_leads (leaf z v) ns es = sym (or-false (any leads es))
emit_leads (delete z e) ns es = delete_leads (emit e ns es) ∙ emit_leads e ns es
emit_leads (insert z e f) ns es =
    below_leads modifying (emit f ns (emit e ns es).entries).result refl (push_below accessing (emit e ns es).result _) ∙
    below_leads accessing (emit e ns es).result refl (emit f ns (emit e ns es).entries).entries ∙
    twice e f ns ns es (emit_leads e ns es) (emit_leads f ns (emit e ns es).entries)
emit_leads (pick z r c e) ns es = emit_leads e ns es

pub some_leads_up_is : (ws : List ℕ) (e : Expr) → entries_by ws ≡ entries_of e → some_leads_up ws ≡ has_up e
unfolding any
some_leads_up_is ws e h = some_leads_up_any ws ∙ ap (any leads) h ∙ emit_leads e [] entries_before
