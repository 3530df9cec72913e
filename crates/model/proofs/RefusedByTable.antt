-- What is refused has a number of document 01's table: RefusedByTable.
use mathlib.Core.Path.{◌≡◌, refl, subst}
use mathlib.Core.Bool.{Bool, true, false, ◌||◌, cond}
use mathlib.Core.List.{List, [], ◌∷◌}
use Prim.Native.Nat.{ℕ, zero, suc, ◌+◌, ◌≤◌}
use native.Mathlib.Omega.{arith}
use lib.Dec.{leb, ltb, eqb}
use lib.ListN.{length, drop, get_or}
use borrow.Author.Tests.{eqb-false}
use Rattle.model.specs.Base.{is_in}
use Rattle.model.specs.Refusal.{Refusal, is_fine, or_else, unless, kind_at, short_at, field_at, size_at, link_at}
use Rattle.model.specs.Limits.{max_rows, max_history, documents}
use Rattle.model.specs.Table.{Table, count, tag_fits, empty}
use Rattle.model.specs.Stored.{is_stored_kind, stored_size, number_at, row_in, is_mark, row_links, mark_links, record_refusal}
use Rattle.model.specs.History.{history_form, history_size, record_in}
use Rattle.model.specs.Undo.{Placed, Formed, refused, formed, form_refusal, with_placed, form_from}
use Rattle.model.specs.Undo.{undo_fits, undone, refused, undo_all, backwards, undo_formed}
use Rattle.model.specs.Call.{RefusedByTable}
use Rattle.model.proofs.BoolLaws.{cond_cases}
use Rattle.model.proofs.TestLaws.{is_in_by}
use Rattle.model.proofs.StoredLaws.{read_from_refuses}
use Rattle.model.proofs.ScriptLaws.{read_script_sound}
use Rattle.model.proofs.RefusedRuns.{refused_number}

-- THE CHECKS give at most 6
record Low (f : Refusal) : Type 0 where
  low : f.number ≤ 6

unless_low : (t : Bool) (f : Refusal) → f.number ≤ 6 → Low (unless t f)
unless_low t f h = cond_cases Low t (λ e. record { low = omega arith }) (λ e. record { low = h })

or_else_low : (f g : Refusal) → Low f → Low g → Low (or_else f g)
or_else_low f g h k = cond_cases Low (is_fine f) (λ e. k) (λ e. h)

-- one check, and then others
check_low : (t : Bool) (f g : Refusal) → f.number ≤ 6 → Low g → Low (or_else (unless t f) g)
check_low t f g h k = or_else_low (unless t f) g (unless_low t f h) k

record_low : (x : Table) (i : ℕ) (b : List ℕ) → Low (record_refusal x i b)
record_low x i b =
    check_low (is_stored_kind (get_or b 0 0)) (kind_at i) _ (omega arith)
    (check_low (is_mark b || ltb (count x) max_rows) (size_at i) _ (omega arith)
    (check_low (leb (stored_size (get_or b 0 0)) (length b)) (short_at i) _ (omega arith)
    (cond_cases Low (is_mark b)
    (λ e. check_low (ltb (get_or b 1 0) documents) (field_at i) _ (omega arith)
    (unless_low (mark_links x (get_or b 1 0) (number_at b 2)) (link_at i) (omega arith)))
    (λ e. check_low (tag_fits (row_in b)) (field_at i) _ (omega arith) (unless_low (row_links x (row_in b)) (link_at i) (omega arith))))))

form_low : (i n : ℕ) (b : List ℕ) → Low (form_refusal i n b)
form_low i n b =
    check_low (ltb 0 (history_size (get_or b 0 0))) (kind_at i) _ (omega arith)
    (check_low (ltb n max_history) (size_at i) _ (omega arith)
    (check_low (leb (history_size (get_or b 0 0)) (length b)) (short_at i) _ (omega arith)
    (unless_low ((history_form (get_or b 0 0)).fits b) (field_at i) (omega arith))))

known : (f : Refusal) → Low f → is_fine f ≡ false → is_in 1 6 f.number ≡ true
known f h e = is_in_by 1 6 f.number (omega (arith, eqb-false f.number 0 e)) h.low

-- A HISTORY is refused by the form of a record, or by one that does not fit
abbrev Known : Refusal → Type 0
Known f = is_in 1 6 f.number ≡ true

form_known : (k i n : ℕ) (b : List ℕ) (f : Refusal) → form_from k i n b ≡ refused f → Known f
unfolding form_from
form_known zero i n b f e = let z : ◌≡◌ {A = ℕ} 0 1 = cc in absurd (omega arith)
form_known (suc k) i n b f e = go (eqb (length b) 0) (is_fine (form_refusal i n b)) refl (form_known k _ (n + 1) _ f) e
  where
    rest : Formed
    rest = form_from k (i + history_size (get_or b 0 0)) (n + 1) (drop (history_size (get_or b 0 0)) b)

    placed : (q : Formed) → (q ≡ refused f → Known f) → with_placed (record { at = i; entry = record_in b }) q ≡ refused f → Known f
    placed (refused g) h p = h p
    placed (formed ps) h p = let z : ◌≡◌ {A = ℕ} 0 1 = cc in absurd (omega arith)

    go : (t u : Bool) → is_fine (form_refusal i n b) ≡ u → (rest ≡ refused f → Known f) →
        cond t (formed []) (cond u (with_placed (record { at = i; entry = record_in b }) rest) (refused (form_refusal i n b))) ≡
        refused f →
        Known f
    go true u m h q = let y : formed [] ≡ refused f = q in let z : ◌≡◌ {A = ℕ} 0 1 = cc in absurd (omega arith)
    go false true m h q = placed rest h q
    go false false m h q = let y : form_refusal i n b ≡ f = cc in subst Known y (known (form_refusal i n b) (form_low i n b) m)

undo_all_known : (x : Table) (ps : List Placed) (f : Refusal) → undo_all x ps ≡ refused f → Known f
unfolding undo_all
undo_all_known x [] f e = let z : ◌≡◌ {A = ℕ} 0 1 = cc in absurd (omega arith)
undo_all_known x (p ∷ ps) f e = go (undo_fits x p.entry) (undo_all_known (undone x p.entry) ps f) e
  where
    go : (t : Bool) → (undo_all (undone x p.entry) ps ≡ refused f → Known f) →
        cond t (undo_all (undone x p.entry) ps) (refused (link_at p.at)) ≡ refused f → Known f
    go true h q = h q
    go false h q = let y : link_at p.at ≡ f = cc in subst Known y refl

undo_known : (x : Table) (q : Formed) → ((f : Refusal) → q ≡ refused f → Known f) → (f : Refusal) → undo_formed x q ≡ refused f → Known f
undo_known x (refused g) h f e = let y : g ≡ f = cc in subst Known y (h g refl)
undo_known x (formed ps) h f e = undo_all_known x (backwards ps []) f e

pub refused_by_table : RefusedByTable
refused_by_table = (
  λ b. read_from_refuses Known (λ x i c e. known (record_refusal x i c) (record_low x i c) e) (length b + 1) empty 0 b,
  λ b. (read_script_sound b).ranged,
  λ x b. undo_known x (form_from (length b + 1) 0 0 b) (form_known (length b + 1) 0 0 b),
  λ x e. refused_number e x,
)
