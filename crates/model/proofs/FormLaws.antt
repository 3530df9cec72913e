-- A history's bytes are read back as its records, each with its place, where every record is in range and there are at most 2,048.
use mathlib.Core.Path.{◌≡◌, refl, sym, ap, ap₂, ◌∙◌}
use mathlib.Core.Bool.{Bool, true, false, ◌||◌, cond}
use mathlib.Core.List.{List, [], ◌∷◌, ◌++◌}
use Prim.Native.Nat.{ℕ, zero, suc, ◌+◌, ◌≤◌, ◌<◌}
use native.Mathlib.Omega.{arith}
use lib.Dec.{eqb, ltb, leb}
use lib.ListN.{length, get_or, drop, length-append}
use lib.Seq.{drop_at}
use borrow.Author.Tests.{eqb-true, eqb-false, lt-ltb, le-leb, ne_eqb}
use Rattle.model.specs.Base.{also, max_byte}
use Rattle.model.specs.Limits.{max_history}
use Rattle.model.specs.Refusal.{is_fine}
use Rattle.model.specs.Table.{with_parent, is_name}
use Rattle.model.specs.History.{Record, made, cut, IsInRange, made_in, cut_in, AllInRange, record_bytes}
use Rattle.model.specs.History.{made_element_kind, made_leaf_kind, cut_kind, history_bytes}
use Rattle.model.specs.History.{Form, made_form, cut_form, no_form, history_form, history_size, record_in}
use Rattle.model.specs.Undo.{Placed, formed, form_refusal_by, form_refusal, with_placed, form_from}
use Rattle.model.proofs.BoolLaws.{and_both, cond_cases}
use Rattle.model.proofs.RefusalLaws.{is_fine_unless, is_fine_check}
use Rattle.model.proofs.BytesLaws.{number_back, parent_in_back, length_parent_bytes}

-- BY KIND: what holds of each form holds of the kind's, which is none if the byte is no kind
pub form_cases : (P : Form → Type 0) (k : ℕ) → (k ≡ made_element_kind → P (made_form false)) → (k ≡ made_leaf_kind → P (made_form true)) →
    (k ≡ cut_kind → P cut_form) → ((k ≡ made_element_kind → ⊥) → (k ≡ made_leaf_kind → ⊥) → (k ≡ cut_kind → ⊥) → P no_form) →
    P (history_form k)
form_cases P k e l c n =
    cond_cases P (eqb k made_element_kind) (λ h. e (eqb-true _ _ h))
    (λ h. cond_cases P (eqb k made_leaf_kind) (λ i. l (eqb-true _ _ i))
    (λ i. cond_cases P (eqb k cut_kind) (λ j. c (eqb-true _ _ j)) (λ j. n (eqb-false _ _ h) (eqb-false _ _ i) (eqb-false _ _ j))))

-- a byte that is no kind has a record without bytes
pub size_none : (k : ℕ) → (k ≡ made_element_kind → ⊥) → (k ≡ made_leaf_kind → ⊥) → (k ≡ cut_kind → ⊥) → 0 ≡ history_size k
size_none k e l c = form_cases (λ f. 0 ≡ f.size) k (λ h. absurd (e h)) (λ h. absurd (l h)) (λ h. absurd (c h)) (λ _ _ _. refl)

-- THE FORM that a record is written in
abbrev pub form_of : Record → Form
form_of (made i r) = made_form r.is_leaf
form_of (cut i p) = cut_form

pub length_record_bytes : (r : Record) → length (record_bytes r) ≡ (form_of r).size
length_record_bytes (made i r) = omega (arith, length_parent_bytes r.parent)
length_record_bytes (cut i p) = refl

-- no record is empty
pub record_bytes_some : (r : Record) → 0 < length (record_bytes r)
record_bytes_some (made i r) = omega arith
record_bytes_some (cut i p) = omega arith

form_of_back : (r : Record) (c : List ℕ) → history_form (get_or (record_bytes r ++ c) 0 0) ≡ form_of r
form_of_back (made i r) c = go r.is_leaf
  where
    go : (z : Bool) → history_form (cond z made_leaf_kind made_element_kind) ≡ made_form z
    go true = refl
    go false = refl
form_of_back (cut i p) c = refl

pub size_back : (r : Record) (c : List ℕ) → history_size (get_or (record_bytes r ++ c) 0 0) ≡ length (record_bytes r)
size_back r c = ap (λ (f : Form). f.size) (form_of_back r c) ∙ sym (length_record_bytes r)

entry_back : (r : Record) → IsInRange r → (c : List ℕ) → (form_of r).entry (record_bytes r ++ c) ≡ r
entry_back (made i r) (made_in t p) c = ap₂ made (number_back i) (ap (with_parent r) (parent_in_back r.parent p c))
entry_back (cut i p) cut_in c = ap₂ cut (number_back i) (number_back p)

pub record_in_back : (r : Record) → IsInRange r → (c : List ℕ) → record_in (record_bytes r ++ c) ≡ r
record_in_back r f c = ap (λ (q : Form). q.entry (record_bytes r ++ c)) (form_of_back r c) ∙ entry_back r f c

fits_back : (r : Record) → IsInRange r → (c : List ℕ) → (form_of r).fits (record_bytes r ++ c) ≡ true
fits_back (made i r) (made_in t p) c = go r.is_leaf t
  where
    go : (z : Bool) → cond z (leb r.tag max_byte) (is_name r.tag) ≡ true → (z || is_name r.tag) ≡ true
    go true h = refl
    go false h = h
fits_back (cut i p) cut_in c = refl

form_refusal_fine : (r : Record) → IsInRange r → (i n : ℕ) (c : List ℕ) → n < max_history →
    is_fine (form_refusal i n (record_bytes r ++ c)) ≡ true
form_refusal_fine r f i n c l =
    ap (λ (q : Form). is_fine (form_refusal_by q i n b)) (form_of_back r c) ∙
    is_fine_check (ltb 0 (form_of r).size) 0 i _ ∙
    and_both _ _ (lt-ltb 0 (form_of r).size (omega (arith, size, record_bytes_some r)))
    (is_fine_check (ltb n max_history) 4 i _ ∙
    and_both _ _ (lt-ltb _ _ l)
    (is_fine_check (leb (form_of r).size (length b)) 1 i _ ∙
    and_both _ _ (le-leb (form_of r).size (length b) (omega (arith, size, length-append (record_bytes r) c)))
    (is_fine_unless ((form_of r).fits b) 3 i ∙ fits_back r f c)))
  where
    b : List ℕ
    b = record_bytes r ++ c

    size : length (record_bytes r) ≡ (form_of r).size
    size = length_record_bytes r

-- THE FORM of a whole history
unfoldable pub placed : (place : ℕ) → List Record → List Placed
placed i [] = []
placed i (r ∷ rs) = record { at = i; entry = r } ∷ placed (i + length (record_bytes r)) rs

form_from_step : (k i n : ℕ) (r : Record) (c : List ℕ) → IsInRange r → n < max_history →
    form_from (suc k) i n (record_bytes r ++ c) ≡
    with_placed (record { at = i; entry = r }) (form_from k (i + length (record_bytes r)) (n + 1) c)
unfolding form_from
form_from_step k i n r c f l =
    rw (ne_eqb (length b) 0 (λ e. omega (arith, record_bytes_some r, length-append (record_bytes r) c)), form_refusal_fine r f i n c l)
    (ap₂ (λ (q : Record) (j : ℕ). with_placed (record { at = i; entry = q }) (form_from k (i + j) (n + 1) (drop j b)))
    (record_in_back r f c) (size_back r c) ∙
    ap (λ (d : List ℕ). with_placed (record { at = i; entry = r }) (form_from k (i + length (record_bytes r)) (n + 1) d))
    (drop_at (record_bytes r) c (length (record_bytes r)) refl))
  where
    b : List ℕ
    b = record_bytes r ++ c

pub form_from_placed : (k i n : ℕ) (rs : List Record) → AllInRange rs → n + length rs ≤ max_history → length (history_bytes rs) ≤ k →
    form_from k i n (history_bytes rs) ≡ formed (placed i rs)
unfolding form_from history_bytes placed
form_from_placed zero i n [] a l h = refl
form_from_placed (suc k) i n [] a l h = refl
form_from_placed zero i n (r ∷ rs) a l h =
    absurd (omega (arith, record_bytes_some r, length-append (record_bytes r) (history_bytes rs)))
form_from_placed (suc k) i n (r ∷ rs) (also f a) l h =
    form_from_step k i n r (history_bytes rs) f (omega arith) ∙
    ap (with_placed (record { at = i; entry = r }))
    (form_from_placed k (i + length (record_bytes r)) (n + 1) rs a (omega arith)
    (omega (arith, record_bytes_some r, length-append (record_bytes r) (history_bytes rs))))
