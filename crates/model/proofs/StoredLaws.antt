-- Reading a stored plan record by record: when a record is fine, what it adds, and that any fuel not below the length serves.
use mathlib.Core.Path.{◌≡◌, refl, sym, ap, ◌∙◌, subst}
use mathlib.Core.Bool.{Bool, true, false, ◌&&◌, ◌||◌, not, cond}
use mathlib.Core.Logic.{◌⊎◌, inl, inr}
use mathlib.Core.List.{List}
use mathlib.Core.Option.{Option}
use Prim.Native.Nat.{ℕ, zero, suc, ◌+◌, ◌≤◌, ◌<◌}
use native.Mathlib.Omega.{arith}
use lib.Dec.{ltb, leb, eqb}
use lib.ListN.{length, get_or, drop, length-drop}
use borrow.Author.Tests.{ltb-true, leb-true, eqb-true, eqb-false, not-true, lt-ltb, le-leb, eq-eqb, ne_eqb}
use Rattle.model.specs.Limits.{max_rows, documents}
use Rattle.model.specs.Refusal.{Refusal, is_fine, unless, or_else, field_at, link_at}
use Rattle.model.specs.Table.{Table, row_at, count, is_element, is_marked, has_parent, with_row, with_mark, tag_fits, parent_fits, IsRoot}
use Rattle.model.specs.Stored.{Read, refused, got, number_at, row_in, is_mark, last_marked, row_links, mark_links, record_refusal}
use Rattle.model.specs.Stored.{recorded}
use Rattle.model.specs.Stored.{read_from, mark_kind, stored_kinds, is_stored_kind, stored_size, record_size}
use Rattle.model.proofs.BoolLaws.{and_left, and_both, or_left, or_right}
use Rattle.model.proofs.KindLaws.{stored_size_lem, stored_most}
use Rattle.model.proofs.TestLaws.{and_parts, and_four}
use Rattle.model.proofs.RefusalLaws.{is_fine_unless, is_fine_check}
use Rattle.model.proofs.TableLaws.{is_element_at, is_element_by, has_parent_none, Well}
use Rattle.model.proofs.GrowLaws.{well_with_row, well_with_mark}

-- THE STEP of reading, at a record that is fine and at one that is refused
pub read_from_end : (n : ℕ) (x : Table) (i : ℕ) (b : List ℕ) → length b ≡ 0 → read_from n x i b ≡ got x
unfolding read_from
read_from_end zero x i b l = refl
read_from_end (suc n) x i b l = rw (eq-eqb (length b) 0 l)

-- a record that is fine has a kind, and as many bytes as every other
pub fine_kind : (x : Table) (i : ℕ) (b : List ℕ) → is_fine (record_refusal x i b) ≡ true → is_stored_kind (get_or b 0 0) ≡ true
fine_kind x i b f = and_left _ _ (sym (is_fine_check (is_stored_kind (get_or b 0 0)) 0 i _) ∙ f)

pub fine_size : (x : Table) (i : ℕ) (b : List ℕ) → is_fine (record_refusal x i b) ≡ true → stored_size (get_or b 0 0) ≡ record_size
fine_size x i b f = stored_size_lem (get_or b 0 0) (fine_kind x i b f)

pub read_from_fine : (n : ℕ) (x : Table) (i : ℕ) (b : List ℕ) → 0 < length b → is_fine (record_refusal x i b) ≡ true →
    read_from (suc n) x i b ≡ read_from n (recorded x b) (i + record_size) (drop record_size b)
unfolding read_from
read_from_fine n x i b l f = rw (ne_eqb (length b) 0 (λ e. omega arith), f, fine_size x i b f)

pub read_from_refused : (n : ℕ) (x : Table) (i : ℕ) (b : List ℕ) → 0 < length b → is_fine (record_refusal x i b) ≡ false →
    read_from (suc n) x i b ≡ refused (record_refusal x i b)
unfolding read_from
read_from_refused n x i b l f = rw (ne_eqb (length b) 0 (λ e. omega arith), f)

-- FUEL: any two not below the length agree
pub read_from_fuel : (n m : ℕ) (x : Table) (i : ℕ) (b : List ℕ) → length b ≤ n → length b ≤ m → read_from n x i b ≡ read_from m x i b
read_from_fuel zero m x i b h k = read_from_end zero x i b (omega arith) ∙ sym (read_from_end m x i b (omega arith))
read_from_fuel (suc n) zero x i b h k = read_from_end (suc n) x i b (omega arith) ∙ sym (read_from_end zero x i b (omega arith))
read_from_fuel (suc n) (suc m) x i b h k =
    go (eqb (length b) 0) (is_fine (record_refusal x i b)) refl refl
    (λ l. read_from_fuel n m (recorded x b) (i + record_size) (drop record_size b) (omega (arith, length-drop record_size b))
    (omega (arith, length-drop record_size b)))
  where
    go : (t u : Bool) → eqb (length b) 0 ≡ t → is_fine (record_refusal x i b) ≡ u →
        (0 < length b → read_from n (recorded x b) (i + record_size) (drop record_size b) ≡
        read_from m (recorded x b) (i + record_size) (drop record_size b)) →
        read_from (suc n) x i b ≡ read_from (suc m) x i b
    go true u e f r = read_from_end (suc n) x i b (eqb-true _ _ e) ∙ sym (read_from_end (suc m) x i b (eqb-true _ _ e))
    go false true e f r =
        let l : 0 < length b = omega (arith, eqb-false (length b) 0 e) in
        read_from_fine n x i b l f ∙ r l ∙ sym (read_from_fine m x i b l f)
    go false false e f r =
        let l : 0 < length b = omega (arith, eqb-false (length b) 0 e) in
        read_from_refused n x i b l f ∙ sym (read_from_refused m x i b l f)

-- A REFUSED READING is refused by one of its records
pub read_from_refuses : (P : Refusal → Type 0) →
    ((x : Table) (i : ℕ) (b : List ℕ) → is_fine (record_refusal x i b) ≡ false → P (record_refusal x i b)) →
    (n : ℕ) (x : Table) (i : ℕ) (b : List ℕ) (f : Refusal) → read_from n x i b ≡ refused f → P f
unfolding read_from
read_from_refuses P h zero x i b f e = let z : ◌≡◌ {A = ℕ} 0 1 = cc in absurd (omega arith)
read_from_refuses P h (suc n) x i b f e =
    go (eqb (length b) 0) (is_fine (record_refusal x i b)) refl
    (read_from_refuses P h n (recorded x b) (i + stored_size (get_or b 0 0)) (drop (stored_size (get_or b 0 0)) b) f) e
  where
    next : Read
    next = read_from n (recorded x b) (i + stored_size (get_or b 0 0)) (drop (stored_size (get_or b 0 0)) b)

    go : (t u : Bool) → is_fine (record_refusal x i b) ≡ u → (next ≡ refused f → P f) →
        cond t (got x) (cond u next (refused (record_refusal x i b))) ≡ refused f → P f
    go true u k r q = let y : got x ≡ refused f = q in let z : ◌≡◌ {A = ℕ} 0 1 = cc in absurd (omega arith)
    go false true k r q = r q
    go false false k r q = let y : record_refusal x i b ≡ f = cc in subst P y (h x i b k)

-- A FINE RECORD is a row with room and a fitting parent, before any mark, or a mark on a root, with rising document
pub record IsRowRecord (x : Table) (b : List ℕ) : Type 0 where
  pub kind : is_stored_kind (get_or b 0 0) ≡ true
  pub row : is_mark b ≡ false
  pub room : count x < max_rows
  pub long : record_size ≤ length b
  pub tag : tag_fits (row_in b) ≡ true
  pub before : last_marked 0 x.marks ≡ 0
  pub parent : parent_fits x (count x) (row_in b).parent ≡ true

pub record IsMarkRecord (x : Table) (b : List ℕ) : Type 0 where
  pub kind : get_or b 0 0 ≡ mark_kind
  pub long : record_size ≤ length b
  pub document : get_or b 1 0 < documents
  pub rises : last_marked 0 x.marks ≤ get_or b 1 0
  pub root : IsRoot x (number_at b 2)
  pub unmarked : is_marked x (number_at b 2) ≡ false

-- the checks of one record, as one test
abbrev pub row_fine : Table → List ℕ → Bool
row_fine x b = tag_fits (row_in b) && row_links x (row_in b)

abbrev pub mark_fine : Table → List ℕ → Bool
mark_fine x b = ltb (get_or b 1 0) documents && mark_links x (get_or b 1 0) (number_at b 2)

abbrev pub record_fine : Table → List ℕ → Bool
record_fine x b =
    is_stored_kind (get_or b 0 0) &&
    ((is_mark b || ltb (count x) max_rows) &&
    (leb (stored_size (get_or b 0 0)) (length b) && cond (is_mark b) (mark_fine x b) (row_fine x b)))

is_fine_record : (x : Table) (i : ℕ) (b : List ℕ) → is_fine (record_refusal x i b) ≡ record_fine x b
is_fine_record x i b =
    is_fine_check (is_stored_kind (get_or b 0 0)) 0 i _ ∙
    ap (λ (t : Bool). is_stored_kind (get_or b 0 0) && t)
    (is_fine_check (is_mark b || ltb (count x) max_rows) 4 i _ ∙
    ap (λ (t : Bool). (is_mark b || ltb (count x) max_rows) && t)
    (is_fine_check (leb (stored_size (get_or b 0 0)) (length b)) 1 i _ ∙
    ap (λ (t : Bool). leb (stored_size (get_or b 0 0)) (length b) && t) (go (is_mark b))))
  where
    marks : Refusal
    marks = or_else (unless (ltb (get_or b 1 0) documents) (field_at i)) (unless (mark_links x (get_or b 1 0) (number_at b 2)) (link_at i))

    rows : Refusal
    rows = or_else (unless (tag_fits (row_in b)) (field_at i)) (unless (row_links x (row_in b)) (link_at i))

    go : (t : Bool) → is_fine (cond t marks rows) ≡ cond t (mark_fine x b) (row_fine x b)
    go true =
        is_fine_check (ltb (get_or b 1 0) documents) 3 i _ ∙
        ap (λ (t : Bool). ltb (get_or b 1 0) documents && t) (is_fine_unless (mark_links x (get_or b 1 0) (number_at b 2)) 5 i)
    go false =
        is_fine_check (tag_fits (row_in b)) 3 i _ ∙
        ap (λ (t : Bool). tag_fits (row_in b) && t) (is_fine_unless (row_links x (row_in b)) 5 i)

row_record : (x : Table) (b : List ℕ) → is_mark b ≡ false → record_fine x b ≡ true → IsRowRecord x b
row_record x b m h =
    let k = and_parts (is_stored_kind (get_or b 0 0)) _ h in
    let l = and_parts (is_mark b || ltb (count x) max_rows) _ k.1 in
    let n = and_parts (leb (stored_size (get_or b 0 0)) (length b)) _ l.1 in
    let f = and_parts (tag_fits (row_in b)) _ (rw m at n.1) in
    let g = and_parts (eqb (last_marked 0 x.marks) 0) _ f.1 in
    record {
      kind = k.0;
      row = m;
      room = ltb-true _ _ (rw m at l.0);
      long = omega (arith, stored_size_lem (get_or b 0 0) k.0, leb-true (stored_size (get_or b 0 0)) (length b) n.0);
      tag = f.0;
      before = eqb-true _ _ g.0;
      parent = g.1;
    }

mark_record : (x : Table) (b : List ℕ) → is_mark b ≡ true → record_fine x b ≡ true → IsMarkRecord x b
mark_record x b m h =
    let k = and_parts (is_stored_kind (get_or b 0 0)) _ h in
    let l = and_parts (is_mark b || ltb (count x) max_rows) _ k.1 in
    let n = and_parts (leb (stored_size (get_or b 0 0)) (length b)) _ l.1 in
    let f = and_parts (ltb (get_or b 1 0) documents) _ (rw m at n.1) in
    let i : ℕ = number_at b 2 in
    let g = and_four (leb (last_marked 0 x.marks) (get_or b 1 0)) (is_element x i) (not (has_parent (row_at x i).parent)) _ f.1 in
    let e = is_element_at x i g.1 in
    record {
      kind = eqb-true _ _ m;
      long = omega (arith, stored_size_lem (get_or b 0 0) k.0, leb-true (stored_size (get_or b 0 0)) (length b) n.0);
      document = ltb-true _ _ f.0;
      rises = leb-true _ _ g.0;
      root = (e.0, e.1, has_parent_none _ g.2);
      unmarked = not-true _ g.3;
    }

pub record_cases : (x : Table) (i : ℕ) (b : List ℕ) → is_fine (record_refusal x i b) ≡ true → IsRowRecord x b ⊎ IsMarkRecord x b
record_cases x i b h = go (is_mark b) refl
  where
    go : (t : Bool) → is_mark b ≡ t → IsRowRecord x b ⊎ IsMarkRecord x b
    go true e = inr (mark_record x b e (sym (is_fine_record x i b) ∙ h))
    go false e = inl (row_record x b e (sym (is_fine_record x i b) ∙ h))

is_mark_mark : (x : Table) (b : List ℕ) → IsMarkRecord x b → is_mark b ≡ true
is_mark_mark x b m = eq-eqb _ _ m.kind

mark_kind_lem : (x : Table) (b : List ℕ) → IsMarkRecord x b → is_stored_kind (get_or b 0 0) ≡ true
unfolding stored_kinds
mark_kind_lem x b m = rw m.kind

pub row_fine_lem : (x : Table) (i : ℕ) (b : List ℕ) → IsRowRecord x b → is_fine (record_refusal x i b) ≡ true
row_fine_lem x i b r =
    is_fine_record x i b ∙
    and_both _ _ r.kind
    (and_both _ _ (or_right (is_mark b) _ (lt-ltb _ _ r.room))
    (and_both _ _ (le-leb (stored_size (get_or b 0 0)) (length b) (omega (arith, stored_most (get_or b 0 0), r.long)))
    (rw r.row (and_both _ _ r.tag (and_both _ _ (eq-eqb _ _ r.before) r.parent)))))

pub mark_fine_lem : (x : Table) (i : ℕ) (b : List ℕ) → IsMarkRecord x b → is_fine (record_refusal x i b) ≡ true
mark_fine_lem x i b m =
    is_fine_record x i b ∙
    and_both _ _ (mark_kind_lem x b m)
    (and_both _ _ (or_left _ _ (is_mark_mark x b m))
    (and_both _ _ (le-leb (stored_size (get_or b 0 0)) (length b) (omega (arith, stored_most (get_or b 0 0), m.long)))
    (rw (is_mark_mark x b m)
    (and_both _ _ (lt-ltb _ _ m.document)
    (and_both _ _ (and_both _ _ (and_both _ _ (le-leb _ _ m.rises) (is_element_by x _ m.root.0 m.root.1))
    (ap (λ (p : Option ℕ). not (has_parent p)) m.root.2)) (ap not m.unmarked))))))

-- what a fine record adds, and that the table stays well formed
pub recorded_row : (x : Table) (b : List ℕ) → IsRowRecord x b → recorded x b ≡ with_row x (row_in b)
recorded_row x b r = rw r.row

pub recorded_mark : (x : Table) (b : List ℕ) → IsMarkRecord x b → recorded x b ≡ with_mark x (get_or b 1 0) (number_at b 2)
recorded_mark x b m = rw (is_mark_mark x b m)

pub well_recorded : (x : Table) (i : ℕ) (b : List ℕ) → Well x → is_fine (record_refusal x i b) ≡ true → Well (recorded x b)
well_recorded x i b w h = elim (record_cases x i b h) [
  | inl r ↦ subst Well (sym (recorded_row x b r)) (well_with_row x (row_in b) w.tree r.tag r.parent w r.room)
  | inr m ↦ subst Well (sym (recorded_mark x b m))
      (well_with_mark x _ _ w.tree m.root (omega (arith, m.document, w.eight)) m.unmarked w)
]
