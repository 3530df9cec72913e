-- A well-formed table is read back from its bytes, and bytes that are read are well formed and written back the same.
use mathlib.Core.Path.{◌≡◌, refl, sym, ap, ◌∙◌, subst}
use mathlib.Core.Bool.{Bool, true, false, cond}
use mathlib.Core.Logic.{inl, inr}
use mathlib.Core.List.{List, [], ◌∷◌, ◌++◌, append_assoc, append-nil}
use mathlib.Core.Option.{Option, none, some, none-ne-some}
use Prim.Native.Nat.{ℕ, zero, suc, ◌+◌, ◌*◌, ◌≤◌, ◌<◌}
use native.Mathlib.Nat.{zero-add}
use native.Mathlib.Omega.{arith}
use lib.Dec.{ltb, eqb}
use lib.ListN.{length, get_or, take, drop, set, replicate, length-append, length-drop, take-append-drop, get_or-append}
use lib.Seq.{drop_at, set-append_seam, get_or-append_seam}
use borrow.Author.Tests.{ltb-true, ltb-false, eqb-true, eqb-false, lt-ltb}
use Rattle.model.specs.Base.{are_bytes}
use Rattle.model.specs.Limits.{documents}
use Rattle.model.specs.Refusal.{is_fine}
use Rattle.model.specs.Table.{Row, Table, table, empty, no_row, row_at, count, with_row, with_mark, is_marked, tag_fits, parent_fits}
use Rattle.model.specs.Stored.{element_kind, leaf_kind, mark_kind, stored_kinds, is_stored_kind, record_size, Read, got, stored}
use Rattle.model.specs.Stored.{parent_bytes, row_bytes, rows_bytes, mark_bytes, marks_bytes}
use Rattle.model.specs.Stored.{row_in, number_at, record_refusal, recorded, read_from, read_plan, IsStorable}
use Rattle.model.specs.Promise.{StoredBack}
use Rattle.model.proofs.BoolLaws.{and_both}
use Rattle.model.proofs.TableLaws.{any_at, is_element_by, Well, is_well_at, is_well_by, well_empty}
use Rattle.model.proofs.StoredLaws.{read_from_end, read_from_fine, read_from_refused, read_from_fuel, IsRowRecord, IsMarkRecord}
use Rattle.model.proofs.StoredLaws.{record_cases, recorded_row, recorded_mark, row_fine_lem, mark_fine_lem, well_recorded}
use Rattle.model.proofs.BytesLaws.{length_parent_bytes, are_bytes_at, are_bytes_drop, number_back, take_four, number_bytes_back}
use Rattle.model.proofs.BytesLaws.{row_bytes_back, row_in_back, rows_bytes_snoc, last_marked_at, last_marked_by, marks_bytes_none}
use Rattle.model.proofs.BytesLaws.{marks_bytes_set}

-- BYTES TO TABLE TO BYTES: a fine record adds its own four bytes to what is stored
stored_row : (x : Table) (b : List ℕ) → are_bytes b ≡ true → IsRowRecord x b →
    stored (with_row x (row_in b)) ≡ stored x ++ take record_size b
stored_row x b h r =
    rw (marks_bytes_none 0 x.marks (λ k. last_marked_at 0 x.marks 0 (omega (arith, r.before)) k (omega arith)))
    (simp append-nil
    (rows_bytes_snoc x.rows (row_in b) ∙
    ap (λ (c : List ℕ). rows_bytes x.rows ++ c) (row_bytes_back b h r.long r.kind r.row)))

mark_bytes_back : (x : Table) (b : List ℕ) → are_bytes b ≡ true → IsMarkRecord x b →
    mark_bytes (0 + get_or b 1 0) (some (number_at b 2)) ≡ take record_size b
mark_bytes_back x b h m =
    let w = number_bytes_back (get_or b 2 0) (get_or b 3 0) (are_bytes_at b h 2) (are_bytes_at b h 3) in
    cc (w, zero-add (get_or b 1 0), m.kind, take_four b m.long)

stored_mark : (x : Table) (b : List ℕ) → are_bytes b ≡ true → Well x → IsMarkRecord x b →
    stored (with_mark x (get_or b 1 0) (number_at b 2)) ≡ stored x ++ take record_size b
stored_mark x b h w m =
    ap (λ (c : List ℕ). rows_bytes x.rows ++ c)
    (marks_bytes_set 0 x.marks (get_or b 1 0) (number_at b 2) none_from (omega (arith, m.document, w.eight)) ∙
    ap (λ (c : List ℕ). marks_bytes 0 x.marks ++ c) (mark_bytes_back x b h m)) ∙
    sym (append_assoc (rows_bytes x.rows) (marks_bytes 0 x.marks) (take record_size b))
  where
    none_from : (j : ℕ) → get_or b 1 0 ≤ j → get_or x.marks j none ≡ none
    none_from j l = last_marked_at 0 x.marks (get_or b 1 0) m.rises j (omega arith)

stored_recorded : (x : Table) (i : ℕ) (b : List ℕ) → are_bytes b ≡ true → Well x → is_fine (record_refusal x i b) ≡ true →
    stored (recorded x b) ≡ stored x ++ take record_size b
stored_recorded x i b h w f = elim (record_cases x i b f) [
  | inl r ↦ ap stored (recorded_row x b r) ∙ stored_row x b h r
  | inr m ↦ ap stored (recorded_mark x b m) ∙ stored_mark x b h w m
]

-- the table so far is well formed, and what it stores and the bytes ahead are all the bytes
read_end : (n : ℕ) (x y : Table) (i : ℕ) (b : List ℕ) → length b ≡ 0 → Well x → read_from n x i b ≡ got y →
    Well y × (stored y ≡ stored x ++ b)
read_end n x y i [] l w e =
    let q : x ≡ y = cc (read_from_end n x i [] refl) in
    (subst Well q w, ap stored (sym q) ∙ sym (append-nil (stored x)))
read_end n x y i (a ∷ b) l w e = absurd (omega arith)

pub read_back : (n : ℕ) (x y : Table) (i : ℕ) (b : List ℕ) → length b ≤ n → are_bytes b ≡ true → Well x → read_from n x i b ≡ got y →
    Well y × (stored y ≡ stored x ++ b)
read_back zero x y i b l h w e = read_end zero x y i b (omega arith) w e
read_back (suc n) x y i b l h w e =
    go (eqb (length b) 0) (is_fine (record_refusal x i b)) refl refl (read_back n (recorded x b) y (i + record_size) (drop record_size b))
  where
    go : (t u : Bool) → eqb (length b) 0 ≡ t → is_fine (record_refusal x i b) ≡ u →
        (length (drop record_size b) ≤ n → are_bytes (drop record_size b) ≡ true → Well (recorded x b) →
        read_from n (recorded x b) (i + record_size) (drop record_size b) ≡ got y →
        Well y × (stored y ≡ stored (recorded x b) ++ drop record_size b)) →
        Well y × (stored y ≡ stored x ++ b)
    go true u p q r = read_end (suc n) x y i b (eqb-true _ _ p) w e
    go false true p q r =
        let m : 0 < length b = omega (arith, eqb-false (length b) 0 p) in
        let k =
        r (omega (arith, length-drop record_size b)) (are_bytes_drop record_size b h) (well_recorded x i b w q)
        (sym (read_from_fine n x i b m q) ∙ e) in (
          k.0,
          k.1 ∙ ap (λ (c : List ℕ). c ++ drop record_size b) (stored_recorded x i b h w q) ∙
              append_assoc (stored x) (take record_size b) (drop record_size b) ∙
              ap (λ (c : List ℕ). stored x ++ c) (take-append-drop record_size b),
        )
    go false false p q r =
        let m : 0 < length b = omega (arith, eqb-false (length b) 0 p) in
        let z : ◌≡◌ {A = ℕ} 0 1 = cc (read_from_refused n x i b m q) in
        absurd (omega arith)

-- TABLE TO BYTES TO TABLE, at fuel of the length. The rows read so far and those ahead are the table's
abbrev read_all : Table → ℕ → List ℕ → Read
read_all x i b = read_from (length b) x i b

read_step : (x : Table) (i : ℕ) (b c : List ℕ) → length b ≡ record_size → is_fine (record_refusal x i (b ++ c)) ≡ true →
    read_all x i (b ++ c) ≡ read_all (recorded x (b ++ c)) (i + record_size) c
read_step x i b c l f =
    let m : length (b ++ c) ≡ suc (3 + length c) = omega (arith, length-append b c) in
    let d : drop record_size (b ++ c) ≡ c = drop_at b c record_size l in
    ap (λ (n : ℕ). read_from n x i (b ++ c)) m ∙
    read_from_fine (3 + length c) x i (b ++ c) (omega arith) f ∙
    ap (λ (e : List ℕ). read_from (3 + length c) (recorded x (b ++ c)) (i + record_size) e) d ∙
    read_from_fuel (3 + length c) (length c) (recorded x (b ++ c)) (i + record_size) c (omega arith) (omega arith)

module _ (x : Table) (w : Well x) (done rest : List Row) (r : Row) (e : done ++ r ∷ rest ≡ x.rows) where
  next_row : row_at x (length done) ≡ r
  next_row = ap (λ (l : List Row). get_or l (length done) no_row) (sym e) ∙ get_or-append_seam done r rest no_row

  done_row : (k : ℕ) → k < length done → row_at x k ≡ get_or done k no_row
  done_row k l = ap (λ (q : List Row). get_or q k no_row) (sym e) ∙ get_or-append done (r ∷ rest) no_row k l

  next_count : length done < count x
  next_count = omega (arith, length-append done (r ∷ rest), ap length e)

  next_parent : (ms : List (Option ℕ)) (q : Option ℕ) → r.parent ≡ q → parent_fits (table done ms) (length done) q ≡ true
  next_parent ms none p = refl
  next_parent ms (some j) p =
      let k = w.tree.parents (length done) j (ap (λ (q : Row). q.parent) next_row ∙ p) in
      and_both _ _ (lt-ltb _ _ k.0)
      (is_element_by (table done ms) j k.0 (ap (λ (q : Row). q.is_leaf) (sym (done_row j k.0)) ∙ k.1))

  next_storable : IsStorable r.parent
  next_storable j p = omega (arith, (w.tree.parents (length done) j (ap (λ (q : Row). q.parent) next_row ∙ p)).0, w.few, next_count)

  next_record : (ms : List (Option ℕ)) (c : List ℕ) → ((k : ℕ) → get_or ms k none ≡ none) → IsRowRecord (table done ms) (row_bytes r ++ c)
  unfolding stored_kinds
  next_record ms c n =
      let q : r ≡ row_in (row_bytes r ++ c) = sym (row_in_back r next_storable c) in
      record {
        kind = kind r.is_leaf;
        row = row r.is_leaf;
        room = omega (arith, next_count, w.few);
        long = omega (arith, length-append (parent_bytes r.parent) c, length_parent_bytes r.parent);
        tag = subst (λ (s : Row). tag_fits s ≡ true) (next_row ∙ q) (w.tree.tags (length done) next_count);
        before = omega (arith, last_marked_by 0 ms 0 (λ k l. n k));
        parent = subst (λ (s : Row). parent_fits (table done ms) (length done) s.parent ≡ true) q (next_parent ms r.parent refl);
      }
    where
      kind : (t : Bool) → is_stored_kind (cond t leaf_kind element_kind) ≡ true
      kind true = refl
      kind false = refl

      row : (t : Bool) → eqb (cond t leaf_kind element_kind) mark_kind ≡ false
      row true = refl
      row false = refl

  read_row : (ms : List (Option ℕ)) (i : ℕ) (c : List ℕ) → ((k : ℕ) → get_or ms k none ≡ none) →
      read_all (table done ms) i (row_bytes r ++ c) ≡ read_all (table (done ++ (r ∷ [])) ms) (i + record_size) c
  read_row ms i c n =
      let f = next_record ms c n in
      read_step (table done ms) i (row_bytes r) c (omega (arith, length_parent_bytes r.parent))
      (row_fine_lem (table done ms) i (row_bytes r ++ c) f) ∙
      ap (λ (y : Table). read_all y (i + record_size) c)
      (recorded_row (table done ms) (row_bytes r ++ c) f ∙ ap (λ (s : Row). with_row (table done ms) s) (row_in_back r next_storable c))

read_rows : (x : Table) → Well x → (done rest : List Row) (ms : List (Option ℕ)) (i : ℕ) (c : List ℕ) → done ++ rest ≡ x.rows →
    ((k : ℕ) → get_or ms k none ≡ none) →
    read_all (table done ms) i (rows_bytes rest ++ c) ≡ read_all (table x.rows ms) (i + record_size * length rest) c
unfolding rows_bytes
read_rows x w done [] ms i c e n =
    ap (λ (y : Table). read_all y i c) (ap (λ (l : List Row). table l ms) (sym (append-nil done) ∙ e)) ∙
    ap (λ (j : ℕ). read_all (table x.rows ms) j c) (omega arith)
read_rows x w done (r ∷ rest) ms i c e n =
    ap (λ (b : List ℕ). read_all (table done ms) i b) (append_assoc (row_bytes r) (rows_bytes rest) c) ∙
    read_row x w done rest r e ms i (rows_bytes rest ++ c) n ∙
    read_rows x w (done ++ (r ∷ [])) rest ms (i + record_size) c (append_assoc done (r ∷ []) rest ∙ e) n ∙
    ap (λ (j : ℕ). read_all (table x.rows ms) j c) (omega arith)

-- the marks set so far, with none after them
abbrev marked_so_far : Table → (done rest : List (Option ℕ)) → Table
marked_so_far x done rest = table x.rows (done ++ replicate (length rest) none)

replicate_none : (n k : ℕ) → ◌≡◌ {A = Option ℕ} (get_or (replicate n none) k none) none
replicate_none zero k = refl
replicate_none (suc n) zero = refl
replicate_none (suc n) (suc k) = replicate_none n k

none_past : (done : List (Option ℕ)) (n k : ℕ) → length done ≤ k → get_or (done ++ replicate n none) k none ≡ none
none_past [] n k l = replicate_none n k
none_past (m ∷ done) n zero l = absurd (omega arith)
none_past (m ∷ done) n (suc k) l = none_past done n k (omega arith)

module _ (x : Table) (w : Well x) (done rest : List (Option ℕ)) (j : ℕ) (e : done ++ some j ∷ rest ≡ x.marks) where
  next_mark : get_or x.marks (length done) none ≡ some j
  next_mark = ap (λ (l : List (Option ℕ)). get_or l (length done) none) (sym e) ∙ get_or-append_seam done (some j) rest none

  next_document : length done < documents
  next_document = omega (arith, length-append done (some j ∷ rest), ap length e, w.eight)

  done_mark : (d : ℕ) → d < length done → get_or x.marks d none ≡ get_or done d none
  done_mark d l = ap (λ (q : List (Option ℕ)). get_or q d none) (sym e) ∙ get_or-append done (some j ∷ rest) none d l

  next_unmarked : is_marked (marked_so_far x done (some j ∷ rest)) j ≡ false
  next_unmarked = go (is_marked (marked_so_far x done (some j ∷ rest)) j) refl
    where
      early : (d : ℕ) → get_or (done ++ replicate (suc (length rest)) none) d none ≡ some j → (t : Bool) → ltb d (length done) ≡ t → ⊥
      early d q true p =
          let l : d < length done = ltb-true _ _ p in
          let g : get_or x.marks d none ≡ some j =
          done_mark d l ∙ sym (get_or-append done (replicate (suc (length rest)) none) none d l) ∙ q in
          omega (arith, w.tree.once d (length done) j g next_mark)
      early d q false p =
          none-ne-some j (sym (none_past done (suc (length rest)) d (ltb-false _ _ p)) ∙ q)

      go : (t : Bool) → is_marked (marked_so_far x done (some j ∷ rest)) j ≡ t → is_marked (marked_so_far x done (some j ∷ rest)) j ≡ false
      go true p = let k = any_at j (done ++ replicate (suc (length rest)) none) p in absurd (early k.0 k.1 _ refl)
      go false p = p

  next_fine : (c : List ℕ) → IsMarkRecord (marked_so_far x done (some j ∷ rest)) (mark_bytes (length done) (some j) ++ c)
  next_fine c = record {
    kind = refl;
    long = omega arith;
    document = next_document;
    rises = last_marked_by 0 _ (length done) (λ k l. none_past done (suc (length rest)) k (omega arith));
    root = rw number_back (w.tree.roots (length done) j next_mark);
    unmarked = rw number_back next_unmarked;
  }

  read_mark : (i : ℕ) (c : List ℕ) → read_all (marked_so_far x done (some j ∷ rest)) i (mark_bytes (length done) (some j) ++ c) ≡
      read_all (marked_so_far x (done ++ (some j ∷ [])) rest) (i + record_size) c
  read_mark i c =
      let y : Table = marked_so_far x done (some j ∷ rest) in
      let b : List ℕ = mark_bytes (length done) (some j) in
      read_step y i b c refl (mark_fine_lem y i (b ++ c) (next_fine c)) ∙
      ap (λ (z : Table). read_all z (i + record_size) c)
      (recorded_mark y (b ++ c) (next_fine c) ∙ ap (λ (k : ℕ). with_mark y (length done) k) (number_back j) ∙ ap (table x.rows) placed)
    where
      placed : set (done ++ none ∷ replicate (length rest) none) (length done) (some j) ≡
          (done ++ (some j ∷ [])) ++ replicate (length rest) none
      placed =
          set-append_seam done none (replicate (length rest) none) (some j) ∙
          sym (append_assoc done (some j ∷ []) (replicate (length rest) none))

read_marks : (x : Table) → Well x → (done rest : List (Option ℕ)) (i : ℕ) → done ++ rest ≡ x.marks →
    read_all (marked_so_far x done rest) i (marks_bytes (length done) rest) ≡ got x
unfolding marks_bytes
read_marks x w done [] i e = read_from_end 0 _ i [] refl ∙ ap (λ (ms : List (Option ℕ)). got (table x.rows ms)) e
read_marks x w done (none ∷ rest) i e =
    ap (λ (ms : List (Option ℕ)). read_all (table x.rows ms) i (marks_bytes (suc (length done)) rest))
    (sym (append_assoc done (none ∷ []) (replicate (length rest) none))) ∙
    ap (λ (d : ℕ). read_all (marked_so_far x (done ++ (none ∷ [])) rest) i (marks_bytes d rest))
    (omega (arith, length-append done (none ∷ []))) ∙
    read_marks x w (done ++ (none ∷ [])) rest i (append_assoc done (none ∷ []) rest ∙ e)
read_marks x w done (some j ∷ rest) i e =
    read_mark x w done rest j e i (marks_bytes (suc (length done)) rest) ∙
    ap (λ (d : ℕ). read_all (marked_so_far x (done ++ (some j ∷ [])) rest) (i + record_size) (marks_bytes d rest))
    (omega (arith, length-append done (some j ∷ []))) ∙
    read_marks x w (done ++ (some j ∷ [])) rest (i + record_size) (append_assoc done (some j ∷ []) rest ∙ e)

stored_read : (x : Table) → Well x → read_plan (stored x) ≡ got x
stored_read x w =
    read_from_fuel (length (stored x) + 1) (length (stored x)) empty 0 (stored x) (omega arith) (omega arith) ∙
    read_rows x w [] x.rows (replicate documents none) 0 (marks_bytes 0 x.marks) refl (replicate_none documents) ∙
    ap (λ (n : ℕ). read_all (table x.rows (replicate n none)) (0 + record_size * count x) (marks_bytes 0 x.marks)) (sym w.eight) ∙
    read_marks x w [] x.marks (0 + record_size * count x) refl

pub stored_back : StoredBack
unfolding rows_bytes marks_bytes
stored_back = (
  λ x h. stored_read x (is_well_at x h),
  λ b x h e. let k = read_back (length b + 1) empty x 0 b (omega arith) h well_empty e in (is_well_by x k.0, k.1),
)
