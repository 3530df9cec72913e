-- What the model says of the record at the front, from the tests that the reader makes: one law for each way out.
use mathlib.Core.Path.{◌≡◌, refl, ap, sym, ◌∙◌}
use mathlib.Core.Bool.{Bool, true, false, ◌&&◌, not, cond}
use mathlib.Core.List.{List, [], ◌∷◌, map}
use mathlib.Core.Option.{Option, none, some}
use Prim.Native.Nat.{ℕ, zero, suc, ◌+◌, ◌≤◌, ◌<◌}
use native.Mathlib.Omega.{arith}
use lib.Dec.{eqb}
use lib.ListN.{length, length-map, length-set, get_or, set}
use borrow.Author.Tests.{lt-ltb, le-ltb, le-leb, lt-leb, eq-eqb, ne_eqb, eqb-true}
use Rattle.model.specs.Base.{any, max_byte}
use Rattle.model.specs.Limits.{max_rows, documents, max_name}
use Rattle.model.specs.Refusal.{refusal, fine, link_at, unless}
use Rattle.model.specs.Table as model
use Rattle.model.specs.Stored.{element_kind, mark_kind, stored_kinds, is_stored_kind, record_size, no_parent, is_mark}
use Rattle.model.specs.Stored.{number_at, row_in, row_refusal, mark_refusal, last_marked, record_refusal}
use Rattle.model.proofs.BoolLaws.{by_cases, eq_cases, cond_eq, cond_false}
use Rattle.model.proofs.KindLaws.{row_kind, stored_size_lem}
use Rattle.model.proofs.BytesLaws.{last_marked_above}
use Rattle.plan_table.specs.Packed.{link_of, of_link, pack_row, rows_of, pack_rows, decode_parts, link_room}
use Rattle.plan_table.specs.Fitting.{is_element_below, is_root_below}
use Rattle.plan_reader.specs.Reading.{last_of, RowPre, RowPost, MarkPre, MarkPost, RecordPre, RecordPost, Recorded}
use Rattle.plan_table.proofs.PackedLaws.{of_link_link_of, count_decode, canonical_push}
use Rattle.plan_table.proofs.DecodeLaws.{element_below, root_below, decode_mark, decode_row}
use Rattle.model.proofs.ListLaws.{map_set}

-- a refusal is no acceptance
pub not_accepted : {A : Type 0} (k : ℕ) → suc k ≡ 0 → A
not_accepted k e = absurd (omega arith)

-- ROWS: the tag
tag_fits : (s : List ℕ) → is_stored_kind (get_or s 0 0) ≡ true → is_mark s ≡ false →
    (get_or s 0 0 ≡ element_kind → get_or s 1 0 ≡ 0 → ⊥) → get_or s 1 0 ≤ max_byte → model.tag_fits (row_in s) ≡ true
tag_fits s kind row f b =
    row_kind (get_or s 0 0) kind row
    (λ e. let k : 1 ≤ get_or s 1 0 = omega (arith, f e) in rw (e, le-leb 1 (get_or s 1 0) k) (le-leb (get_or s 1 0) max_name b))
    (λ e. rw e (le-leb (get_or s 1 0) max_byte b))

pub link_none : (s : List ℕ) → number_at s 2 ≡ no_parent → link_of (row_in s).parent < link_room
link_none s h = rw (eq-eqb (number_at s 2) no_parent h) (omega arith)

pub link_some : (s : List ℕ) → number_at s 2 < max_rows → link_of (row_in s).parent < link_room
link_some s h = let e : number_at s 2 ≡ no_parent → ⊥ = λ q. omega arith in rw (ne_eqb (number_at s 2) no_parent e) (omega arith)

-- a row at the front, by the tests on its way out
module _ (s ws ms : List ℕ) (n i : ℕ) (pre : RowPre s ws n) where
  in_rows : n ≤ length ws
  in_rows = omega (arith, pre.room, pre.size)

  module _ (tag : get_or s 0 0 ≡ element_kind → get_or s 1 0 ≡ 0 → ⊥) (byte : get_or s 1 0 ≤ max_byte) where
    fits : model.tag_fits (row_in s) ≡ true
    fits = tag_fits s pre.kind pre.row tag byte

    module _ (first : last_of ms ≡ 0) where
      pub row_none : number_at s 2 ≡ no_parent → row_refusal (decode_parts n ws ms) i s ≡ fine
      row_none h = rw (fits, first, eq-eqb (number_at s 2) no_parent h)

      module _ (some-parent : number_at s 2 ≡ no_parent → ⊥) where
        pub row_child : (z : Bool) → is_element_below ws n (number_at s 2) ≡ z →
            row_refusal (decode_parts n ws ms) i s ≡ cond z fine (refusal 6 i)
        row_child z h =
            let c : model.count (decode_parts n ws ms) ≡ n = count_decode n ws ms in_rows in
            let e : model.is_lower_element (decode_parts n ws ms) (model.count (decode_parts n ws ms)) (number_at s 2) ≡ z =
            ap (λ (j : ℕ). model.is_lower_element (decode_parts n ws ms) j (number_at s 2)) c ∙
            element_below n ws ms in_rows (number_at s 2) n (omega arith) ∙ h in
            rw (fits, first, ne_eqb (number_at s 2) no_parent some-parent, e)

-- MARKS: a mark at the front, by the tests on its way out
module _ (s ws ms : List ℕ) (n i : ℕ) (pre : MarkPre s ws ms n) where
  within : n ≤ length ws
  within = omega (arith, pre.room, pre.size)

  pub mark_field : documents ≤ get_or s 1 0 → mark_refusal (decode_parts n ws ms) i s ≡ refusal 4 i
  mark_field h = rw (le-ltb (get_or s 1 0) documents h)

  module _ (known : get_or s 1 0 < documents) where
    pub mark_order : get_or s 1 0 < last_of ms → mark_refusal (decode_parts n ws ms) i s ≡ refusal 6 i
    mark_order h = rw (lt-ltb (get_or s 1 0) documents known, lt-leb (last_of ms) (get_or s 1 0) h)

    module _ (rising : last_of ms ≤ get_or s 1 0) where
      mark_tests : mark_refusal (decode_parts n ws ms) i s ≡
          unless (is_root_below ws n (number_at s 2) && not (any (model.is_the (number_at s 2)) (map of_link ms))) (link_at i)
      mark_tests =
          rw (lt-ltb (get_or s 1 0) documents known, le-leb (last_of ms) (get_or s 1 0) rising, root_below n ws ms within (number_at s 2))

      pub mark_root : is_root_below ws n (number_at s 2) ≡ false → mark_refusal (decode_parts n ws ms) i s ≡ refusal 6 i
      mark_root h = mark_tests ∙ rw h

      pub mark_by : is_root_below ws n (number_at s 2) ≡ true → (z : Bool) → any (model.is_the (number_at s 2)) (map of_link ms) ≡ z →
          mark_refusal (decode_parts n ws ms) i s ≡ cond z (refusal 6 i) fine
      mark_by root true h = mark_tests ∙ rw (root, h)
      mark_by root false h = mark_tests ∙ rw (root, h)

-- THE RECORD at the front, by its kind and size
module _ (x : model.Table) (i : ℕ) (s : List ℕ) where
  pub record_kind : is_stored_kind (get_or s 0 0) ≡ false → record_refusal x i s ≡ refusal 1 i
  record_kind h = rw h

  module _ (mark : get_or s 0 0 ≡ mark_kind) where
    pub record_mark_short : length s < record_size → record_refusal x i s ≡ refusal 2 i
    unfolding stored_kinds
    record_mark_short h = rw (mark, lt-leb record_size (length s) h)

    record_mark : record_size ≤ length s → record_refusal x i s ≡ mark_refusal x i s
    unfolding stored_kinds
    record_mark h = rw (mark, le-leb record_size (length s) h)

  module _ (kind : is_stored_kind (get_or s 0 0) ≡ true) (row : is_mark s ≡ false) where
    pub record_size_lem : max_rows ≤ model.count x → record_refusal x i s ≡ refusal 5 i
    record_size_lem h = rw (kind, row, le-ltb (model.count x) max_rows h)

    module _ (room : model.count x < max_rows) where
      pub record_row_short : length s < record_size → record_refusal x i s ≡ refusal 2 i
      record_row_short h =
          rw (kind, row, lt-ltb (model.count x) max_rows room, stored_size_lem (get_or s 0 0) kind, lt-leb record_size (length s) h)

      record_row : record_size ≤ length s → record_refusal x i s ≡ row_refusal x i s
      record_row h =
          rw (kind, row, lt-ltb (model.count x) max_rows room, stored_size_lem (get_or s 0 0) kind, le-leb record_size (length s) h)

-- the last marked document after a mark past the others
last_none : (from : ℕ) (ms : List (Option ℕ)) → last_marked from ms ≤ from → last_marked from ms ≡ 0
last_none from ms h =
    eq_cases (last_marked from ms) 0 (λ e. e)
    (λ e. absurd (omega (arith, last_marked_above from ms e)))

last_rest : (m : Option ℕ) (ms : List (Option ℕ)) (from n : ℕ) → last_marked from (m ∷ ms) ≤ n → last_marked (suc from) ms ≤ n
unfolding last_marked
last_rest none ms from n l = l
last_rest (some j) ms from n l =
    by_cases (eqb (last_marked (suc from) ms) 0) (λ e. omega (arith, eqb-true (last_marked (suc from) ms) 0 e)) (λ e. rw e at l)

last_set : (ms : List (Option ℕ)) (from d i : ℕ) → d < length ms → last_marked from ms ≤ from + d →
    last_marked from (set ms d (some i)) ≡ from + d + 1
unfolding last_marked
last_set [] from d i h l = absurd (omega arith)
last_set (m ∷ ms) from zero i h l =
    rw (last_none (suc from) ms (omega (arith, last_rest m ms from (from + 0) l))) (omega arith)
last_set (m ∷ ms) from (suc d) i h l =
    go m (last_set ms (suc from) d i (omega arith) (omega (arith, last_rest m ms from (from + suc d) l)))
  where
    go : (m : Option ℕ) → last_marked (suc from) (set ms d (some i)) ≡ suc from + d + 1 →
        last_marked from (m ∷ set ms d (some i)) ≡ from + suc d + 1
    go none e = e ∙ omega arith
    go (some j) e = rw e (let k : suc from + d + 1 ≡ 0 → ⊥ = λ q. omega arith in rw (ne_eqb (suc from + d + 1) 0 k) (omega arith))

last_of_set : (ms : List ℕ) (d i : ℕ) → d < length ms → last_of ms ≤ d → last_of (set ms d (i + 1)) ≡ d + 1
last_of_set ms d i h l =
    ap (last_marked 0) (map_set of_link ms d (i + 1) ∙ ap (set (map of_link ms) d) (of_link_link_of (some i))) ∙
    last_set (map of_link ms) 0 d i (omega (arith, length-map ms of_link)) (omega arith) ∙ omega arith

-- what a mark's or a row's reader leaves is what a record's reader owes
module _ (s ws ms : List ℕ) (n last : ℕ) (pre : RecordPre s ws ms n last) (whole : record_size ≤ length s) where
  pub mark_refused : get_or s 0 0 ≡ mark_kind → (ms' : List ℕ) (r : ℕ) → (r ≡ 0 → ⊥) → MarkPost s ws ms n last ms' r →
      RecordPost s ws ms n ws ms' (record { number = r; count = 0; last = 0 })
  mark_refused kind ms' r z post =
      record {
        refusal = λ i. record_mark (decode_parts n ws ms) i s kind whole ∙ post.refusal i pre.held.latest;
        fine = λ e. absurd (z e);
      }

  pub mark_record : get_or s 0 0 ≡ mark_kind → (ms' : List ℕ) (d : ℕ) → MarkPost s ws ms n last ms' 0 → d ≡ get_or s 1 0 →
      RecordPost s ws ms n ws ms' (record { number = 0; count = n; last = d + 1 })
  mark_record kind ms' d post same =
      record {
        refusal = λ i. record_mark (decode_parts n ws ms) i s kind whole ∙ post.refusal i pre.held.latest;
        fine = λ z. held post.marks;
      }
    where
      held : ms' ≡ set ms (get_or s 1 0) (number_at s 2 + 1) → Recorded s ws ms n ws ms' n (d + 1)
      held e =
          let f : get_or s 1 0 < length ms = omega (arith, post.document refl, pre.held.documents) in
          let o : last_of ms ≤ get_or s 1 0 = omega (arith, post.order refl, pre.held.latest) in
          record {
            whole = whole;
            table =
                ap (decode_parts n ws) e ∙ decode_mark n (get_or s 1 0) (number_at s 2) ws ms ∙
                sym (cond_eq _ _ kind);
            held =
                record {
                  room = pre.held.room;
                  size = pre.held.size;
                  documents = ap length e ∙ length-set ms (get_or s 1 0) (number_at s 2 + 1) ∙ pre.held.documents;
                  canonical = pre.held.canonical;
                  latest = ap (λ (j : ℕ). j + 1) same ∙ sym (ap last_of e ∙ last_of_set ms (get_or s 1 0) (number_at s 2) f o);
                };
          }

  counted : n < max_rows → model.count (decode_parts n ws ms) < max_rows
  counted room = omega (arith, room, count_decode n ws ms (omega (arith, pre.held.room, pre.held.size)))

  pub row_refused : is_stored_kind (get_or s 0 0) ≡ true → is_mark s ≡ false → n < max_rows → (ws' : List ℕ) (r : ℕ) →
      (r ≡ 0 → ⊥) → RowPost s ws n last ws' r → RecordPost s ws ms n ws' ms (record { number = r; count = 0; last = 0 })
  row_refused kind row room ws' r z post =
      record {
        refusal = λ i.
            record_row (decode_parts n ws ms) i s kind row (counted room) whole ∙ post.refusal ms i pre.held.latest;
        fine = λ e. absurd (z e);
      }

  pub row_record : is_stored_kind (get_or s 0 0) ≡ true → is_mark s ≡ false → n < max_rows → (ws' : List ℕ) →
      RowPost s ws n last ws' 0 → RecordPost s ws ms n ws' ms (record { number = 0; count = n + 1; last = last })
  row_record kind row room ws' post =
      record {
        refusal = λ i.
            record_row (decode_parts n ws ms) i s kind row (counted room) whole ∙ post.refusal ms i pre.held.latest;
        fine = λ z. held post.rows;
      }
    where
      held : ws' ≡ set ws n (pack_row (row_in s)) → Recorded s ws ms n ws' ms (n + 1) last
      held e =
          let h : n < length ws = omega (arith, room, pre.held.size) in
          record {
            whole = whole;
            table =
                ap (λ (v : List ℕ). decode_parts (n + 1) v ms) e ∙ decode_row n (row_in s) ws ms h (post.link refl) ∙
                sym (cond_false (is_mark s) _ _ row);
            held =
                record {
                  room = omega arith;
                  size = ap length e ∙ length-set ws n (pack_row (row_in s)) ∙ pre.held.size;
                  documents = pre.held.documents;
                  canonical =
                      ap (λ (v : List ℕ). pack_rows (rows_of (n + 1) v)) e ∙
                      canonical_push n ws (row_in s) room pre.held.size (post.link refl) pre.held.canonical ∙ sym e;
                  latest = pre.held.latest;
                };
          }
