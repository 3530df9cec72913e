-- The check of a table handed in, one turn at a time; and that the check over the packed rows is the model's rule on the table decoded.
use mathlib.Core.Path.{◌≡◌, refl, ap, sym, ◌∙◌}
use mathlib.Core.Bool.{Bool, true, false, ◌&&◌, not, and-true, and-false, and_comm, cond}
use mathlib.Core.List.{List, [], ◌∷◌, map}
use Prim.Native.Nat.{ℕ, zero, suc, ◌+◌, ◌-◌, ◌≤◌, ◌<◌}
use native.Mathlib.Omega.{arith}
use native.Mathlib.Numerals.{add-one}
use lib.Dec.{ltb, leb, eqb}
use lib.ListN.{length, get_or, take, drop, drop_of_length-le, length-map, length-drop}
use lib.Seq.{drop-cons}
use Rattle.std.proofs.Common.{take_all}
use borrow.Author.Tests.{le-leb, eq-eqb, ne_eqb}
use Rattle.std.specs.List.{list_all}
use Rattle.model.specs.Limits.{max_rows, documents}
use Rattle.model.specs.Base.{is_in, all, any, max_byte}
use Rattle.model.specs.Table as model
use Rattle.plan_table.specs.Packed.{element_bits, leaf_bits}
use Rattle.plan_table.specs.Packed.{of_link, is_packed_row, is_zero, row_of, rows_of, decode_parts, parts_fit, kind_in, link_in, tag_in}
use Rattle.plan_table.specs.Fitting.{TableSizes, tag_fits, link_fits, row_fits, rows_fit, mark_fits, is_repeated, marks_fit}
use Rattle.model.proofs.BoolLaws.{by_cases}
use Rattle.model.proofs.ListLaws.{drop_next}
use Rattle.plan_table.proofs.PackedLaws.{count_decode}
use Rattle.plan_table.proofs.DecodeLaws.{element_below, root_below}

-- TURNS
pub rows_turn : (ws : List ℕ) (i n : ℕ) → i < n → rows_fit ws i (n - i) ≡ (row_fits ws i && rows_fit ws (i + 1) (n - (i + 1)))
unfolding rows_fit
rows_turn ws i n h = let e : n - i ≡ suc (n - (i + 1)) = omega arith in ap (rows_fit ws i) e ∙
    ap (λ (j : ℕ). row_fits ws i && rows_fit ws j
    (n - (i + 1))) (sym (add-one i))

pub rows_end : (ws : List ℕ) (i n : ℕ) → n ≤ i → rows_fit ws i (n - i) ≡ true
unfolding rows_fit
rows_end ws i n h = let e : n - i ≡ 0 = omega arith in ap (rows_fit ws i) e

pub all_listed : (f : ℕ → Bool) (ws : List ℕ) → list_all f ws ≡ all f ws
unfolding all
all_listed f [] = refl
all_listed f (w ∷ ws) = ap (λ (t : Bool). f w && t) (all_listed f ws)

marks_turn : (ws : List ℕ) (n : ℕ) (ms : List ℕ) (d : ℕ) → d < length ms →
    marks_fit ws n (drop d ms) ≡
    (mark_fits ws n (get_or ms d 0) && not (is_repeated (get_or ms d 0) (drop (d + 1) ms)) && marks_fit ws n (drop
    (d + 1) ms))
unfolding marks_fit
marks_turn ws n ms d h = ap (marks_fit ws n) (drop_next ms d 0 h)

pub marks_end : (ws : List ℕ) (n : ℕ) (ms : List ℕ) (d : ℕ) → length ms ≤ d → marks_fit ws n (drop d ms) ≡ true
unfolding marks_fit
marks_end ws n ms d h = ap (marks_fit ws n) (drop_of_length-le ms h)

-- a mark that stands again behind it, or not
repeated_none : (m : ℕ) (ms : List ℕ) → m ≡ 0 → is_repeated m ms ≡ false
repeated_none m ms h = rw h

repeated_some : (m : ℕ) (ms : List ℕ) → (m ≡ 0 → ⊥) → is_repeated m ms ≡ any (model.is_the (m - 1)) (map of_link ms)
repeated_some m ms h = rw (ne_eqb m 0 h)

-- one turn of the check, from what the checks of a mark and of those behind it answer
module _ (ws : List ℕ) (n : ℕ) (ms : List ℕ) (d : ℕ) (h : d < length ms) (link : ℕ) (here : link ≡ get_or ms d 0) where
  fitted : (z : Bool) → z ≡ mark_fits ws n link → mark_fits ws n (get_or ms d 0) ≡ z
  fitted z e = ap (mark_fits ws n) (sym here) ∙ sym e

  turned : (z : Bool) → true ≡ mark_fits ws n link → is_repeated (get_or ms d 0) (drop (d + 1) ms) ≡ z →
      marks_fit ws n (drop d ms) ≡ (not z && marks_fit ws n (drop (d + 1) ms))
  turned z f e =
      marks_turn ws n ms d h ∙
      ap (λ (t : Bool). t && not (is_repeated (get_or ms d 0) (drop (d + 1) ms)) && marks_fit ws n (drop (d + 1) ms)) (fitted true f) ∙
      ap (λ (t : Bool). not t && marks_fit ws n (drop (d + 1) ms)) e

  pub marks_unfit : false ≡ mark_fits ws n link → marks_fit ws n (drop d ms) ≡ false
  marks_unfit f =
      marks_turn ws n ms d h ∙
      ap (λ (t : Bool). t && not (is_repeated (get_or ms d 0) (drop (d + 1) ms)) && marks_fit ws n (drop (d + 1) ms)) (fitted false f)

  pub marks_go : (z : Bool) → true ≡ mark_fits ws n link → (link ≡ 0 → ⊥) →
      z ≡ any (model.is_the (link - 1)) (map of_link (take (length ms - (d + 1)) (drop (d + 1) ms))) →
      marks_fit ws n (drop d ms) ≡ (not z && marks_fit ws n (drop (d + 1) ms))
  marks_go z f some e =
      turned z f
      (repeated_some (get_or ms d 0) (drop (d + 1) ms) (λ q. some (here ∙ q)) ∙
      ap (λ (m : ℕ). any (model.is_the (m - 1)) (map of_link (drop (d + 1) ms))) (sym here) ∙
      ap (λ (l : List ℕ). any (model.is_the (link - 1)) (map of_link l))
      (sym (take_all (length ms - (d + 1)) (drop (d + 1) ms) (omega (arith, length-drop (d + 1) ms)))) ∙ sym e)

  pub marks_pass : true ≡ mark_fits ws n link → link ≡ 0 → marks_fit ws n (drop d ms) ≡ marks_fit ws n (drop (d + 1) ms)
  marks_pass f none = turned false f (repeated_none (get_or ms d 0) (drop (d + 1) ms) (sym here ∙ none))

-- ONE ROW: the tag
tag_kind : (k t : ℕ) → k < 4 →
    (is_in element_bits leaf_bits k && cond (eqb k leaf_bits) (leb t max_byte) (model.is_name t)) ≡
    (leb t max_byte && cond (eqb k element_bits) (ltb 0 t) (eqb k leaf_bits))
tag_kind zero t h = sym (and-false (leb t max_byte))
tag_kind (suc zero) t h = and_comm (leb 1 t) (leb t max_byte)
tag_kind (suc (suc zero)) t h = sym (and-true (leb t max_byte))
tag_kind (suc (suc (suc zero))) t h = sym (and-false (leb t max_byte))
tag_kind (suc (suc (suc (suc k)))) t h = absurd (omega arith)

tag_packed : (w : ℕ) → (is_packed_row w && model.tag_fits (row_of w)) ≡ tag_fits w
tag_packed w = tag_kind (kind_in w) (tag_in w) (omega arith)

-- the parent, of a row below the count
module _ (n : ℕ) (ws ms : List ℕ) (within : n ≤ length ws) where
  link_packed : (i l : ℕ) → i < n → model.parent_fits (decode_parts n ws ms) i (of_link l) ≡ link_fits ws i l
  link_packed i l h = by_cases (eqb l 0) (λ e. rw e) (λ e. rw e (element_below n ws ms within (l - 1) i (omega arith)))

  -- the rows from i on
  rows_packed : (i k : ℕ) → i + k ≡ n →
      (all is_packed_row (take k (drop i ws)) && model.rows_fit (decode_parts n ws ms) i (map row_of (take k (drop i ws)))) ≡
      rows_fit ws i k
  unfolding all model.rows_fit rows_fit
  rows_packed i zero e = refl
  rows_packed i (suc k) e =
      let h : i < n = omega arith in
      let g : i < length ws = omega arith in
      rw (drop-cons ws i 0 g)
      (shuffle (is_packed_row (get_or ws i 0)) (all is_packed_row (take k (drop (suc i) ws))) (model.tag_fits (row_of (get_or ws i 0)))
      (model.parent_fits (decode_parts n ws ms) i (of_link (link_in (get_or ws i 0))))
      (model.rows_fit (decode_parts n ws ms) (suc i) (map row_of (take k (drop (suc i) ws)))) ∙
      ap (λ (t : Bool). t && model.parent_fits (decode_parts n ws ms) i (of_link (link_in (get_or ws i 0))) &&
      (all is_packed_row (take k (drop (suc i) ws)) &&
      model.rows_fit (decode_parts n ws ms) (suc i) (map row_of (take k (drop (suc i) ws)))))
      (tag_packed (get_or ws i 0)) ∙
      ap (λ (t : Bool). tag_fits (get_or ws i 0) && t &&
      (all is_packed_row (take k (drop (suc i) ws)) &&
      model.rows_fit (decode_parts n ws ms) (suc i) (map row_of (take k (drop (suc i) ws)))))
      (link_packed i (link_in (get_or ws i 0)) h) ∙
      ap (λ (t : Bool). tag_fits (get_or ws i 0) && link_fits ws i (link_in (get_or ws i 0)) && t) (rows_packed (suc i) k (omega arith)))
    where
      shuffle : (a b c d e : Bool) → (a && b && (c && d && e)) ≡ (a && c && d && (b && e))
      shuffle true true c d e = refl
      shuffle true false c d e = sym (and-false (c && d))
      shuffle false b c d e = refl

  -- one mark
  mark_link : (m : ℕ) → model.mark_fits (decode_parts n ws ms) (of_link m) ≡ mark_fits ws n m
  mark_link m = by_cases (eqb m 0) (λ e. rw e) (λ e. rw e (root_below n ws ms within (m - 1)))

  -- all marks
  marks_links : (vs : List ℕ) →
      (all (model.mark_fits (decode_parts n ws ms)) (map of_link vs) && model.none_twice (map of_link vs)) ≡ marks_fit ws n vs
  unfolding all model.none_twice marks_fit
  marks_links [] = refl
  marks_links (m ∷ vs) =
      ap (λ (t : Bool). t && all (model.mark_fits (decode_parts n ws ms)) (map of_link vs) && model.none_twice (map of_link (m ∷ vs)))
      (mark_link m) ∙
      ap (λ (t : Bool). mark_fits ws n m && all (model.mark_fits (decode_parts n ws ms)) (map of_link vs) && t) (twice (eqb m 0) refl) ∙
      shuffle (mark_fits ws n m) (all (model.mark_fits (decode_parts n ws ms)) (map of_link vs)) (not (is_repeated m vs)) (model.none_twice
      (map of_link vs)) ∙
      ap (λ (t : Bool). mark_fits ws n m && not (is_repeated m vs) && t) (marks_links vs)
    where
      twice : (t : Bool) → eqb m 0 ≡ t → model.none_twice (of_link m ∷ map of_link vs) ≡ (not (is_repeated m vs) && model.none_twice (map
          of_link vs))
      twice true e = rw e
      twice false e = rw e

      shuffle : (a b c d : Bool) → (a && b && (c && d)) ≡ (a && c && (b && d))
      shuffle true true c d = refl
      shuffle true false c d = sym (and-false c)
      shuffle false b c d = refl

-- THE WHOLE TABLE
pub parts_fit_lem : (n : ℕ) (ws ms : List ℕ) → TableSizes ws ms → n ≤ max_rows →
    parts_fit n ws ms ≡ (rows_fit ws 0 n && all is_zero (drop n ws) && marks_fit ws n ms)
parts_fit_lem n ws ms size h =
    let w : n ≤ length ws = omega (arith, size.rows) in
    let k : model.count (decode_parts n ws ms) ≤ max_rows = omega (arith, count_decode n ws ms w) in
    let d : length (map of_link ms) ≡ documents = length-map ms of_link ∙ size.marks in
    let z : 0 + n ≡ n = omega arith in
    rw (le-leb n max_rows h, le-leb (model.count (decode_parts n ws ms)) max_rows k, eq-eqb (length (map of_link ms)) documents d)
    (shuffle (all is_packed_row (take n ws)) (all is_zero (drop n ws)) (model.rows_fit (decode_parts n ws ms) 0 (rows_of n ws))
    (all (model.mark_fits (decode_parts n ws ms)) (map of_link ms)) (model.none_twice (map of_link ms)) ∙
    ap (λ (t : Bool). t && all is_zero (drop n ws) &&
    (all (model.mark_fits (decode_parts n ws ms)) (map of_link ms) && model.none_twice (map
    of_link ms)))
    (rows_packed n ws ms w 0 n z) ∙
    ap (λ (t : Bool). rows_fit ws 0 n && all is_zero (drop n ws) && t) (marks_links n ws ms w ms))
  where
    shuffle : (a b c d e : Bool) → (a && b && (c && true && d && e)) ≡ (a && c && b && (d && e))
    shuffle true true true d e = refl
    shuffle true true false d e = refl
    shuffle true false true d e = refl
    shuffle true false false d e = refl
    shuffle false b c d e = refl
