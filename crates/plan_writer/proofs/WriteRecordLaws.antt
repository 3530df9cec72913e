-- What the writer puts: a row as bytes, and the stored form grown row by row and mark by mark.
use mathlib.Core.Path.{◌≡◌, refl, ap, sym, ◌∙◌}
use mathlib.Core.List.{List, [], ◌∷◌, ◌++◌, map, map-append, append_assoc, append-nil}
use mathlib.Core.Option.{Option, none, some}
use Prim.Native.Nat.{ℕ, zero, suc, ◌+◌, ◌*◌, ◌≤◌, ◌<◌}
use native.Mathlib.Omega.{arith}
use native.Mathlib.Nat.{add-zero}
use lib.ListN.{length, get_or, take, length-append, length-map}
use lib.Seq.{take_all, length-take-le}
use Rattle.model.specs.Table as model
use Rattle.model.specs.Stored.{parent_bytes, row_bytes, rows_bytes, mark_bytes, marks_bytes}
use Rattle.model.proofs.BytesLaws.{length_parent_bytes, rows_bytes_snoc}
use Rattle.plan_table.specs.Packed.{tag_in, link_in, of_link, row_of, rows_of}
use Rattle.model.specs.Base.{over}
use Rattle.plan_table.proofs.PackedLaws.{count_decode, take_rows}
use Rattle.model.proofs.ListLaws.{take_next, over_over, over_nil}

-- A RECORD'S BYTES, from the name or value and the link that are put
pub row_bytes_lem : (w k t l : ℕ) → t ≡ tag_in w → l ≡ link_in w →
    k ∷ t ∷ parent_bytes (of_link l) ≡ k ∷ tag_in w ∷ parent_bytes (of_link (link_in w))
row_bytes_lem w k t l e f = ap (λ (j : ℕ). k ∷ t ∷ parent_bytes (of_link j)) f ∙
    ap (λ (j : ℕ). k ∷ j ∷ parent_bytes (of_link (link_in w))) e

-- ROWS, one more
length_row_bytes : (r : model.Row) → length (row_bytes r) ≡ 4
length_row_bytes r = omega (arith, length_parent_bytes r.parent)

pub length_rows_bytes : (rs : List model.Row) → length (rows_bytes rs) ≡ 4 * length rs
unfolding rows_bytes
length_rows_bytes [] = refl
length_rows_bytes (r ∷ rs) = length-append (row_bytes r) (rows_bytes rs) ∙ omega (arith, length_row_bytes r, length_rows_bytes rs)

module _ (ws : List ℕ) (n i : ℕ) (within : n ≤ length ws) (h : i < n) where
  length_rows : length (rows_bytes (take i (rows_of n ws))) ≡ 4 * i
  length_rows =
      let k : i ≤ length (rows_of n ws) = omega (arith, count_decode n ws [] within) in
      length_rows_bytes (take i (rows_of n ws)) ∙ ap (λ (j : ℕ). 4 * j) (length-take-le i (rows_of n ws) k)

  pub rows_grown : (o : List ℕ) → 4 * n ≤ length o →
      over (4 * i) (row_bytes (row_of (get_or ws i 0))) (over 0 (rows_bytes (take i (rows_of n ws))) o) ≡ over 0 (rows_bytes (take (i + 1)
      (rows_of n ws))) o
  rows_grown o room =
      let e : 4 * i ≡ 0 + length (rows_bytes (take i (rows_of n ws))) = omega (arith, length_rows) in
      ap (λ (j : ℕ). over j (row_bytes (row_of (get_or ws i 0))) (over 0 (rows_bytes (take i (rows_of n ws))) o)) e ∙
      over_over 0 (rows_bytes (take i (rows_of n ws))) (row_bytes (row_of (get_or ws i 0))) o (omega arith) ∙
      ap (λ (b : List ℕ). over 0 b o)
      (sym (ap rows_bytes (take_rows i n ws within h) ∙ rows_bytes_snoc (take i (rows_of n ws)) (row_of (get_or ws i 0))))

-- MARKS, one more
marks_bytes_snoc : (from : ℕ) (ms : List (Option ℕ)) (m : Option ℕ) → marks_bytes from (ms ++ (m ∷ [])) ≡ marks_bytes from ms ++ mark_bytes
    (from + length ms) m
unfolding marks_bytes
marks_bytes_snoc from [] m = append-nil (mark_bytes from m) ∙ ap (λ (j : ℕ). mark_bytes j m) (sym (add-zero from))
marks_bytes_snoc from (k ∷ ms) m =
    ap (λ (b : List ℕ). mark_bytes from k ++ b) (marks_bytes_snoc (suc from) ms m) ∙
    sym (append_assoc (mark_bytes from k) (marks_bytes (suc from) ms) (mark_bytes (suc from + length ms) m)) ∙
    ap (λ (j : ℕ). mark_bytes from k ++ marks_bytes (suc from) ms ++ mark_bytes j m) total
  where
    total : suc from + length ms ≡ from + suc (length ms)
    total = omega arith

module _ (ms : List ℕ) (d : ℕ) (h : d < length ms) where
  marks_next : marks_bytes 0 (map of_link (take (d + 1) ms)) ≡ marks_bytes 0 (map of_link (take d ms)) ++
      mark_bytes d (of_link (get_or ms d 0))
  marks_next =
      let k : 0 + length (map of_link (take d ms)) ≡ d =
      omega (arith, length-map (take d ms) of_link, length-take-le d ms (omega arith)) in
      ap (λ (v : List ℕ). marks_bytes 0 (map of_link v)) (take_next ms d 0 h) ∙
      ap (marks_bytes 0) (map-append of_link (take d ms) (get_or ms d 0 ∷ [])) ∙
      marks_bytes_snoc 0 (map of_link (take d ms)) (of_link (get_or ms d 0)) ∙
      ap (λ (j : ℕ). marks_bytes 0 (map of_link (take d ms)) ++ mark_bytes j (of_link (get_or ms d 0))) k

  pub length_marks : length (marks_bytes 0 (map of_link (take (d + 1) ms))) ≡
      length (marks_bytes 0 (map of_link (take d ms))) + length (mark_bytes d (of_link (get_or ms d 0)))
  length_marks = ap length marks_next ∙ length-append (marks_bytes 0 (map of_link (take d ms))) (mark_bytes d (of_link (get_or ms d 0)))

  pub marks_grown : (o : List ℕ) (start : ℕ) → start + length (marks_bytes 0 (map of_link (take d ms))) ≤ length o →
      over (start + length (marks_bytes 0 (map of_link (take d ms)))) (mark_bytes d (of_link (get_or ms d 0)))
      (over start (marks_bytes 0 (map of_link (take d ms))) o) ≡ over start (marks_bytes 0 (map of_link (take (d + 1) ms))) o
  marks_grown o start g =
      over_over start (marks_bytes 0 (map of_link (take d ms))) (mark_bytes d (of_link (get_or ms d 0))) o (omega arith) ∙
      ap (λ (b : List ℕ). over start b o) (sym marks_next)

-- a mark's record
pub length_mark : (d : ℕ) (m : Option ℕ) → length (mark_bytes d m) ≤ 4
length_mark d none = omega arith
length_mark d (some i) = omega arith

-- the marks so far are a front of all marks
pub marks_front : (from k : ℕ) (ms : List ℕ) →
    length (marks_bytes from (map of_link (take k ms))) ≤ length (marks_bytes from (map of_link ms))
unfolding marks_bytes
marks_front from zero ms = omega arith
marks_front from (suc k) [] = omega arith
marks_front from (suc k) (m ∷ ms) =
    omega (
      arith,
      length-append (mark_bytes from (of_link m)) (marks_bytes (suc from) (map of_link (take k ms))),
      length-append (mark_bytes from (of_link m)) (marks_bytes (suc from) (map of_link ms)),
      marks_front (suc from) k ms,
    )

-- the start and the end of both
pub rows_start : (o : List ℕ) (rs : List model.Row) → over 0 (rows_bytes (take 0 rs)) o ≡ o
unfolding rows_bytes
rows_start o rs = over_nil 0 o

pub rows_all : (ws : List ℕ) (n i : ℕ) → n ≤ length ws → n ≤ i → rows_bytes (take i (rows_of n ws)) ≡ rows_bytes (rows_of n ws)
rows_all ws n i within h = ap rows_bytes (take_all i (rows_of n ws) (omega (arith, count_decode n ws [] within)))

pub marks_start : (ms : List ℕ) → marks_bytes 0 (map of_link (take 0 ms)) ≡ []
unfolding marks_bytes
marks_start ms = refl
