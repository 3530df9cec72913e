-- Writing a table: from the check's answer and what the parts leave to what the call owes. A well-formed one is never refused where
-- out has 2,080 bytes.
use mathlib.Core.Path.{◌≡◌, ap, sym, ◌∙◌, subst}
use mathlib.Core.Bool.{true, false}
use mathlib.Core.List.{List, [], ◌∷◌, ◌++◌, map}
use mathlib.Core.Option.{Option}
use Prim.Native.Nat.{ℕ, suc, ◌+◌, ◌*◌, ◌≤◌, ◌<◌}
use native.Mathlib.Omega.{arith}
use native.Mathlib.Nat.{zero-add}
use lib.Dec.{leb}
use lib.ListN.{length, drop, length-append}
use borrow.Author.Tests.{le-leb, lt-leb}
use Rattle.model.specs.Table as model
use Rattle.model.specs.Stored.{rows_bytes, marks_bytes, stored, mark_bytes}
use Rattle.model.proofs.TableLaws.{is_well_at}
use Rattle.plan_table.specs.declared.Table.{Table}
use Rattle.plan_table.specs.Results.{written_by}
use Rattle.plan_table.specs.Packed.{of_link, rows_of, decode_parts, decode, fits, encode}
use Rattle.model.specs.Base.{at_front, over}
use Rattle.plan_writer.specs.Writing.{plan_written, written_out}
use Rattle.plan_table.proofs.PackedLaws.{count_decode}
use Rattle.plan_writer.proofs.WriteRecordLaws.{length_rows_bytes, length_mark}
use Rattle.model.proofs.ListLaws.{over_over}
use Rattle.plan_table.proofs.EncodeLaws.{decode_encode, fits_encode}

-- WRITING
module _ (t : Table) (o : List ℕ) where
  pub write_unfit : fits t ≡ false →
      (written_by 6 0 ≡ plan_written t o) × (o ≡ written_out t o)
  write_unfit e = (rw e, rw e)

  module _ (e : fits t ≡ true) where
    pub write_short : length o < length (stored (decode t)) →
        (written_by 11 0 ≡ plan_written t o) × (o ≡ written_out t o)
    write_short h =
        let k : leb (length (stored (decode t))) (length o) ≡ false = lt-leb (length (stored (decode t))) (length o) h in
        (rw (e, k), rw (e, k))

    pub write_fine : (n : ℕ) → length (stored (decode t)) ≤ length o → n ≡ length (stored (decode t)) →
        written_by 0 n ≡ plan_written t o
    write_fine n h l =
        let k : leb (length (stored (decode t))) (length o) ≡ true = le-leb (length (stored (decode t))) (length o) h in
        rw (e, k, l)

    pub write_out : length (stored (decode t)) ≤ length o → written_out t o ≡ at_front (stored (decode t)) o
    write_out h =
        let k : leb (length (stored (decode t))) (length o) ≡ true = le-leb (length (stored (decode t))) (length o) h in
        rw (e, k)

-- the stored form is the rows, then the marks
module _ (n : ℕ) (ws ms : List ℕ) (within : n ≤ length ws) where
  pub length_stored : length (stored (decode_parts n ws ms)) ≡ 4 * n + length (marks_bytes 0 (map of_link ms))
  length_stored =
      omega (
        arith,
        length-append (rows_bytes (rows_of n ws)) (marks_bytes 0 (map of_link ms)),
        length_rows_bytes (rows_of n ws),
        count_decode
            n ws ms within,
      )

  pub stored_over : (o : List ℕ) → 4 * n ≤ length o →
      over (4 * n) (marks_bytes 0 (map of_link ms)) (over 0 (rows_bytes (rows_of n ws)) o) ≡
      at_front (stored (decode_parts n ws ms)) o
  stored_over o h =
      let l : 4 * n ≡ 0 + length (rows_bytes (rows_of n ws)) =
      omega (arith, length_rows_bytes (rows_of n ws), count_decode n ws ms within) in
      ap (λ (j : ℕ). over j (marks_bytes 0 (map of_link ms)) (over 0 (rows_bytes (rows_of n ws)) o)) l ∙
      over_over 0 (rows_bytes (rows_of n ws)) (marks_bytes 0 (map of_link ms)) o (omega arith) ∙
      ap (λ (j : ℕ). stored (decode_parts n ws ms) ++ drop j o) (zero-add (length (stored (decode_parts n ws ms))))

-- THE LENGTH: four bytes for each row and each mark
length_marks : (d : ℕ) (ms : List (Option ℕ)) → length (marks_bytes d ms) ≤ 4 * length ms
unfolding marks_bytes
length_marks d [] = omega arith
length_marks d (m ∷ ms) = omega (arith, length-append (mark_bytes d m) (marks_bytes (suc d) ms), length_mark d m, length_marks (suc d) ms)

pub stored_fits : (x : model.Table) → model.is_well x ≡ true → length (stored x) ≤ 2080
stored_fits x h =
    let w = is_well_at x h in
    omega (
      arith,
      length-append (rows_bytes x.rows) (marks_bytes 0 x.marks),
      length_rows_bytes x.rows,
      length_marks 0 x.marks,
      w.few,
      w.eight,
    )

-- WRITING a well-formed table is refused only for room
module _ (x : model.Table) (h : model.is_well x ≡ true) (o : List ℕ) (room : length (stored x) ≤ length o) where
  fits_room : length (stored (decode (encode x))) ≤ length o
  fits_room = subst (λ (y : model.Table). length (stored y) ≤ length o) (sym (decode_encode x h)) room

  pub stored_written : plan_written (encode x) o ≡ written_by 0 (length (stored x))
  stored_written =
      sym (write_fine (encode x) o (fits_encode x h) (length (stored x)) fits_room (ap (λ (y : model.Table). length (stored y)) (sym
      (decode_encode x h))))

  pub stored_out : written_out (encode x) o ≡ at_front (stored x) o
  stored_out =
      write_out (encode x) o (fits_encode x h) fits_room ∙
      ap (λ (y : model.Table). at_front (stored y) o) (decode_encode x h)

-- and 2,080 bytes are enough
module _ (x : model.Table) (h : model.is_well x ≡ true) (o : List ℕ) (room : 2080 ≤ length o) where
  stored_room : length (stored x) ≤ length o
  stored_room = omega (arith, stored_fits x h)

  pub well_written : plan_written (encode x) o ≡ written_by 0 (length (stored x))
  well_written = stored_written x h o stored_room

  pub well_out : written_out (encode x) o ≡ at_front (stored x) o
  well_out = stored_out x h o stored_room
