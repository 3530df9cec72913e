-- What a table that fits has: few rows, packed rows in use, zeros past them, tags and marks in range.
use mathlib.Core.Path.{◌≡◌, ap, sym, ◌∙◌}
use mathlib.Core.Bool.{true, ◌&&◌}
use mathlib.Core.List.{List}
use Prim.Native.Nat.{ℕ, ◌-◌, ◌≤◌, ◌<◌}
use native.Mathlib.Omega.{arith}
use lib.Dec.{leb}
use lib.ListN.{length, get_or, take, drop}
use lib.Seq.{get_or-take, length-take-le}
use borrow.Author.Tests.{leb-true}
use Rattle.model.specs.Limits.{max_rows}
use Rattle.model.specs.Base.{all}
use Rattle.model.specs.Table as model
use Rattle.model.proofs.BoolLaws.{and_left, and_right, eq_cases}
use Rattle.model.proofs.ListLaws.{all_get_d}
use Rattle.model.proofs.TableLaws.{Well, is_well_at}
use Rattle.plan_table.specs.Packed.{byte_tags, is_packed_row, is_zero, decode, decode_parts, Canonical, parts_fit, fits}
use Rattle.plan_table.specs.declared.Table.{Table}
use Rattle.plan_table.proofs.PackedLaws.{count_decode, row_at_decode, tag_byte, canonical_packed}
use Rattle.plan_table.proofs.DecodeLaws.{mark_row}

-- WHAT FITS: the count, the packed rows in use and past it, and the table decoded
pub record Fits (n : ℕ) (ws ms : List ℕ) : Type 0 where
  pub few : n ≤ max_rows
  pub kinds : (k : ℕ) → k < n → n ≤ length ws → is_packed_row (get_or ws k 0) ≡ true
  pub canonical : length ws ≡ max_rows → Canonical n ws
  pub well : Well (decode_parts n ws ms)

-- what fits stands for a well-formed table
pub well_decode : (t : Table) → fits t ≡ true → model.is_well (decode t) ≡ true
well_decode t e =
    and_right (leb t.count max_rows && all is_packed_row (take t.count t.rows) && all is_zero (drop t.count t.rows))
    (model.is_well (decode t)) e

pub fits_at : (n : ℕ) (ws ms : List ℕ) → parts_fit n ws ms ≡ true → Fits n ws ms
fits_at n ws ms h =
    let a = leb n max_rows in
    let b = all is_packed_row (take n ws) in
    let c = all is_zero (drop n ws) in
    let d = model.is_well (decode_parts n ws ms) in
    let e : (a && b && c) ≡ true = and_left (a && b && c) d h in
    let f : (a && b) ≡ true = and_left (a && b) c e in
    let g : n ≤ max_rows = leb-true n max_rows (and_left a b f) in
    record {
      few = g;
      kinds = λ k l w.
          ap is_packed_row (sym (get_or-take n ws k 0 l)) ∙ all_get_d is_packed_row (take n ws) 0 (and_right a b f) k (omega (
            arith,
            length-take-le n
                ws w,
          ));
      canonical = λ l. canonical_packed n ws g l (and_right a b f) (and_right (a && b) c e);
      well = is_well_at (decode_parts n ws ms) (and_right (a && b && c) d h);
    }

-- tags are bytes
pub fits_tag : (n : ℕ) (ws ms : List ℕ) → Fits n ws ms → n ≤ length ws → (k : ℕ) → k < n → get_or ws k 0 < byte_tags
fits_tag n ws ms f w k h =
    omega (
      arith,
      tag_byte (get_or ws k 0)
          (ap model.tag_fits (sym (row_at_decode n ws ms w k h)) ∙ f.well.tree.tags k (omega (arith, count_decode n ws ms w))),
    )

-- a mark's link is at most the count
pub fits_mark : (n : ℕ) (ws ms : List ℕ) → Fits n ws ms → n ≤ length ws → (d : ℕ) → get_or ms d 0 ≤ n
fits_mark n ws ms f w d =
    eq_cases (get_or ms d 0) 0 (λ z. omega (arith, z))
    (λ z. omega (arith, (f.well.tree.roots d (get_or ms d 0 - 1) (mark_row ms d z)).0, count_decode n ws ms w))
