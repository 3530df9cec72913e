-- A well-formed table survives packing: encoded it fits, and decoded it is itself.
use mathlib.Core.Path.{◌≡◌, refl, ap, ◌∙◌}
use mathlib.Core.Bool.{true}
use mathlib.Core.List.{List, [], ◌∷◌, map}
use mathlib.Core.Option.{Option, none, some}
use Prim.Native.Nat.{ℕ, zero, suc, ◌-◌, ◌<◌}
use native.Mathlib.Omega.{arith}
use lib.ListN.{length, take, drop, replicate, length-map}
use lib.Seq.{take_at, drop_at}
use borrow.Author.Tests.{le-leb}
use Rattle.model.specs.Limits.{max_rows}
use Rattle.model.specs.Base.{all}
use Rattle.model.specs.Table as model
use Rattle.model.proofs.BoolLaws.{and_both}
use Rattle.model.proofs.ListLaws.{map_back}
use Rattle.model.proofs.TableLaws.{Well, is_well_at, parent_count}
use Rattle.plan_table.specs.Packed.{link_of, of_link, pack_row, row_of, is_packed_row, is_zero, pack_rows, encode, decode, fits, link_room}
use Rattle.plan_table.proofs.PackedLaws.{of_link_link_of, row_of_pack_row, is_packed_row_pack_row}

-- every parent's link fits its 10 bits
well_links : (x : model.Table) → Well x → (k : ℕ) → link_of (model.row_at x k).parent < link_room
well_links x w k = go (model.row_at x k).parent refl
  where
    go : (p : Option ℕ) → (model.row_at x k).parent ≡ p → link_of p < link_room
    go none e = omega arith
    go (some p) e = omega (arith, (w.tree.parents k p e).0, w.few, parent_count x k p e)

-- ROWS AND MARKS come back
front : (rs : List model.Row) → take (length rs) (pack_rows rs) ≡ map pack_row rs
front rs = take_at (map pack_row rs) (replicate (max_rows - length rs) 0) (length rs) (length-map rs pack_row)

behind : (rs : List model.Row) → drop (length rs) (pack_rows rs) ≡ replicate (max_rows - length rs) 0
behind rs = drop_at (map pack_row rs) (replicate (max_rows - length rs) 0) (length rs) (length-map rs pack_row)

pub decode_encode : (x : model.Table) → model.is_well x ≡ true → decode (encode x) ≡ x
decode_encode x h =
    ap (λ (l : List ℕ). model.table (map row_of l) (map of_link (map link_of x.marks))) (front x.rows) ∙
    ap (λ (l : List model.Row). model.table l (map of_link (map link_of x.marks)))
    (map_back pack_row row_of x.rows model.no_row (λ k b. row_of_pack_row _ (well_links x (is_well_at x h) k))) ∙
    ap (model.table x.rows) (map_back link_of of_link x.marks none (λ k b. of_link_link_of _))

-- ROWS, once packed, pass the test of packed rows, and the rest is zero
rows_packed : (rs : List model.Row) → all is_packed_row (map pack_row rs) ≡ true
unfolding all
rows_packed [] = refl
rows_packed (r ∷ rs) = and_both _ _ (is_packed_row_pack_row r) (rows_packed rs)

zeros : (n : ℕ) → all is_zero (replicate n 0) ≡ true
unfolding all
zeros zero = refl
zeros (suc n) = zeros n

pub fits_encode : (x : model.Table) → model.is_well x ≡ true → fits (encode x) ≡ true
fits_encode x h =
    and_both _ _
    (and_both _ _ (and_both _ _ (le-leb _ _ (is_well_at x h).few) (ap (all is_packed_row) (front x.rows) ∙ rows_packed x.rows))
    (ap (all is_zero) (behind x.rows) ∙ zeros (max_rows - length x.rows)))
    (ap model.is_well (decode_encode x h) ∙ h)
