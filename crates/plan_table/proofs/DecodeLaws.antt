-- What the table decoded from packed rows has: its elements, parents and marks; one mark or one row more.
use mathlib.Core.Path.{◌≡◌, refl, ap, sym, ◌∙◌}
use mathlib.Core.Bool.{Bool, true, ◌&&◌, ◌||◌, not}
use mathlib.Core.List.{List, [], ◌∷◌, ◌++◌, map, map-append}
use mathlib.Core.Option.{some, none}
use Prim.Native.Nat.{ℕ, ◌+◌, ◌-◌, ◌≤◌, ◌<◌}
use native.Mathlib.Omega.{arith}
use lib.Dec.{ltb, eqb}
use lib.ListN.{length, get_or, set, get_or-map}
use borrow.Author.Tests.{lt-ltb, ltb-true, ne_eqb}
use Rattle.std.specs.List.{list_any}
use Rattle.model.specs.Base.{any}
use Rattle.model.specs.Table as model
use Rattle.model.specs.Stored.{number_bytes, parent_bytes, no_parent}
use Rattle.model.proofs.BoolLaws.{and_left, by_cases, eq_cases, eqb_iff}
use Rattle.plan_table.specs.Packed.{link_of, of_link, pack_row, rows_of, decode_parts, kind_in, link_in, leaf_bits, link_room}
use Rattle.plan_table.specs.Fitting.{is_element_below, is_root_below}
use Rattle.plan_table.proofs.PackedLaws.{of_link_link_of, count_decode, row_at_decode, rows_of_push, of_link_some}
use Rattle.model.proofs.ListLaws.{map_set, any_snoc}

-- an element below a bound is below it
pub below_bound : (ws : List ℕ) (n p : ℕ) → is_element_below ws n p ≡ true → p < n
below_bound ws n p e = ltb-true p n (and_left _ _ e)

-- whether a row of the table is an element, a lower one than row i, one without parent, from its packed row
module _ (n : ℕ) (ws ms : List ℕ) (within : n ≤ length ws) (p : ℕ) where
  pub element_kind : p < n → model.is_element (decode_parts n ws ms) p ≡ not (eqb (kind_in (get_or ws p 0)) leaf_bits)
  element_kind h =
      let k : p < model.count (decode_parts n ws ms) = omega (arith, count_decode n ws ms within) in
      rw (lt-ltb p (model.count (decode_parts n ws ms)) k, row_at_decode n ws ms within p h)

  pub element_below : (i : ℕ) → i ≤ n → model.is_lower_element (decode_parts n ws ms) i p ≡ is_element_below ws i p
  element_below i h = by_cases (ltb p i) (λ e. rw e (element_kind (omega (arith, ltb-true p i e)))) (λ e. rw e)

  pub root_below : model.mark_fits (decode_parts n ws ms) (some p) ≡ is_root_below ws n p
  root_below =
      by_cases (ltb p n)
      (λ e.
      let k : p < n = ltb-true p n e in
      rw (element_kind k, e, row_at_decode n ws ms within p k)
      (ap (λ (t : Bool). not (eqb (kind_in (get_or ws p 0)) leaf_bits) && t) (root (link_in (get_or ws p 0)))))
      (λ e. rw (count_decode n ws ms within, e))
    where
      root : (l : ℕ) → not (model.has_parent (of_link l)) ≡ eqb l 0
      root l = by_cases (eqb l 0) (λ t. rw t) (λ t. rw t)

-- a row's parent, from the link in its packed row
module _ (n : ℕ) (ws ms : List ℕ) (within : n ≤ length ws) (i : ℕ) (h : i < n) where
  pub parent_linked : (model.row_at (decode_parts n ws ms) i).parent ≡ of_link (link_in (get_or ws i 0))
  parent_linked = ap (λ (r : model.Row). r.parent) (row_at_decode n ws ms within i h)

  pub parent_at : (link_in (get_or ws i 0) ≡ 0 → ⊥) → (model.row_at (decode_parts n ws ms) i).parent ≡ some (link_in (get_or ws i 0) - 1)
  parent_at z = parent_linked ∙ of_link_some (link_in (get_or ws i 0)) z

  -- a lower parent's link is at most the row's number
  pub link_low : ((p : ℕ) → (model.row_at (decode_parts n ws ms) i).parent ≡ some p → p < i) → link_in (get_or ws i 0) ≤ i
  link_low lower =
      eq_cases (link_in (get_or ws i 0)) 0 (λ e. omega (arith, e))
      (λ e. omega (arith, lower (link_in (get_or ws i 0) - 1) (parent_at e)))

-- the row that a document marks
pub mark_row : (ms : List ℕ) (d : ℕ) → (get_or ms d 0 ≡ 0 → ⊥) → get_or (map of_link ms) d none ≡ some (get_or ms d 0 - 1)
mark_row ms d z = get_or-map of_link ms d 0 ∙ of_link_some (get_or ms d 0) z

-- whether a row is marked, one mark after another
pub is_the_linked : (k m : ℕ) → model.is_the k (of_link m) ≡ eqb m (k + 1)
is_the_linked k m =
    eq_cases m 0 (λ e. rw e (sym (ne_eqb 0 (k + 1) (λ q. omega arith))))
    (λ z. ap (model.is_the k) (of_link_some m z) ∙ eqb_iff (m - 1) k m (k + 1) (λ e. omega (arith, z)) (λ e. omega arith))

pub marked_listed : (ms : List ℕ) (k : ℕ) → list_any (λ m. eqb m (k + 1)) ms ≡ any (model.is_the k) (map of_link ms)
unfolding any
marked_listed [] k = refl
marked_listed (m ∷ ms) k =
    rw (is_the_linked k m) (ap (λ (t : Bool). eqb m (k + 1) || t) (marked_listed ms k))

pub marked_snoc : (ms : List ℕ) (m k : ℕ) →
    any (model.is_the k) (map of_link (ms ++ (m ∷ []))) ≡ (any (model.is_the k) (map of_link ms) || eqb m (k + 1))
marked_snoc ms m k =
    ap (any (model.is_the k)) (map-append of_link ms (m ∷ [])) ∙ any_snoc (model.is_the k) (map of_link ms) (of_link m) ∙
    ap (λ (t : Bool). any (model.is_the k) (map of_link ms) || t) (is_the_linked k m)

-- the table with a mark more, and with a row more
pub decode_mark : (n d i : ℕ) (ws ms : List ℕ) → decode_parts n ws (set ms d (i + 1)) ≡ model.with_mark (decode_parts n ws ms) d i
decode_mark n d i ws ms =
    ap (model.table (rows_of n ws)) (map_set of_link ms d (i + 1) ∙ ap (set (map of_link ms) d) (of_link_link_of (some i)))

pub decode_row : (n : ℕ) (r : model.Row) (ws ms : List ℕ) → n < length ws → link_of r.parent < link_room →
    decode_parts (n + 1) (set ws n (pack_row r)) ms ≡ model.with_row (decode_parts n ws ms) r
decode_row n r ws ms h f = ap (λ (rs : List model.Row). model.table rs (map of_link ms)) (rows_of_push n ws r h f)

-- the number stored for the parent with a link
pub parent_none : (l : ℕ) → l ≡ 0 → number_bytes no_parent ≡ parent_bytes (of_link l)
parent_none l h = rw h

pub parent_some : (l : ℕ) → (l ≡ 0 → ⊥) → number_bytes (l - 1) ≡ parent_bytes (of_link l)
parent_some l h = rw (ne_eqb l 0 h)
