-- A row survives packing, and a packed row survives decoding; so do tables. Packed rows are read, relinked, pushed and popped as
-- rows are.
use mathlib.Core.Path.{◌≡◌, refl, ap, sym, ◌∙◌}
use mathlib.Core.Bool.{Bool, true, false, cond}
use mathlib.Core.List.{List, [], ◌∷◌, ◌++◌, map, map-append}
use mathlib.Core.Option.{Option, none, some}
use Prim.Native.Nat.{ℕ, zero, suc, ◌+◌, ◌*◌, ◌-◌, ◌/◌, ◌%◌, ◌≤◌, ◌<◌}
use native.Mathlib.Omega.{arith}
use lib.Dec.{eqb}
use lib.ListN.{length, get_or, take, drop, set, replicate, length-map, length-append, length-drop, length-set}
use lib.ListN.{take-append-drop, get_or-map, get_or-append, get_or-replicate}
use lib.Seq.{append_snoc, set_at, set-append_left, set-set, set-get_or, get_or-take, get_or-append-add}
use lib.Seq.{take-take, take-set-lt, take-set-le, length-take-le}
use borrow.Author.Tests.{eq-eqb, ne_eqb, leb-true, eqb-true, eqb-false}
use Rattle.model.specs.Limits.{max_rows, max_name}
use Rattle.model.specs.Base.{is_in, all, max_byte}
use Rattle.model.specs.Table as model
use Rattle.model.specs.Stored.{parent_in, no_parent}
use Rattle.model.proofs.BoolLaws.{and_left, and_right, by_cases, cond_ne}
use Rattle.model.proofs.TestLaws.{is_in_at, is_in_by}
use Rattle.model.proofs.ListLaws.{map_set, map_back, take_next, take_set, all_get_d}
use Rattle.plan_table.specs.Packed.{element_bits, leaf_bits, link_room}
use Rattle.plan_table.specs.Packed.{link_of, of_link, pack_row, row_of, is_packed_row, with_link, is_zero, rows_of, decode_parts}
use Rattle.plan_table.specs.Packed.{pack_rows}
use Rattle.plan_table.specs.Packed.{encode, Canonical, kind_in, link_in, tag_in}

-- LINKS
pub of_link_link_of : (p : Option ℕ) → of_link (link_of p) ≡ p
of_link_link_of none = refl
of_link_link_of (some p) = rw (ne_eqb (p + 1) 0 (λ e. omega arith)) (ap some (omega arith))

pub link_of_of_link : (n : ℕ) → link_of (of_link n) ≡ n
link_of_of_link zero = refl
link_of_of_link (suc n) = rw (ne_eqb (suc n) 0 (λ e. omega arith)) (omega arith)

pub of_link_some : (l : ℕ) → (l ≡ 0 → ⊥) → of_link l ≡ some (l - 1)
of_link_some l z = cond_ne none (some (l - 1)) z

-- a stored parent that is there, and none
pub stored_some : (n : ℕ) {r : ℕ} → some r ≡ parent_in n → (n ≡ no_parent → ⊥) × (r ≡ n)
stored_some n {r} e =
    by_cases (eqb n no_parent) (λ t. let f : some r ≡ none = rw t at e in absurd (grind (arith, f)))
    (λ t. let f : some r ≡ some n = rw t at e in (eqb-false n no_parent t, grind (arith, f)))

pub stored_none : (n : ℕ) → none ≡ parent_in n → n ≡ no_parent
stored_none n e =
    by_cases (eqb n no_parent) (λ t. eqb-true n no_parent t) (λ t. let f : none ≡ some n = rw t at e in absurd (grind (arith, f)))

-- a link to a row, and to none
pub linked : (link : ℕ) {r : ℕ} → some r ≡ of_link link → (link ≡ 0 → ⊥) × (r ≡ link - 1)
linked link {r} e =
    by_cases (eqb link 0) (λ t. let f : some r ≡ none = rw t at e in absurd (grind (arith, f)))
    (λ t. let f : some r ≡ some (link - 1) = rw t at e in (eqb-false link 0 t, grind (arith, f)))

pub unlinked : (link : ℕ) → none ≡ of_link link → link ≡ 0
unlinked link e =
    by_cases (eqb link 0) (λ t. eqb-true link 0 t) (λ t. let f : none ≡ some (link - 1) = rw t at e in absurd (grind (arith, f)))

-- A ROW, packed, where there is room for its parent's link
kind_packed : (r : model.Row) → link_of r.parent < link_room → eqb (kind_in (pack_row r)) leaf_bits ≡ r.is_leaf
kind_packed r f = go r.is_leaf
  where
    go : (z : Bool) → eqb (kind_in (cond z leaf_bits element_bits + 4 * link_of r.parent + 4096 * r.tag)) leaf_bits ≡ z
    go true = eq-eqb (kind_in (leaf_bits + 4 * link_of r.parent + 4096 * r.tag)) leaf_bits (omega arith)
    go false = ne_eqb (kind_in (element_bits + 4 * link_of r.parent + 4096 * r.tag)) leaf_bits (λ e. omega arith)

tag_packed : (r : model.Row) → link_of r.parent < link_room → tag_in (pack_row r) ≡ r.tag
tag_packed r f = go r.is_leaf
  where
    go : (z : Bool) → tag_in (cond z leaf_bits element_bits + 4 * link_of r.parent + 4096 * r.tag) ≡ r.tag
    go true = omega (arith, f)
    go false = omega (arith, f)

link_packed : (r : model.Row) → link_of r.parent < link_room → link_in (pack_row r) ≡ link_of r.parent
link_packed r f = go r.is_leaf
  where
    go : (z : Bool) → link_in (cond z leaf_bits element_bits + 4 * link_of r.parent + 4096 * r.tag) ≡ link_of r.parent
    go true = omega (arith, f)
    go false = omega (arith, f)

pub row_of_pack_row : (r : model.Row) → link_of r.parent < link_room → row_of (pack_row r) ≡ r
row_of_pack_row r f =
    let p = ap of_link (link_packed r f) ∙ of_link_link_of r.parent in
    λ i. record { is_leaf = kind_packed r f i; tag = tag_packed r f i; parent = p i }

pub pack_row_row_of : (w : ℕ) → is_packed_row w ≡ true → pack_row (row_of w) ≡ w
pack_row_row_of w h =
    ap (λ (n : ℕ). cond (eqb (kind_in w) leaf_bits) leaf_bits element_bits + 4 * n + 4096 * tag_in w) (link_of_of_link (link_in w)) ∙
    by_cases (eqb (kind_in w) leaf_bits) (λ e. rw e (omega (arith, eqb-true (kind_in w) leaf_bits e)))
    (λ e. rw e (omega (arith, eqb-false (kind_in w) leaf_bits e, is_in_at element_bits leaf_bits (kind_in w) h)))

pub is_packed_row_pack_row : (r : model.Row) → is_packed_row (pack_row r) ≡ true
is_packed_row_pack_row r = go r.is_leaf
  where
    go : (z : Bool) → is_packed_row (cond z leaf_bits element_bits + 4 * link_of r.parent + 4096 * r.tag) ≡ true
    go true = is_in_by element_bits leaf_bits (kind_in (leaf_bits + 4 * link_of r.parent + 4096 * r.tag)) (omega arith) (omega arith)
    go false = is_in_by element_bits leaf_bits (kind_in (element_bits + 4 * link_of r.parent + 4096 * r.tag)) (omega arith) (omega arith)

-- a tag that fits is a byte
pub tag_byte : (w : ℕ) → model.tag_fits (row_of w) ≡ true → tag_in w < 256
tag_byte w h =
    omega (
      arith,
      by_cases (eqb (kind_in w) leaf_bits) (λ e. leb-true (tag_in w) max_byte (rw e at h))
          (λ e. (is_in_at 1 max_name (tag_in w) (rw e at h)).1),
    )

-- another link is another parent
module _ (w l : ℕ) (small : l < link_room) where
  kind_with_link : kind_in (with_link w l) ≡ kind_in w
  kind_with_link = omega arith

  pub link_in_with_link : link_in (with_link w l) ≡ l
  link_in_with_link =
      let d : with_link w l / 4 ≡ l + link_room * tag_in w = omega arith in
      let e : (l + link_room * tag_in w) % link_room ≡ l = omega arith in
      ap (λ (j : ℕ). j % link_room) d ∙ e

  pub row_of_with_link : row_of (with_link w l) ≡ model.with_parent (row_of w) (of_link l)
  row_of_with_link =
      let b : tag_in (with_link w l) ≡ tag_in w = omega arith in
      λ i. record { is_leaf = eqb (kind_with_link i) 2; tag = b i; parent = of_link (link_in_with_link i) }

  module _ (packed : is_packed_row w ≡ true) where
    is_packed_row_with_link : is_packed_row (with_link w l) ≡ true
    is_packed_row_with_link = ap (is_in element_bits leaf_bits) kind_with_link ∙ packed

    pub with_link_pack_row : with_link w l ≡ pack_row (model.with_parent (row_of w) (of_link l))
    with_link_pack_row = sym (pack_row_row_of (with_link w l) is_packed_row_with_link) ∙ ap pack_row row_of_with_link

-- TABLES: rows are counted and read off the packed ones
module _ (n : ℕ) (ws ms : List ℕ) (within : n ≤ length ws) where
  pub count_decode : model.count (decode_parts n ws ms) ≡ n
  count_decode = length-map (take n ws) row_of ∙ length-take-le n ws within

  pub row_at_decode : (p : ℕ) → p < n → model.row_at (decode_parts n ws ms) p ≡ row_of (get_or ws p 0)
  row_at_decode p h = get_or-map row_of (take n ws) p 0 ∙ ap row_of (get_or-take n ws p 0 h)

-- rows below a count, and the next one
take_map : {A B : Type 0} (f : A → B) (n : ℕ) (l : List A) → take n (map f l) ≡ map f (take n l)
take_map f zero l = refl
take_map f (suc n) [] = refl
take_map f (suc n) (x ∷ l) = ap (λ (t : List _). f x ∷ t) (take_map f n l)

pub rows_take : (i n : ℕ) (ws : List ℕ) → i ≤ n → take i (rows_of n ws) ≡ rows_of i ws
rows_take i n ws l = take_map row_of i (take n ws) ∙ ap (map row_of) (take-take i n ws l)

rows_next : (i : ℕ) (ws : List ℕ) → i < length ws → rows_of (i + 1) ws ≡ rows_of i ws ++ (row_of (get_or ws i 0) ∷ [])
rows_next i ws h = ap (map row_of) (take_next ws i 0 h) ∙ map-append row_of (take i ws) (get_or ws i 0 ∷ [])

pub take_rows : (i n : ℕ) (ws : List ℕ) → n ≤ length ws → i < n →
    take (i + 1) (rows_of n ws) ≡ take i (rows_of n ws) ++ (row_of (get_or ws i 0) ∷ [])
take_rows i n ws w h =
    rows_take (i + 1) n ws (omega arith) ∙ rows_next i ws (omega arith) ∙
    ap (λ (rs : List model.Row). rs ++ (row_of (get_or ws i 0) ∷ [])) (sym (rows_take i n ws (omega arith)))

-- a row more is one more packed
pub rows_of_push : (n : ℕ) (ws : List ℕ) (r : model.Row) → n < length ws → link_of r.parent < link_room →
    rows_of (n + 1) (set ws n (pack_row
    r)) ≡ rows_of n ws ++ (r ∷ [])
rows_of_push n ws r h f =
    ap (map row_of) (take_set ws n (pack_row r) h) ∙ map-append row_of (take n ws) (pack_row r ∷ []) ∙
    ap (λ (q : model.Row). rows_of n ws ++ (q ∷ [])) (row_of_pack_row r f)

-- CANONICAL packed rows
replicate_less : (m n : ℕ) → n < m → replicate {A = ℕ} (m - n) 0 ≡ 0 ∷ replicate (m - (n + 1)) 0
replicate_less m n h = let e : m - n ≡ suc (m - (n + 1)) = omega arith in rw e

pub pack_rows_snoc : (rs : List model.Row) (r : model.Row) → length rs < max_rows →
    pack_rows (rs ++ (r ∷ [])) ≡ set (pack_rows rs) (length rs)
    (pack_row r)
pack_rows_snoc rs r h =
    ap (λ (l : List ℕ). l ++ replicate (max_rows - length (rs ++ (r ∷ []))) 0) (map-append pack_row rs (r ∷ [])) ∙
    append_snoc (map pack_row rs) (pack_row r) (replicate (max_rows - length (rs ++ (r ∷ []))) 0) ∙
    ap (λ (n : ℕ). map pack_row rs ++ pack_row r ∷ replicate (max_rows - n) 0) (length-append rs (r ∷ [])) ∙
    sym (ap (λ (l : List ℕ). set (map pack_row rs ++ l) (length rs) (pack_row r)) (replicate_less max_rows (length rs) h) ∙
    set_at (map pack_row rs) 0 (replicate (max_rows - (length rs + 1)) 0) (pack_row r) (length rs) (length-map rs pack_row))

-- each in use is a row, packed
module _ (n : ℕ) (ws : List ℕ) (canonical : Canonical n ws) (within : n ≤ length ws) (i : ℕ) (l : i < n) where
  packed_back : pack_row (row_of (get_or ws i 0)) ≡ get_or ws i 0
  packed_back =
      let k : length (rows_of n ws) ≡ n = count_decode n ws [] within in
      let m : length (map pack_row (rows_of n ws)) ≡ n = length-map (rows_of n ws) pack_row ∙ k in
      sym (ap (λ (v : List ℕ). get_or v i 0) (sym canonical) ∙
      get_or-append (map pack_row (rows_of n ws)) (replicate (max_rows - length (rows_of n ws)) 0) 0 i (omega arith) ∙
      get_d_packed (rows_of n ws) i (omega arith) ∙ ap pack_row (row_at_decode n ws [] within i l))
    where
      get_d_packed : (rs : List model.Row) (j : ℕ) → j < length rs → get_or (map pack_row rs) j 0 ≡ pack_row (get_or rs j model.no_row)
      get_d_packed [] j h = absurd (omega arith)
      get_d_packed (r ∷ rs) zero h = refl
      get_d_packed (r ∷ rs) (suc j) h = get_d_packed rs j (omega arith)

  -- with another link it is the row's with another parent
  module _ (link : ℕ) (small : link < link_room) where
    abbrev w : ℕ
    w = with_link (get_or ws i 0) link

    pub packed_linked : is_packed_row w ≡ true
    packed_linked =
        is_packed_row_with_link (get_or ws i 0) link small
        (ap is_packed_row (sym packed_back) ∙ is_packed_row_pack_row (row_of (get_or ws i 0)))

    rows_of_linked : rows_of n (set ws i w) ≡ set (rows_of n ws) i (row_of w)
    rows_of_linked = ap (map row_of) (take-set-lt n ws i w l) ∙ map_set row_of (take n ws) i w

    pub decode_linked : (ms : List ℕ) → decode_parts n (set ws i w) ms ≡ model.linked (decode_parts n ws ms) i (of_link link)
    decode_linked ms =
        ap (λ (rs : List model.Row). model.table rs (map of_link ms))
        (rows_of_linked ∙
        ap (set (rows_of n ws) i)
        (row_of_with_link (get_or ws i 0) link small ∙
        ap (λ (r : model.Row). model.with_parent r (of_link link)) (sym (row_at_decode n ws ms within i l))))

    pub canonical_linked : Canonical n (set ws i w)
    canonical_linked =
        let k : length (rows_of n ws) ≡ n = count_decode n ws [] within in
        let m : length (map pack_row (rows_of n ws)) ≡ n = length-map (rows_of n ws) pack_row ∙ k in
        ap pack_rows rows_of_linked ∙
        ap (λ (v : List ℕ). v ++ replicate (max_rows - length (set (rows_of n ws) i (row_of w))) 0)
        (map_set pack_row (rows_of n ws) i (row_of w) ∙ ap (set (map pack_row (rows_of n ws)) i) (pack_row_row_of w packed_linked)) ∙
        ap (λ (j : ℕ). set (map pack_row (rows_of n ws)) i w ++ replicate (max_rows - j) 0) (length-set (rows_of n ws) i (row_of w)) ∙
        sym (set-append_left (map pack_row (rows_of n ws)) (replicate (max_rows - length (rows_of n ws)) 0) i w (omega arith)) ∙
        ap (λ (v : List ℕ). set v i w) canonical

pub canonical_push : (n : ℕ) (ws : List ℕ) (r : model.Row) → n < max_rows → length ws ≡ max_rows → link_of r.parent < link_room →
    Canonical n ws →
    Canonical (n + 1) (set ws n (pack_row r))
canonical_push n ws r h l f e =
    let m : length (rows_of n ws) ≡ n = count_decode n ws [] (omega arith) in
    let k : n < length ws = omega arith in
    let g : length (rows_of n ws) < max_rows = omega arith in
    ap pack_rows (rows_of_push n ws r k f) ∙ pack_rows_snoc (rows_of n ws) r g ∙
    ap (λ (i : ℕ). set (pack_rows (rows_of n ws)) i (pack_row r)) m ∙ ap (λ (v : List ℕ). set v n (pack_row r)) e

-- the last row gone, its place is zero
module _ (n : ℕ) (ws : List ℕ) (canonical : Canonical n ws) (size : length ws ≡ max_rows) (few : n ≤ max_rows) (some-row : 0 < n) where
  abbrev less : List model.Row
  less = rows_of (n - 1) ws

  rows_less : rows_of (n - 1) (set ws (n - 1) 0) ≡ less
  rows_less = ap (map row_of) (take-set-le (n - 1) ws (n - 1) 0 (omega arith))

  counted_less : length less ≡ n - 1
  counted_less = count_decode (n - 1) ws [] (omega arith)

  rows_last : rows_of n ws ≡ less ++ (row_of (get_or ws (n - 1) 0) ∷ [])
  rows_last =
      let e : n ≡ n - 1 + 1 = omega arith in
      ap (λ (j : ℕ). rows_of j ws) e ∙ rows_next (n - 1) ws (omega arith)

  zero_there : get_or (pack_rows less) (n - 1) 0 ≡ 0
  zero_there =
      let m : length (map pack_row less) + 0 ≡ n - 1 = omega (arith, length-map less pack_row, counted_less) in
      ap (λ (j : ℕ). get_or (pack_rows less) j 0) (sym m) ∙
      get_or-append-add (map pack_row less) (replicate (max_rows - length less) 0) 0 0 ∙
      get_or-replicate (max_rows - length less) 0 0 0 (omega (arith, counted_less))

  put_back : set (pack_rows less) (n - 1) (pack_row (row_of (get_or ws (n - 1) 0))) ≡ ws
  put_back =
      ap (λ (j : ℕ). set (pack_rows less) j (pack_row (row_of (get_or ws (n - 1) 0)))) (sym counted_less) ∙
      sym (pack_rows_snoc less (row_of (get_or ws (n - 1) 0)) (omega (arith, counted_less))) ∙ ap pack_rows (sym rows_last) ∙ canonical

  pub canonical_pop : Canonical (n - 1) (set ws (n - 1) 0)
  canonical_pop =
      ap pack_rows rows_less ∙ sym (set-get_or (pack_rows less) (n - 1) 0) ∙ ap (set (pack_rows less) (n - 1)) zero_there ∙
      sym (set-set (pack_rows less) (n - 1) (pack_row (row_of (get_or ws (n - 1) 0))) 0) ∙ ap (λ (v : List ℕ). set v (n - 1) 0) put_back

  pub decode_pop : (ms : List ℕ) →
      decode_parts (n - 1) (set ws (n - 1) 0) ms ≡
      model.table (take (model.count (decode_parts n ws ms) - 1) (rows_of n ws)) (map of_link ms)
  decode_pop ms =
      let e : model.count (decode_parts n ws ms) - 1 ≡ n - 1 = omega (arith, count_decode n ws ms (omega arith)) in
      ap (λ (rs : List model.Row). model.table rs (map of_link ms))
      (rows_less ∙ sym (ap (λ (j : ℕ). take j (rows_of n ws)) e ∙ rows_take (n - 1) n ws (omega arith)))

-- packed rows with zeros behind them are canonical
zeros : (ws : List ℕ) → all is_zero ws ≡ true → ws ≡ replicate (length ws) 0
unfolding all
zeros [] h = refl
zeros (w ∷ ws) h =
    ap (λ (v : ℕ). v ∷ ws) (eqb-true w 0 (and_left (is_zero w) (all is_zero ws) h)) ∙
    ap (λ (l : List ℕ). 0 ∷ l) (zeros ws (and_right (is_zero w) (all is_zero ws) h))

pub canonical_packed : (n : ℕ) (ws : List ℕ) → n ≤ max_rows → length ws ≡ max_rows → all is_packed_row (take n ws) ≡ true →
    all is_zero (drop n ws) ≡
    true → Canonical n ws
canonical_packed n ws h l f e =
    let m : length (rows_of n ws) ≡ n = count_decode n ws [] (omega arith) in
    let k : max_rows - length (rows_of n ws) ≡ length (drop n ws) = omega (arith, length-drop n ws) in
    ap (λ (v : List ℕ). v ++ replicate (max_rows - length (rows_of n ws)) 0)
    (map_back row_of pack_row (take n ws) 0 (λ k b. pack_row_row_of _ (all_get_d is_packed_row (take n ws) 0 f k b))) ∙
    ap (λ (j : ℕ). take n ws ++ replicate j 0) k ∙ ap (λ (v : List ℕ). take n ws ++ v) (sym (zeros (drop n ws) e)) ∙ take-append-drop n ws

pub encode_decode : (n : ℕ) (ws ms : List ℕ) → n ≤ length ws → Canonical n ws →
    encode (decode_parts n ws ms) ≡ record { count = n; rows = ws; marks = ms }
encode_decode n ws ms h e =
    λ i. record { count = count_decode n ws ms h i; rows = e i; marks = map_back of_link link_of ms 0 (λ k b. link_of_of_link _) i }
