-- The sweep over packed rows, one mark and one row at a time, is the model's sweep.
use mathlib.Core.Path.{◌≡◌, refl, ap, sym, ◌∙◌}
use mathlib.Core.Bool.{Bool, true, false, ◌||◌, not, cond}
use mathlib.Core.List.{List, [], ◌∷◌, ◌++◌, map, map-append, append-nil}
use mathlib.Core.Option.{Option, none, some}
use Prim.Native.Nat.{ℕ, suc, ◌+◌, ◌-◌, ◌≤◌, ◌<◌}
use native.Mathlib.Omega.{arith}
use native.Mathlib.Nat.{add-zero}
use native.Mathlib.Numerals.{add-one}
use lib.Dec.{eqb}
use lib.ListN.{length, get_or, take, drop, set, replicate, length-map, get_or-map, length-set, drop_of_length-le}
use lib.Seq.{set_at, get_or_at, append_snoc, take_all, ext_get_or, length-take-le, get_or-set_same, get_or-set_other}
use borrow.Author.Tests.{ne_eqb}
use Rattle.model.specs.Base.{bit}
use Rattle.model.specs.Table as model
use Rattle.model.specs.Sweep.{is_kept, new_number, kept_before, renumbered, swept_rows, swept_marks, swept, through}
use Rattle.model.proofs.BoolLaws.{by_cases, cond_true, cond_false, or_neither, eq_cases}
use Rattle.model.proofs.ListLaws.{take_next, drop_next}
use Rattle.plan_table.specs.Packed.{link_of, of_link, pack_row, row_of, rows_of, pack_rows, decode_parts, decode, encode, link_in}
use Rattle.plan_table.specs.Packed.{link_room}
use Rattle.plan_table.specs.Packed as packed
use Rattle.plan_sweep.specs.Sweeping.{plan_swept, Flagged, keeps_row, relinked, RowPost, number_of, Sweeping, new_links}
use Rattle.plan_table.specs.declared.Table.{Table}
use Rattle.plan_table.proofs.PackedLaws.{of_link_link_of, with_link_pack_row, pack_rows_snoc, count_decode, take_rows, of_link_some}
use Rattle.plan_table.proofs.DecodeLaws.{link_low, parent_linked, parent_at, mark_row}
use Rattle.plan_table.proofs.FittedLaws.{Fits, fits_mark}
use Rattle.model.proofs.SweepLaws.{new_number_zero, new_number_suc, is_kept_unrolled, new_number_le, is_kept_marked}
use Rattle.model.proofs.SweepLaws.{is_kept_parent, length_swept_rows}
use Rattle.model.proofs.TableLaws.{any_by}
use Rattle.model.specs.Limits.{max_rows, max_links}
use Rattle.plan_table.specs.Results.{with_table}
use Rattle.model.specs.Refusal.{link_at}

-- ROWS: the start
pub sweeping_none : (ws ms ns out : List ℕ) (n : ℕ) → Flagged ms ns → out ≡ replicate max_rows 0 →
    Sweeping (decode_parts n ws ms) 0 0 ns out
unfolding swept_rows
sweeping_none ws ms ns out n f e =
    record {
      size = f.size;
      none = f.none;
      done = λ k h. absurd (omega arith);
      flags = λ k h l. f.flags k l;
      kept = sym (new_number_zero (decode_parts n ws ms));
      rows = e;
    }

-- one row more
keeps_flag : (t : Bool) (n : ℕ) → not (eqb (cond t (n + 1) 0) 0) ≡ t
keeps_flag true n = ap not (ne_eqb (n + 1) 0 (λ q. omega arith))
keeps_flag false n = refl

swept_rows_snoc : (x : model.Table) (i : ℕ) (rs : List model.Row) (r : model.Row) →
    swept_rows x i (rs ++ (r ∷ [])) ≡
    swept_rows x i rs ++ cond (is_kept x (i + length rs)) (model.with_parent r (renumbered x r.parent) ∷ []) []
unfolding swept_rows
swept_rows_snoc x i [] r =
    ap (λ (j : ℕ). cond (is_kept x j) (model.with_parent r (renumbered x r.parent) ∷ []) []) (sym (add-zero i))
swept_rows_snoc x i (q ∷ rs) r = go (is_kept x i) (swept_rows_snoc x (suc i) rs r ∙ shift)
  where
    last : ℕ → List model.Row
    last j = cond (is_kept x j) (model.with_parent r (renumbered x r.parent) ∷ []) []

    shift : swept_rows x (suc i) rs ++ last (suc i + length rs) ≡ swept_rows x (suc i) rs ++ last (i + suc (length rs))
    shift = ap (λ (j : ℕ). swept_rows x (suc i) rs ++ last j) total
      where
        total : suc i + length rs ≡ i + suc (length rs)
        total = omega arith

    go : (t : Bool) → swept_rows x (suc i) (rs ++ (r ∷ [])) ≡ swept_rows x (suc i) rs ++ last (i + suc (length rs)) →
        cond t (model.with_parent q (renumbered x q.parent) ∷ swept_rows x (suc i) (rs ++ (r ∷ []))) (swept_rows x (suc i) (rs ++ (r ∷
        []))) ≡
        cond t (model.with_parent q (renumbered x q.parent) ∷ swept_rows x (suc i) rs) (swept_rows x (suc i) rs) ++ last (i + suc (length
        rs))
    go true e = ap (λ (l : List model.Row). model.with_parent q (renumbered x q.parent) ∷ l) e
    go false e = e

-- a link's entry, where its row is done
module _ {x : model.Table} {i next : ℕ} {ns out : List ℕ} (s : Sweeping x i next ns out) where
  entry_at_lem : (l : ℕ) → (l ≡ 0 → ⊥) → l - 1 < i → get_or ns l 0 ≡ number_of x (l - 1)
  entry_at_lem l z h =
      let k : l ≡ l - 1 + 1 = omega (arith, z) in
      ap (λ (j : ℕ). get_or ns j 0) k ∙ s.done (l - 1) h

  -- of a kept row it is the new link
  link_new : (l : ℕ) → ((l ≡ 0 → ⊥) → (l - 1 < i) × (is_kept x (l - 1) ≡ true)) → get_or ns l 0 ≡ link_of (renumbered x (of_link l))
  link_new l f =
      eq_cases l 0
      (λ z. ap (λ (j : ℕ). get_or ns j 0) z ∙ s.none ∙ sym (ap (λ (j : ℕ). link_of (renumbered x (of_link j))) z))
      (λ z.
      entry_at_lem l z (f z).0 ∙ cond_true (is_kept x (l - 1)) _ 0 (f z).1 ∙
      sym (ap (λ (p : Option ℕ). link_of (renumbered x p)) (of_link_some l z)))

module _ (ws ms : List ℕ) (n i : ℕ) (fits : Fits n ws ms) (size : length ws ≡ max_rows) (low : i < n) (next : ℕ) (ns out : List ℕ)
    (s : Sweeping (decode_parts n ws ms) i next ns out) where
  abbrev x : model.Table
  x = decode_parts n ws ms

  -- the parent's link
  abbrev link : ℕ
  link = link_in (get_or ws i 0)

  within : n ≤ length ws
  within = omega (arith, size, fits.few)

  parent_some : (link ≡ 0 → ⊥) → (model.row_at x i).parent ≡ some (link - 1)
  parent_some = parent_at n ws ms within i low

  parent_lower : (p : ℕ) → (model.row_at x i).parent ≡ some p → p < i
  parent_lower p e = (fits.well.tree.parents i p e).0

  -- the parent's link and its entry are in range
  pub link_in_lem : link < max_links
  link_in_lem = omega (arith, link_low n ws ms within i low parent_lower, fits.few)

  pub entry_low : get_or ns link 0 < link_room
  entry_low = eq_cases link 0 (λ z. omega (arith, ap (λ (j : ℕ). get_or ns j 0) z, s.none)) some_low
    where
      number_low : (k : ℕ) → number_of x k ≤ k + 1
      number_low k = by_cases (is_kept x k) (λ t. rw t (omega (arith, new_number_le x k))) (λ t. rw t (omega arith))

      some_low : (link ≡ 0 → ⊥) → get_or ns link 0 < link_room
      some_low z =
          let b = parent_lower (link - 1) (parent_some z) in
          omega (arith, entry_at_lem s link z b, number_low (link - 1), fits.few)

  -- what the parent's entry says of it
  parent_kept : not (eqb (get_or ns link 0) 0) ≡ through (is_kept x) (of_link link)
  parent_kept =
      eq_cases link 0
      (λ z. ap (λ (j : ℕ). not (eqb (get_or ns j 0) 0)) z ∙ ap (λ (j : ℕ). not (eqb j 0)) s.none ∙
      sym (ap (λ (j : ℕ). through (is_kept x) (of_link j)) z))
      (λ z.
      ap (λ (j : ℕ). not (eqb j 0)) (entry_at_lem s link z (parent_lower (link - 1) (parent_some z))) ∙
      keeps_flag (is_kept x (link - 1)) (new_number x (link - 1)) ∙ sym (ap (through (is_kept x)) (of_link_some link z)))

  keeps_kept : keeps_row (get_or ws i 0) i ns ≡ is_kept x i
  keeps_kept =
      ap (λ (j : ℕ). not (eqb j 0) || not (eqb (get_or ns link 0) 0)) (s.flags i (omega arith) (omega (arith, fits.few))) ∙
      ap (λ (u : Bool). u || not (eqb (get_or ns link 0) 0)) (keeps_flag (model.is_marked x i) 0) ∙
      ap (λ (u : Bool). model.is_marked x i || u) parent_kept ∙
      ap (λ (p : Option ℕ). model.is_marked x i || through (is_kept x) p) (sym (parent_linked n ws ms within i low)) ∙
      sym (is_kept_unrolled x fits.well.tree i)

  -- a kept row's parent has its new link
  parent_new : is_kept x i ≡ true → get_or ns link 0 ≡ link_of (renumbered x (of_link link))
  parent_new k =
      link_new s link
      (λ z. let p = parent_some z in (parent_lower (link - 1) p, is_kept_parent x fits.well.tree i (link - 1) p k))

  abbrev before : List model.Row
  before = swept_rows x 0 (take i (rows_of n ws))

  abbrev row : model.Row
  row = model.with_parent (row_of (get_or ws i 0)) (renumbered x (of_link link))

  length_before : length (take i (rows_of n ws)) ≡ i
  length_before = length-take-le i (rows_of n ws) (omega (arith, count_decode n ws ms within))

  rows_kept : swept_rows x 0 (take (i + 1) (rows_of n ws)) ≡ before ++ cond (is_kept x i) (row ∷ []) []
  rows_kept =
      let k : 0 + length (take i (rows_of n ws)) ≡ i = omega (arith, length_before) in
      ap (swept_rows x 0) (take_rows i n ws within low) ∙ swept_rows_snoc x 0 (take i (rows_of n ws)) (row_of (get_or ws i 0)) ∙
      ap (λ (j : ℕ). before ++ cond (is_kept x j) (row ∷ []) []) k

  swept_length : length before ≡ next
  swept_length = length_swept_rows x 0 (take i (rows_of n ws)) ∙ ap (kept_before x 0) length_before ∙ sym s.kept

  pub next_low : next ≤ i
  next_low = omega (arith, s.kept, new_number_le x i)

  pub sweeping_next : (ns' out' : List ℕ) (r : ℕ) → RowPost (get_or ws i 0) i next ns out ns' out' r → Sweeping x (i + 1) r ns' out'
  sweeping_next ns' out' r post =
      by_cases (is_kept x i)
      (λ k. let t = keeps_kept ∙ k in
      kept k (post.numbers ∙ cond_true _ _ _ t) (post.rows ∙ cond_true _ _ _ t) (post.result ∙ cond_true _ _ _ t))
      (λ k. let t = keeps_kept ∙ k in
      dropped k (post.numbers ∙ cond_false _ _ _ t) (post.rows ∙ cond_false _ _ _ t) (post.result ∙ cond_false _ _ _ t))
    where
      counted : (t : Bool) → is_kept x i ≡ t → new_number x (i + 1) ≡ next + cond t 1 0
      counted t e =
          ap (new_number x) (add-one i) ∙ new_number_suc x i ∙ ap (λ (u : Bool). new_number x i + cond u 1 0) e ∙
          ap (λ (j : ℕ). j + cond t 1 0) (sym s.kept)

      rows_are : {v : List ℕ} (t : Bool) → is_kept x i ≡ t → v ≡ pack_rows (before ++ cond t (row ∷ []) []) →
          v ≡ pack_rows (swept_rows x 0 (take (i + 1) (rows_of n ws)))
      rows_are t k e = e ∙ ap (λ (t : Bool). pack_rows (before ++ cond t (row ∷ []) [])) (sym k) ∙ ap pack_rows (sym rows_kept)

      kept : is_kept x i ≡ true → ns' ≡ set ns (i + 1) (next + 1) → out' ≡ set out next (relinked (get_or ws i 0) ns) → r ≡ next + 1 →
          Sweeping x (i + 1) r ns' out'
      kept k e f g =
          record {
            size = ap length e ∙ length-set ns (i + 1) (next + 1) ∙ s.size;
            none = ap (λ (v : List ℕ). get_or v 0 0) e ∙ get_or-set_other ns (i + 1) 0 (next + 1) 0 (λ q. omega arith) ∙ s.none;
            done = λ j l. ap (λ (v : List ℕ). get_or v (j + 1) 0) e ∙ eq_cases j i (new j) (old j l);
            flags = λ j l u.
                ap (λ (v : List ℕ). get_or v (j + 1) 0) e ∙ get_or-set_other ns (i + 1) (j + 1) (next + 1) 0 (λ q. omega arith) ∙
                s.flags j (omega arith) u;
            kept = g ∙ sym (counted true k);
            rows = rows_are true k
                (f ∙ ap (λ (v : List ℕ). set v next packed) s.rows ∙
                ap (λ (j : ℕ). set (pack_rows before) j packed) (sym swept_length) ∙
                ap (set (pack_rows before) (length before))
                (with_link_pack_row (get_or ws i 0) (get_or ns link 0) entry_low (fits.kinds i low within) ∙
                ap (λ (p : Option ℕ). pack_row (model.with_parent (row_of (get_or ws i 0)) p))
                (ap of_link (parent_new k) ∙ of_link_link_of (renumbered x (of_link link)))) ∙
                sym (pack_rows_snoc before row (omega (arith, swept_length, next_low, fits.few))));
          }
        where
          packed : ℕ
          packed = relinked (get_or ws i 0) ns

          new : (j : ℕ) → j ≡ i → get_or (set ns (i + 1) (next + 1)) (j + 1) 0 ≡ number_of x j
          new j m =
              ap (λ (a : ℕ). get_or (set ns (i + 1) (next + 1)) (a + 1) 0) m ∙
              get_or-set_same ns (i + 1) (next + 1) 0 (omega (arith, s.size, fits.few)) ∙ ap (λ (a : ℕ). a + 1) s.kept ∙
              sym (cond_true (is_kept x i) (new_number x i + 1) 0 k) ∙ ap (number_of x) (sym m)

          old : (j : ℕ) → j < i + 1 → (j ≡ i → ⊥) → get_or (set ns (i + 1) (next + 1)) (j + 1) 0 ≡ number_of x j
          old j l z = get_or-set_other ns (i + 1) (j + 1) (next + 1) 0 (λ y. z (omega arith)) ∙ s.done j (omega (arith, z))

      dropped : is_kept x i ≡ false → ns' ≡ ns → out' ≡ out → r ≡ next → Sweeping x (i + 1) r ns' out'
      dropped k e f g =
          record {
            size = ap length e ∙ s.size;
            none = ap (λ (v : List ℕ). get_or v 0 0) e ∙ s.none;
            done = λ j l. ap (λ (v : List ℕ). get_or v (j + 1) 0) e ∙ eq_cases j i (new j) (λ z. s.done j (omega (arith, z)));
            flags = λ j l u. ap (λ (v : List ℕ). get_or v (j + 1) 0) e ∙ s.flags j (omega arith) u;
            kept = g ∙ sym (counted false k ∙ add-zero next);
            rows = rows_are false k (f ∙ s.rows ∙ ap pack_rows (sym (append-nil before)));
          }
        where
          unmarked : model.is_marked x i ≡ false
          unmarked = (or_neither (model.is_marked x i) _ (sym (is_kept_unrolled x fits.well.tree i) ∙ k)).0

          new : (j : ℕ) → j ≡ i → get_or ns (j + 1) 0 ≡ number_of x j
          new j m =
              ap (λ (a : ℕ). get_or ns (a + 1) 0) m ∙ s.flags i (omega arith) (omega (arith, fits.few)) ∙ ap bit unmarked ∙
              sym (cond_false (is_kept x i) (new_number x i + 1) 0 k) ∙ ap (number_of x) (sym m)

-- MARKS: one link more
pub links_next : (ns ms : List ℕ) (d : ℕ) → d < length ms →
    set (new_links ns (take d ms) ++ drop d ms) d (get_or ns (get_or ms d 0) 0) ≡ new_links ns (take (d + 1) ms) ++ drop (d + 1) ms
links_next ns ms d h =
    let l : length (new_links ns (take d ms)) ≡ d = length-map (take d ms) (λ (m : ℕ). get_or ns m 0) ∙
    length-take-le d ms (omega arith) in
    ap (λ (v : List ℕ). set (new_links ns (take d ms) ++ v) d (get_or ns (get_or ms d 0) 0)) (drop_next ms d 0 h) ∙
    set_at (new_links ns (take d ms)) (get_or ms d 0) (drop (d + 1) ms) (get_or ns (get_or ms d 0) 0) d l ∙
    sym (append_snoc (new_links ns (take d ms)) (get_or ns (get_or ms d 0) 0) (drop (d + 1) ms)) ∙
    ap (λ (v : List ℕ). v ++ drop (d + 1) ms) (sym (map-append (λ (m : ℕ). get_or ns m 0) (take d ms) (get_or ms d 0 ∷ []))) ∙
    ap (λ (v : List ℕ). new_links ns v ++ drop (d + 1) ms) (sym (take_next ms d 0 h))

pub links_at : (ns ms : List ℕ) (d : ℕ) → d < length ms → get_or (new_links ns (take d ms) ++ drop d ms) d 0 ≡ get_or ms d 0
links_at ns ms d h =
    let l : length (new_links ns (take d ms)) ≡ d = length-map (take d ms) (λ (m : ℕ). get_or ns m 0) ∙
    length-take-le d ms (omega arith) in
    ap (λ (v : List ℕ). get_or (new_links ns (take d ms) ++ v) d 0) (drop_next ms d 0 h) ∙
    get_or_at (new_links ns (take d ms)) (get_or ms d 0) (drop (d + 1) ms) 0 d l

pub links_end : (ns ms : List ℕ) (d : ℕ) → length ms ≤ d → new_links ns (take d ms) ++ drop d ms ≡ new_links ns ms
links_end ns ms d h =
    ap (λ (v : List ℕ). new_links ns (take d ms) ++ v) (drop_of_length-le ms h) ∙ append-nil (new_links ns (take d ms)) ∙
    ap (new_links ns) (take_all d ms h)

-- THE CALL: the rows, the marks and the count are those of the swept table
module _ (ws ms : List ℕ) (n : ℕ) (fits : Fits n ws ms) (size : length ws ≡ max_rows) (next : ℕ) (ns out : List ℕ)
    (s : Sweeping (decode_parts n ws ms) n next ns out) where
  abbrev plan : model.Table
  plan = decode_parts n ws ms

  all_within : n ≤ length ws
  all_within = omega (arith, size, fits.few)

  mark_new : (d : ℕ) → get_or ns (get_or ms d 0) 0 ≡ link_of (renumbered plan (of_link (get_or ms d 0)))
  mark_new d =
      link_new s (get_or ms d 0)
      (λ z. (
        omega (arith, fits_mark n ws ms fits all_within d, z),
        is_kept_marked plan fits.well.tree (get_or ms d 0 - 1) (any_by (get_or ms d 0 - 1) (map of_link ms) d (mark_row ms d z)),
      ))

  links_swept : new_links ns ms ≡ map link_of (swept_marks plan (map of_link ms))
  links_swept = ext_get_or 0 (new_links ns ms) (map link_of (swept_marks plan (map of_link ms))) same_length same_at
    where
      same_length : length (new_links ns ms) ≡ length (map link_of (swept_marks plan (map of_link ms)))
      same_length =
          length-map ms (λ (m : ℕ). get_or ns m 0) ∙
          sym (length-map (swept_marks plan (map of_link ms)) link_of ∙ length-map (map of_link ms) (renumbered plan) ∙
          length-map ms of_link)

      same_at : (d : ℕ) → d < length (new_links ns ms) →
          get_or (new_links ns ms) d 0 ≡ get_or (map link_of (swept_marks plan (map of_link ms))) d 0
      same_at d h =
          ap (get_or (new_links ns ms) d) (sym s.none) ∙ get_or-map (λ (m : ℕ). get_or ns m 0) ms d 0 ∙ mark_new d ∙
          sym (get_or-map link_of (swept_marks plan (map of_link ms)) d none ∙
          ap link_of (get_or-map (renumbered plan) (map of_link ms) d none ∙ ap (renumbered plan) (get_or-map of_link ms d 0)))

  rows_all : swept_rows plan 0 (take n (rows_of n ws)) ≡ swept_rows plan 0 (rows_of n ws)
  rows_all = ap (swept_rows plan 0) (take_all n (rows_of n ws) (omega (arith, count_decode n ws ms all_within)))

  kept_count : next ≡ length (swept_rows plan 0 (rows_of n ws))
  kept_count =
      s.kept ∙ sym (length_swept_rows plan 0 (rows_of n ws) ∙ ap (kept_before plan 0) (count_decode n ws ms all_within))

  pub encode_swept : (ms' : List ℕ) → ms' ≡ new_links ns ms → record { count = next; rows = out; marks = ms' } ≡ encode (swept plan)
  encode_swept ms' e = λ i. record { count = kept_count i; rows = (s.rows ∙ ap pack_rows rows_all) i; marks = (e ∙ links_swept) i }

-- refused, and swept
pub sweep_unfit : (t : Table) → packed.fits t ≡ false → with_table (link_at 0) t ≡ plan_swept t
sweep_unfit t e = rw e

pub sweep_done : (t : Table) (u : Table) → packed.fits t ≡ true → u ≡ encode (swept (decode t)) →
    record { refusal = record { number = 0; place = 0 }; table = u } ≡ plan_swept t
sweep_done t u e f = rw e (λ i. record { refusal = record { number = 0; place = 0 }; table = f i })
