-- One row more of a pass over the rows, down or up, and the whole pass.
use mathlib.Core.Path.{◌≡◌, refl, ap, sym, ◌∙◌, subst}
use mathlib.Core.Bool.{Bool, true, false, ◌&&◌, ◌||◌, not, and-false, or-false, or-true}
use mathlib.Core.List.{List, [], Memᴰ as In}
use mathlib.Core.Option.{Option, none, some}
use Prim.Native.Nat.{ℕ, suc, ◌+◌, ◌-◌, ◌≤◌, ◌<◌}
use native.Mathlib.Omega.{arith}
use native.Mathlib.Numerals.{add-one}
use lib.Dec.{eqb}
use lib.ListN.{length, get_or, set, replicate, length-set, get_or-replicate}
use lib.Seq.{get_or-set_same, get_or-set_other}
use borrow.Author.Tests.{eqb-true, eqb-false}
use Rattle.model.specs.Base.{among, bit}
use Rattle.model.specs.Table as model
use Rattle.model.specs.Sweep.{through}
use Rattle.model.specs.Step.{parent_is, reaches}
use Rattle.model.proofs.BoolLaws.{by_cases, cond_true, cond_false, cond_cases, eq_cases}
use Rattle.model.proofs.ListLaws.{any_in, in_among}
use Rattle.model.specs.Limits.{max_rows, max_links}
use Rattle.plan_table.specs.Packed.{of_link, decode_parts, link_in}
use Rattle.plan_table.proofs.PackedLaws.{count_decode, of_link_some}
use Rattle.plan_table.proofs.DecodeLaws.{parent_linked, link_low, is_the_linked}
use Rattle.run_query.specs.Stepping.{Flagged, ClearBelow, counted, marked_by, climbed, RowsHeld, Reached}
use Rattle.run_query.proofs.ReachLaws.{any_from, up_to, child_counts, down_to, counts_down, down_parent, down_higher, up_children}

-- THE PASSES so far: down to a row, where the rows passed have the flags of what counts, and up from one
pub record Descending (ws : List ℕ) (n : ℕ) (d : Bool) (fs : List ℕ) (j : ℕ) (gs : List ℕ) : Type 0 where
  pub size : length gs ≡ max_links
  pub none : get_or gs 0 0 ≡ get_or fs 0 0
  pub done : (ms v : List ℕ) → Flagged v fs → (k : ℕ) → k < j → get_or gs (k + 1) 0 ≡ bit (counts_down (decode_parts n ws ms) d v k)
  pub rest : (k : ℕ) → j ≤ k → get_or gs (k + 1) 0 ≡ get_or fs (k + 1) 0

pub record Climbing (ws : List ℕ) (n : ℕ) (d : Bool) (fs : List ℕ) (t : ℕ) (rs : List ℕ) : Type 0 where
  pub size : length rs ≡ max_links
  pub flags : (ms v : List ℕ) → Flagged v fs → (j : ℕ) → j < max_rows →
      get_or rs (j + 1) 0 ≡ bit (any_from (child_counts (decode_parts n ws ms) d v j) t (n - t))

pub not_zero : (t : Bool) → not (eqb (bit t) 0) ≡ t
not_zero true = refl
not_zero false = refl

counted_bits : (a b d : Bool) → counted (bit a) (bit b) d ≡ (a || (d && b))
counted_bits a b d = ap (λ (t : Bool). t || (d && not (eqb (bit b) 0))) (not_zero a) ∙ ap (λ (t : Bool). a || (d && t)) (not_zero b)

-- no row below a bound has a flag: none has any at first, and one flag more
pub clear_none : (n : ℕ) (fs : List ℕ) → n ≤ max_rows → fs ≡ replicate max_links 0 → ClearBelow n n fs
clear_none n fs h e =
    record {
      few = omega arith;
      clear = λ k l. ap (λ (v : List ℕ). get_or v (k + 1) 0) e ∙ get_or-replicate max_links (k + 1) 0 0 (omega arith);
    }

pub clear_next : {n low : ℕ} {fs : List ℕ} → ClearBelow n low fs → (at low' : ℕ) → low' ≤ low → low' ≤ at →
    ClearBelow n low' (set fs (at + 1) 1)
clear_next {n} {low} {fs} c at low' a b =
    record {
      few = omega (arith, c.few);
      clear = λ k l. get_or-set_other fs (at + 1) (k + 1) 1 0 (λ z. omega arith) ∙ c.clear k (omega arith);
    }

module _ (ws : List ℕ) (n : ℕ) (held : RowsHeld ws n) where
  pub within : n ≤ length ws
  within = omega (arith, held.rows, held.few)

  -- the link in a packed row below the count
  pub link_below : (j : ℕ) → j < n → link_in (get_or ws j 0) ≤ j
  link_below j h = link_low n ws [] within j h (held.lower j)

  pub link_in_lem : (j : ℕ) → j < n → link_in (get_or ws j 0) < max_links
  link_in_lem j h = omega (arith, link_below j h, held.few)

  -- a row's parent, by its link
  pub parent_is_lem : (ms : List ℕ) (j k : ℕ) → k < n → parent_is (decode_parts n ws ms) j k ≡ eqb (link_in (get_or ws k 0)) (j + 1)
  parent_is_lem ms j k h = ap (model.is_the j) (parent_linked n ws ms within k h) ∙ is_the_linked j (link_in (get_or ws k 0))

  module _ (d : Bool) (fs : List ℕ) where
    -- DOWN
    -- no row up to the first flag is reached
    pub nothing_down : (low : ℕ) → ClearBelow n low fs → (ms v : List ℕ) → Flagged v fs → (k : ℕ) → k < low →
        down_to (decode_parts n ws ms) d v k ≡ false
    nothing_down low c ms v f k h =
        by_cases (down_to (decode_parts n ws ms) d v k)
        (λ e. absurd (from_item (any_in (λ (i : ℕ). reaches (decode_parts n ws ms) (bit d) i k) v e))) (λ e. e)
      where
        from_item : (i : ℕ) × In i v × (reaches (decode_parts n ws ms) (bit d) i k ≡ true) → ⊥
        from_item (i, m, e) =
            let l = down_higher (decode_parts n ws ms) held.lower d i k e in
            let one : get_or fs (i + 1) 0 ≡ 1 = f.flags i (omega (arith, c.few, held.few)) ∙ ap bit (in_among m) in
            omega (arith, one, c.clear i (omega arith))

    pub descending_none : (low : ℕ) → ClearBelow n low fs → length fs ≡ max_links → Descending ws n d fs low fs
    descending_none low c size =
        record {
          size = size;
          none = refl;
          done = λ ms v f k h.
              f.flags k (omega (arith, c.few, held.few)) ∙ ap bit (sym (or-false (among k v)) ∙
              ap (λ (t : Bool). among k v || t) (sym (and-false d) ∙ ap (λ (t : Bool). d && t) (sym (nothing_down low c ms v f k h))));
          rest = λ k h. refl;
        }

    module _ (j : ℕ) (h : j < n) (gs : List ℕ) (s : Descending ws n d fs j gs) where
      -- the flag of a row's parent says whether the row is reached
      pub above_is : (ms v : List ℕ) → Flagged v fs → get_or gs (link_in (get_or ws j 0)) 0 ≡ bit (down_to (decode_parts n ws ms) d v j)
      above_is ms v f = eq_cases l 0 no_parent a_parent
        where
          l : ℕ
          l = link_in (get_or ws j 0)

          by_parent : (q : Option ℕ) → of_link l ≡ q → down_to (decode_parts n ws ms) d v j ≡ through
              (counts_down (decode_parts n ws ms) d v) q
          by_parent q e =
              down_parent (decode_parts n ws ms) held.lower d v j ∙
              ap (through (counts_down (decode_parts n ws ms) d v)) (parent_linked n ws ms within j h ∙ e)

          no_parent : l ≡ 0 → get_or gs l 0 ≡ bit (down_to (decode_parts n ws ms) d v j)
          no_parent z =
              ap (λ (a : ℕ). get_or gs a 0) z ∙ s.none ∙ f.none ∙ ap bit (sym (by_parent none (ap of_link z)))

          a_parent : (l ≡ 0 → ⊥) → get_or gs l 0 ≡ bit (down_to (decode_parts n ws ms) d v j)
          a_parent z =
              let low : l - 1 < j = omega (arith, link_below j h, z) in
              let k : l ≡ l - 1 + 1 = omega (arith, z) in
              ap (λ (a : ℕ). get_or gs a 0) k ∙ s.done ms v f (l - 1) low ∙ ap bit (sym (by_parent (some (l - 1)) (of_link_some l z)))

      -- whether the row counts by its parent's flag, and what it then counts as
      counts_down_lem : (ms v : List ℕ) → Flagged v fs → (t : Bool) → counted 0 (get_or gs (link_in (get_or ws j 0)) 0) d ≡ t →
          counts_down (decode_parts n ws ms) d v j ≡ (among j v || t)
      counts_down_lem ms v f t e =
          ap (λ (u : Bool). among j v || u)
          (sym (ap (λ (a : ℕ). counted 0 a d) (above_is ms v f) ∙ counted_bits false (down_to (decode_parts n ws ms) d v j) d) ∙ e)

      pub descending_next : (l : ℕ) → l ≡ link_in (get_or ws j 0) → Descending ws n d fs (j + 1) (marked_by gs j (get_or gs l 0) d)
      descending_next l q =
          subst (λ (a : ℕ). Descending ws n d fs (j + 1) (marked_by gs j (get_or gs a 0) d)) (sym q)
          (cond_cases (Descending ws n d fs (j + 1)) (counted 0 (get_or gs (link_in (get_or ws j 0)) 0) d) counting not_counting)
        where
          counting : counted 0 (get_or gs (link_in (get_or ws j 0)) 0) d ≡ true → Descending ws n d fs (j + 1) (set gs (j + 1) 1)
          counting e =
              record {
                size = length-set gs (j + 1) 1 ∙ s.size;
                none = get_or-set_other gs (j + 1) 0 1 0 (λ y. omega arith) ∙ s.none;
                done = λ ms v f k b.
                    eq_cases k j
                    (λ y. ap (λ (a : ℕ). get_or (set gs (j + 1) 1) (a + 1) 0) y ∙
                    get_or-set_same gs (j + 1) 1 0 (omega (arith, s.size, held.few)) ∙
                    ap bit (sym (counts_down_lem ms v f true e ∙ or-true (among j v))) ∙
                    ap (λ (a : ℕ). bit (counts_down (decode_parts n ws ms) d v a)) (sym y))
                    (λ y. get_or-set_other gs (j + 1) (k + 1) 1 0 (λ z. y (omega arith)) ∙ s.done ms v f k (omega (arith, y)));
                rest = λ k b. get_or-set_other gs (j + 1) (k + 1) 1 0 (λ z. omega arith) ∙ s.rest k (omega arith);
              }

          not_counting : counted 0 (get_or gs (link_in (get_or ws j 0)) 0) d ≡ false → Descending ws n d fs (j + 1) gs
          not_counting e =
              record {
                size = s.size;
                none = s.none;
                done = λ ms v f k b.
                    eq_cases k j
                    (λ y. ap (λ (a : ℕ). get_or gs (a + 1) 0) y ∙ s.rest j (omega arith) ∙ f.flags j (omega (arith, held.few)) ∙
                    ap bit (sym (counts_down_lem ms v f false e ∙ or-false (among j v))) ∙
                    ap (λ (a : ℕ). bit (counts_down (decode_parts n ws ms) d v a)) (sym y))
                    (λ y. s.done ms v f k (omega (arith, y)));
                rest = λ k b. s.rest k (omega arith);
              }

    -- UP
    pub climbing_none : (rs : List ℕ) → rs ≡ replicate max_links 0 → Climbing ws n d fs n rs
    unfolding any_from
    climbing_none rs e =
        record {
          size = ap length e;
          flags = λ ms v f j h.
              ap (λ (l : List ℕ). get_or l (j + 1) 0) e ∙ get_or-replicate max_links (j + 1) 0 0 (omega arith) ∙
              ap (λ (a : ℕ). bit (any_from (child_counts (decode_parts n ws ms) d v j) n a)) (nothing);
        }
      where
        nothing : 0 ≡ n - n
        nothing = omega arith

    module _ (k : ℕ) (h : k < n) (rs : List ℕ) (s : Climbing ws n d fs (k + 1) rs) where
      up_all : (ms v : List ℕ) (j t : ℕ) → t ≤ j + 1 →
          up_to (decode_parts n ws ms) d v j ≡ any_from (child_counts (decode_parts n ws ms) d v j) t (n - t)
      up_all ms v j t l =
          up_children (decode_parts n ws ms) held.lower d v j t l ∙
          ap (λ (a : ℕ). any_from (child_counts (decode_parts n ws ms) d v j) t (a - t)) (count_decode n ws ms within)

      counts_up : (ms v : List ℕ) → Flagged v fs →
          counted (get_or fs (k + 1) 0) (get_or rs (k + 1) 0) d ≡ (among k v || (d && up_to (decode_parts n ws ms) d v k))
      counts_up ms v f =
          ap (λ (a : ℕ). counted a (get_or rs (k + 1) 0) d) (f.flags k (omega (arith, held.few))) ∙
          ap (λ (a : ℕ). counted (bit (among k v)) a d) (s.flags ms v f k (omega (arith, held.few)) ∙ ap bit (sym (up_all ms v k (k +
          1) (omega arith)))) ∙
          counted_bits (among k v) (up_to (decode_parts n ws ms) d v k) d

      one_more : (ms v : List ℕ) (j : ℕ) → any_from (child_counts (decode_parts n ws ms) d v j) k (n - k) ≡
          (child_counts (decode_parts n ws ms) d v j k || any_from (child_counts (decode_parts n ws ms) d v j) (k + 1) (n - (k + 1)))
      unfolding any_from
      one_more ms v j =
          let e : n - k ≡ suc (n - (k + 1)) = omega arith in
          ap (any_from (child_counts (decode_parts n ws ms) d v j) k) e ∙
          ap (λ (a : ℕ). child_counts (decode_parts n ws ms) d v j k ||
          any_from (child_counts (decode_parts n ws ms) d v j) a (n - (k + 1)))
          (sym (add-one k))

      pub climbing_next : Climbing ws n d fs k (climbed (get_or ws k 0) k d fs rs)
      climbing_next =
          by_cases test (λ e. subst (Climbing ws n d fs k) (sym (cond_true test (set rs l 1) rs e)) (counting e))
          (λ e. subst (Climbing ws n d fs k) (sym (cond_false test (set rs l 1) rs e)) (not_counting e))
        where
          l : ℕ
          l = link_in (get_or ws k 0)

          test : Bool
          test = counted (get_or fs (k + 1) 0) (get_or rs (k + 1) 0) d

          child : (ms v : List ℕ) → Flagged v fs → (j : ℕ) → (t : Bool) → test ≡ t → child_counts (decode_parts n ws ms) d v j k ≡ (eqb l
              (j + 1) && t)
          child ms v f j t e =
              ap (λ (a : Bool). a && (among k v || (d && up_to (decode_parts n ws ms) d v k))) (parent_is_lem ms j k h) ∙
              ap (λ (a : Bool). eqb l (j + 1) && a) (sym (counts_up ms v f) ∙ e)

          counting : test ≡ true → Climbing ws n d fs k (set rs l 1)
          counting e =
              record {
                size = length-set rs l 1 ∙ s.size;
                flags = λ ms v f j u. by_cases (eqb l (j + 1)) (λ q. here ms v f j q) (λ q. there ms v f j u q);
              }
            where
              here : (ms v : List ℕ) → Flagged v fs → (j : ℕ) → eqb l (j + 1) ≡ true →
                  get_or (set rs l 1) (j + 1) 0 ≡ bit (any_from (child_counts (decode_parts n ws ms) d v j) k (n - k))
              here ms v f j q =
                  ap (λ (a : ℕ). get_or (set rs l 1) a 0) (sym (eqb-true l (j + 1) q)) ∙
                  get_or-set_same rs l 1 0 (omega (arith, s.size, link_in_lem k h)) ∙
                  ap bit (sym (one_more ms v j ∙
                  ap (λ (t : Bool). t || any_from (child_counts (decode_parts n ws ms) d v j) (k + 1) (n - (k + 1))) (child ms v f j true e
                  ∙ ap (λ (a : Bool). a && true) q)))

              there : (ms v : List ℕ) → Flagged v fs → (j : ℕ) → j < max_rows → eqb l (j + 1) ≡ false →
                  get_or (set rs l 1) (j + 1) 0 ≡ bit (any_from (child_counts (decode_parts n ws ms) d v j) k (n - k))
              there ms v f j u q =
                  get_or-set_other rs l (j + 1) 1 0 (λ y. eqb-false l (j + 1) q (sym y)) ∙ s.flags ms v f j u ∙
                  ap bit (sym (one_more ms v j ∙
                  ap (λ (t : Bool). t || any_from (child_counts (decode_parts n ws ms) d v j) (k + 1) (n - (k + 1))) (child ms v f j true e
                  ∙ ap (λ (a : Bool). a && true) q)))

          not_counting : test ≡ false → Climbing ws n d fs k rs
          not_counting e =
              record {
                size = s.size;
                flags = λ ms v f j u.
                    s.flags ms v f j u ∙
                    ap bit (sym (one_more ms v j ∙
                    ap (λ (t : Bool). t || any_from (child_counts (decode_parts n ws ms) d v j) (k + 1) (n - (k + 1)))
                    (child ms v f j false e ∙ and-false (eqb l (j + 1)))));
              }

    pub climbed_all : (rs : List ℕ) → Climbing ws n d fs 0 rs → Reached ws n (2 + bit d) fs rs
    climbed_all rs s =
        record {
          size = s.size;
          flags = λ ms v f j h.
              s.flags ms v f j (omega (arith, held.few)) ∙
              ap bit (sym (up_children (decode_parts n ws ms) held.lower d v j 0 (omega arith) ∙
              ap (λ (a : ℕ). any_from (child_counts (decode_parts n ws ms) d v j) 0 (a - 0)) (count_decode n ws ms within)));
        }
