-- Steps from one item: its children, its parent, and the rows above it, written from the end.
use mathlib.Core.Path.{◌≡◌, refl, ap, sym, ◌∙◌, subst}
use mathlib.Core.Bool.{Bool, true, false, ◌&&◌, ◌||◌, and-true, and-false, or-false, cond}
use mathlib.Core.List.{List, [], ◌∷◌, ◌++◌, append-nil, append_assoc}
use Prim.Native.Nat.{ℕ, suc, ◌+◌, ◌-◌, ◌≤◌, ◌<◌}
use native.Mathlib.Omega.{arith}
use native.Mathlib.Nat.{add-zero}
use lib.Dec.{eqb}
use lib.ListN.{length, get_or, take, drop, set, length-set, length-append}
use lib.Seq.{take-add, take-set-le, drop-set-lt, drop-cons, get_or-set_same}
use borrow.Author.Tests.{eq-eqb, ne_eqb}
use Rattle.model.specs.Base.{any, bit}
use Rattle.model.specs.Table as model
use Rattle.model.specs.Sweep.{through}
use Rattle.model.specs.Script.{Step, step_by}
use Rattle.model.specs.Step.{admits, letter_of, reaches, is_reached, is_below, collect}
use Rattle.model.proofs.BoolLaws.{by_cases, eq_cases, cond_true}
use Rattle.model.proofs.Collect.{collect_append, collect_same, collect_none}
use Rattle.plan_table.specs.Packed.{row_of, of_link, link_in, decode_parts}
use Rattle.plan_table.proofs.PackedLaws.{of_link_some, row_at_decode}
use Rattle.plan_table.proofs.DecodeLaws.{parent_linked}
use Rattle.run_query.specs.Stepping.{RowsHeld}
use Rattle.run_query.specs.Values.{value_at, Appended, Grown, Skipped, is_child, is_on_way, way_up}
use Rattle.run_query.proofs.ReachLaws.{below_higher, down_higher, up_parent}
use Rattle.run_query.proofs.PassLaws.{within, link_below, parent_is_lem}
use Rattle.run_query.proofs.ValueLaws.{value_none, length_collect, collect_next, collected_grown, admits_axis, reached_row}

-- what holds of some item of one is what holds of it
any_one : (f : ℕ → Bool) (i : ℕ) → any f (i ∷ []) ≡ f i
unfolding any
any_one f i = or-false (f i)

-- no row passed over
pub skipped_none : (ws : List ℕ) (n l from : ℕ) → from ≤ n → Skipped ws n l from from
skipped_none ws n l from h = record { low = omega arith; high = h; none = λ k p q r. omega arith }

module _ (ws : List ℕ) (n : ℕ) (held : RowsHeld ws n) (test name : ℕ) (ms : List ℕ) where
  abbrev x : model.Table
  x = decode_parts n ws ms

  -- CHILDREN
  pub child_row : (i j : ℕ) → j < n → is_child ws j (i + 1) test name ≡ is_reached x (step_by 0 test name) (i ∷ []) j
  child_row i j h =
      reached_row ws n 0 test name (i ∷ []) ms (within ws n held) j h (eqb (link_in (get_or ws j 0)) (i + 1))
      (sym (any_one (λ (k : ℕ). reaches x 0 k j) i ∙ parent_is_lem ws n held ms i j h))

  not_child : (i j : ℕ) → j < n → (link_in (get_or ws j 0) ≡ i + 1 → ⊥) → is_reached x (step_by 0 test name) (i ∷ []) j ≡ false
  not_child i j h z =
      sym (child_row i j h) ∙
      ap (λ (t : Bool). t && admits (step_by 0 test name) (letter_of (row_of (get_or ws j 0))))
      (ne_eqb (link_in (get_or ws j 0)) (i + 1) z)

  -- rows passed over are no children
  pub collected_past : (i : ℕ) (w : List ℕ) (from : ℕ) (w' : List ℕ) (r j j' : ℕ) → Skipped ws n (i + 1) j j' →
      Appended (collect (is_reached x (step_by 0 test name) (i ∷ [])) 0 j) w from w' r →
      Appended (collect (is_reached x (step_by 0 test name) (i ∷ [])) 0 j') w from w' r
  collected_past i w from w' r j j' s a =
      subst (λ (v : List ℕ). Appended v w from w' r) (sym more) a
    where
      f : (row : ℕ) → Bool
      f = is_reached x (step_by 0 test name) (i ∷ [])

      more : collect f 0 j' ≡ collect f 0 j
      more =
          let e : j' ≡ j + (j' - j) = omega (arith, s.low) in
          ap (collect f 0) e ∙ collect_append f 0 j (j' - j) ∙
          ap (λ (v : List ℕ). collect f 0 j ++ v)
          (collect_none f (0 + j) (j' - j)
          (λ k p q. not_child i k (omega (arith, s.high, s.low)) (s.none k (omega arith) (omega arith)))) ∙
          append-nil (collect f 0 j)

  -- a row appended if it is a child, and others passed over
  pub collected_next : (i j j' : ℕ) → j < n → {w : List ℕ} {from : ℕ} {w' : List ℕ} {r : ℕ} {w'' : List ℕ} {r'' : ℕ} →
      Appended (collect (is_reached x (step_by 0 test name) (i ∷ [])) 0 j) w from w' r →
      Grown (is_child ws j (i + 1) test name) j w' r w'' r'' → Skipped ws n (i + 1) (j + 1) j' →
      Appended (collect (is_reached x (step_by 0 test name) (i ∷ [])) 0 j') w from w'' r''
  collected_next i j j' h {w} {from} {w'} {r} {w''} {r''} a g s =
      collected_past i w from w'' r'' (j + 1) j' s
      (collected_grown (is_reached x (step_by 0 test name) (i ∷ [])) j w w' from r a (is_child ws j (i + 1) test name) (child_row i j h) g)

  pub no_child : (i j : ℕ) → j < i + 1 → is_reached x (step_by 0 test name) (i ∷ []) j ≡ false
  no_child i j h =
      ap (λ (t : Bool). admits (step_by 0 test name) (letter_of (model.row_at x j)) && t)
      (any_one (λ (k : ℕ). reaches x 0 k j) i ∙ not_yet) ∙
      and-false (admits (step_by 0 test name) (letter_of (model.row_at x j)))
    where
      not_yet : reaches x 0 i j ≡ false
      not_yet = by_cases (reaches x 0 i j) (λ e. absurd (let l = down_higher x held.lower false i j e in omega arith)) (λ e. e)

  -- THE WAY UP by a link
  module _ (d : Bool) (axis : ℕ) where
    abbrev s : Step
    s = step_by axis test name

    abbrev passing : (row : ℕ) → Bool
    passing j = admits s (letter_of (model.row_at x j))

    -- the rows that the axis reaches from a row are on the way by its link
    module _ (i : ℕ) (h : i < n) where
      up_none : link_in (get_or ws i 0) ≡ 0 → (j : ℕ) → reaches x (2 + bit d) i j ≡ false
      up_none e j =
          up_parent x held.lower d i j ∙
          rw (parent_linked n ws ms (within ws n held) i h ∙ ap of_link e) (and-false d)

      up_linked : (link_in (get_or ws i 0) ≡ 0 → ⊥) → (j : ℕ) →
          reaches x (2 + bit d) i j ≡ (eqb (link_in (get_or ws i 0)) (j + 1) || (d && is_below x j (link_in (get_or ws i 0) - 1)))
      up_linked z j =
          up_parent x held.lower d i j ∙
          ap (λ (t : Bool). t || (d && through (is_below x j) (model.row_at x i).parent)) (parent_is_lem ws n held ms j i h) ∙
          ap (λ q. eqb (link_in (get_or ws i 0)) (j + 1) || (d && through (is_below x j) q))
          (parent_linked n ws ms (within ws n held) i h ∙ of_link_some (link_in (get_or ws i 0)) z)

      -- they are below it, so any bound from there on serves
      way_from : (m : ℕ) → link_in (get_or ws i 0) ≤ m →
          collect (λ (j : ℕ). admits s (letter_of (model.row_at x j)) && reaches x (2 + bit d) i j) 0 m ≡
          way_up x d s (link_in (get_or ws i 0))
      unfolding collect
      way_from m b = eq_cases (link_in (get_or ws i 0)) 0 nothing something
        where
          l : ℕ
          l = link_in (get_or ws i 0)

          reached : (row : ℕ) → Bool
          reached j = passing j && reaches x (2 + bit d) i j

          nothing : l ≡ 0 → collect reached 0 m ≡ way_up x d s l
          nothing e =
              collect_none reached 0 m (λ j p q. ap (λ (t : Bool). passing j && t) (up_none e j) ∙ and-false (passing j)) ∙
              ap (λ (k : ℕ). collect (is_on_way x d s l) 0 k) (sym e)

          past : (j : ℕ) → l ≤ j → is_on_way x d s l j ≡ false
          past j p =
              ap (λ (t : Bool). passing j && (t || (d && is_below x j (l - 1)))) (ne_eqb l (j + 1) (λ q. omega arith)) ∙
              ap (λ (t : Bool). passing j && (d && t)) not_above ∙ ap (λ (t : Bool). passing j && t) (and-false d) ∙ and-false (passing j)
            where
              not_above : is_below x j (l - 1) ≡ false
              not_above =
                  by_cases (is_below x j (l - 1)) (λ e. absurd (let k = below_higher x held.lower j (l - 1) e in omega arith)) (λ e. e)

          something : (l ≡ 0 → ⊥) → collect reached 0 m ≡ way_up x d s l
          something z =
              let e : m ≡ l + (m - l) = omega arith in
              collect_same reached (is_on_way x d s l) 0 m (λ j p. ap (λ (t : Bool). passing j && t) (up_linked z j)) ∙
              ap (collect (is_on_way x d s l) 0) e ∙ collect_append (is_on_way x d s l) 0 l (m - l) ∙
              ap (λ (v : List ℕ). way_up x d s l ++ v) (collect_none (is_on_way x d s l) (0 + l) (m - l) (λ j p q. past j (omega arith))) ∙
              append-nil (way_up x d s l)

    -- the way by a link: what is on it below its row, and the row
    way_last : (l : ℕ) → (l ≡ 0 → ⊥) → (t : Bool) → l - 1 < n →
        t ≡ admits (step_by 0 test name) (letter_of (row_of (get_or ws (l - 1) 0))) →
        way_up x d s l ≡ collect (is_on_way x d s l) 0 (l - 1) ++ cond t ((l - 1) ∷ []) []
    way_last l z t h e =
        let k : l ≡ l - 1 + 1 = omega (arith, z) in
        ap (collect (is_on_way x d s l) 0) k ∙ collect_next (is_on_way x d s l) (l - 1) ∙
        ap (λ (u : Bool). collect (is_on_way x d s l) 0 (l - 1) ++ cond u ((l - 1) ∷ []) [])
        (ap (λ (u : Bool). passing (l - 1) && (u || (d && is_below x (l - 1) (l - 1)))) (eq-eqb l (l - 1 + 1) k) ∙
        and-true (passing (l - 1)) ∙ sym (admits_axis 0 axis test name (letter_of (model.row_at x (l - 1)))) ∙
        ap (λ (r : model.Row). admits (step_by 0 test name) (letter_of r)) (row_at_decode n ws ms (within ws n held) (l - 1) h) ∙ sym e)

    on_way_below : (l j : ℕ) → j < l - 1 → is_on_way x d s l j ≡ (passing j && (d && is_below x j (l - 1)))
    on_way_below l j h =
        ap (λ (t : Bool). passing j && (t || (d && is_below x j (l - 1)))) (ne_eqb l (j + 1) (λ q. omega arith))

  -- what a step up answers from an item
  pub step_way : (d : Bool) (i : ℕ) → i < n →
      collect (is_reached x (step_by (2 + bit d) test name) (i ∷ [])) 0 n ≡
      way_up x d (step_by (2 + bit d) test name) (link_in (get_or ws i 0))
  step_way d i h =
      collect_same (is_reached x (step_by (2 + bit d) test name) (i ∷ []))
      (λ (j : ℕ). admits (step_by (2 + bit d) test name) (letter_of (model.row_at x j)) && reaches x (2 + bit d) i j) 0 n
      (λ j b. ap (λ (t : Bool). admits (step_by (2 + bit d) test name) (letter_of (model.row_at x j)) && t)
      (any_one (λ (k : ℕ). reaches x (2 + bit d) k j) i)) ∙
      way_from d (2 + bit d) i h n (omega (arith, link_below ws n held i h))

  pub short : (d : Bool) (axis l : ℕ) → length (way_up x d (step_by axis test name) l) ≤ l
  short d axis l = length_collect (is_on_way x d (step_by axis test name) l) 0 l

  pub way_none : (d : Bool) (axis l : ℕ) → l ≡ 0 → way_up x d (step_by axis test name) l ≡ []
  unfolding collect
  way_none d axis l e = ap (collect (is_on_way x d (step_by axis test name) l) 0) e

  module _ (l : ℕ) (z : l ≡ 0 → ⊥) (h : l - 1 < n) (t : Bool)
      (e : t ≡ admits (step_by 0 test name) (letter_of (row_of (get_or ws (l - 1) 0)))) where
    pub way_one : (axis : ℕ) → way_up x false (step_by axis test name) l ≡ cond t ((l - 1) ∷ []) []
    way_one axis =
        way_last false axis l z t h e ∙
        ap (λ (v : List ℕ). v ++ cond t ((l - 1) ∷ []) [])
        (collect_none (is_on_way x false (step_by axis test name) l) 0 (l - 1)
        (λ j p q. on_way_below false axis l j (omega arith) ∙ and-false (admits (step_by axis test name) (letter_of (model.row_at x j)))))

    pub way_more : (axis l' : ℕ) → l' ≡ link_in (get_or ws (l - 1) 0) →
        way_up x true (step_by axis test name) l ≡ way_up x true (step_by axis test name) l' ++ cond t ((l - 1) ∷ []) []
    way_more axis l' q =
        way_last true axis l z t h e ∙
        ap (λ (v : List ℕ). v ++ cond t ((l - 1) ∷ []) [])
        (collect_same (is_on_way x true (step_by axis test name) l)
        (λ (j : ℕ). admits (step_by axis test name) (letter_of (model.row_at x j)) && reaches x 3 (l - 1) j) 0 (l - 1)
        (λ j p. on_way_below true axis l j (omega arith)) ∙
        way_from true axis (l - 1) h (l - 1) (link_below ws n held (l - 1) h) ∙ ap (way_up x true (step_by axis test name)) (sym q))

-- counted: one row more, or none
pub counted_way : (t : Bool) (a : ℕ) (u v w : List ℕ) → v ≡ u ++ cond t (a ∷ []) [] → (n n' : ℕ) → n' ≡ cond t (n + 1) n →
    n + length v ≡ length w → n' + length u ≡ length w
counted_way true a u v w e n n' q h = omega (arith, ap length e ∙ length-append u (a ∷ []))
counted_way false a u v w e n n' q h = omega (arith, ap length e ∙ length-append u [])

-- WRITTEN FROM THE END: of a value, all but its front u stands from a place on
pub record Rising (v w : List ℕ) (from : ℕ) (u w' : List ℕ) (at : ℕ) : Type 0 where
  pub rest : v ≡ u ++ value_at w' at (from + length v)
  pub place : at ≡ from + length u
  pub front : take from w' ≡ take from w
  pub size : length w' ≡ length w

rising_none : (v w : List ℕ) (from : ℕ) → Rising v w from v w (from + length v)
rising_none v w from =
    record {
      rest = sym (ap (λ (u : List ℕ). v ++ u) (value_none w (from + length v)) ∙ append-nil v);
      place = refl;
      front = refl;
      size = refl;
    }

pub rising_by : (w : List ℕ) (from : ℕ) (v u : List ℕ) → u ≡ v → (at : ℕ) → at ≡ from + length v → Rising v w from u w at
rising_by w from v u e at q = rw (e, q) (rising_none v w from)

rising_next : (v w : List ℕ) (from : ℕ) (u w' : List ℕ) (at a : ℕ) → from + length v ≤ length w → Rising v w from (u ++ (a ∷ [])) w' at →
    Rising v w from u (set w' (at - 1) a) (at - 1)
rising_next v w from u w' at a room s =
    record {
      rest =
          s.rest ∙ append_assoc u (a ∷ []) (value_at w' at end) ∙ ap (λ (k : List ℕ). u ++ k) (sym front_item);
      place = omega (arith, s.place, length-append u (a ∷ []));
      front = take-set-le from w' (at - 1) a (omega (arith, long)) ∙ s.front;
      size = length-set w' (at - 1) a ∙ s.size;
    }
  where
    end : ℕ
    end = from + length v

    long : at ≡ from + length u + 1
    long = omega (arith, s.place, length-append u (a ∷ []))

    short : at ≤ end
    short =
        let e : length v ≡ length (u ++ (a ∷ [])) + length (value_at w' at end) =
        ap length s.rest ∙ length-append (u ++ (a ∷ [])) (value_at w' at end) in omega (arith, e, s.place)

    front_item : value_at (set w' (at - 1) a) (at - 1) end ≡ a ∷ value_at w' at end
    front_item =
        let i : at - 1 < length (set w' (at - 1) a) = omega (arith, length-set w' (at - 1) a, s.size, long, short) in
        let k : end - (at - 1) ≡ suc (end - at) = omega (arith, long, short) in
        let m : suc (at - 1) ≡ at = omega (arith, long) in
        ap (take (end - (at - 1))) (drop-cons (set w' (at - 1) a) (at - 1) 0 i) ∙
        ap (λ (j : ℕ). take j (get_or (set w' (at - 1) a) (at - 1) 0 ∷ drop (suc (at - 1)) (set w' (at - 1) a))) k ∙
        ap (λ (j : ℕ). j ∷ take (end - at) (drop (suc (at - 1)) (set w' (at - 1) a)))
        (get_or-set_same w' (at - 1) a 0 (omega (arith, s.size, long, short))) ∙
        ap (λ (j : ℕ). a ∷ take (end - at) (drop j (set w' (at - 1) a))) m ∙
        ap (λ (q : List ℕ). a ∷ take (end - at) q) (drop-set-lt at w' (at - 1) a (omega (arith, long)))

rising_if : (t : Bool) (v w : List ℕ) (from : ℕ) (u w' : List ℕ) (at a : ℕ) → from + length v ≤ length w →
    Rising v w from (u ++ cond t (a ∷ []) []) w' at → Rising v w from u (cond t (set w' (at - 1) a) w') (cond t (at - 1) at)
rising_if true v w from u w' at a room s = rising_next v w from u w' at a room s
rising_if false v w from u w' at a room s = subst (λ (k : List ℕ). Rising v w from k w' at) (append-nil u) s

-- one item more, or none
pub rising_more : (t : Bool) (v w : List ℕ) (from : ℕ) (u u' w' : List ℕ) (at a : ℕ) → from + length v ≤ length w → u' ≡ u ++ cond t
    (a ∷ []) [] →
    Rising v w from u' w' at → (w'' : List ℕ) (r : ℕ) → w'' ≡ cond t (set w' (at - 1) a) w' → r ≡ cond t (at - 1) at → Rising v w from
    u w'' r
rising_more t v w from u u' w' at a room e s w'' r p q =
    rw (p, q) (rising_if t v w from u w' at a room (subst (λ (k : List ℕ). Rising v w from k w' at) e s))

-- a place with a kept item before it is not the first
pub some_before : (t : Bool) (a : ℕ) (u : List ℕ) {v w w' : List ℕ} {from at : ℕ} {k : List ℕ} → t ≡ true → v ≡ u ++ cond t (a ∷ []) [] →
    Rising k w from v w' at → 0 < at
some_before t a u h e s =
    omega (arith, s.place, ap length e ∙ length-append u (cond t (a ∷ []) []), ap length (cond_true t (a ∷ []) [] h))

pub rising_all : (v w : List ℕ) (from : ℕ) (w' : List ℕ) (at r : ℕ) → r ≡ from + length v → Rising v w from [] w' at → Appended v w
    from w' r
rising_all v w from w' at r q s =
    record {
      front =
          ap (λ (j : ℕ). take j w') q ∙ take-add from (length v) w' ∙
          ap (λ (u : List ℕ). u ++ take (length v) (drop from w')) s.front ∙ ap (λ (u : List ℕ). take from w ++ u) whole;
      end = q;
    }
  where
    whole : take (length v) (drop from w') ≡ v
    whole =
        let e : at ≡ from = s.place ∙ add-zero from in
        let f : from + length v - from ≡ length v = omega arith in
        sym (s.rest ∙ ap (λ (j : ℕ). value_at w' j (from + length v)) e ∙ ap (λ (j : ℕ). take j (drop from w')) f)
