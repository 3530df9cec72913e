-- Insert in the model, row by row: which rows are below the top, the rows copied read off the map, and one turn of the scan.
use mathlib.Core.Path.{◌≡◌, refl, ap, sym, ◌∙◌}
use mathlib.Core.Bool.{Bool, true, false, ◌||◌, not, cond}
use mathlib.Core.List.{List, [], ◌∷◌}
use mathlib.Core.Option.{Option, none, some}
use Prim.Native.Nat.{ℕ, zero, suc, ◌+◌, ◌-◌, ◌≤◌, ◌<◌}
use native.Mathlib.Nat.{not-suc-le-zero, zero-add}
use native.Mathlib.Numerals.{add-one}
use native.Mathlib.Omega.{arith}
use lib.Dec.{ltb, eqb}
use lib.ListN.{length, get_or, set}
use lib.Seq.{get_or-set_same, get_or-set_other}
use borrow.Author.Tests.{lt-ltb, le-ltb, eq-eqb, ne_eqb, ltb-true, ltb-false, eqb-true, eqb-false, not-true, not-false}
use Rattle.model.specs.Table as model
use Rattle.model.specs.Sweep.{through}
use Rattle.model.specs.Step.{parent_is, is_below_from, is_below, collect}
use Rattle.model.specs.Run.{State, Out, refused, gives, new_row, then_row, Copied, copy_of, copy_parent, copy_row, copy_each}
use Rattle.model.specs.Run.{descendants_from}
use Rattle.model.proofs.BoolLaws.{by_cases, cond_true, cond_false, eq_cases}
use Rattle.model.proofs.Collect.{collect_append, collect_none}
use Rattle.model.proofs.Below.{below_is, below_above}
use Rattle.plan_table.specs.Packed.{of_link}
use Rattle.run_insert.specs.Inserting.{copied_in, copy_link, copy_by, no_copy}

then_row_gives : (o : Out) (f : State → Out) → then_row (then_row o (λ (u : State). gives [] u)) f ≡ then_row o f
then_row_gives (refused x) f = refl
then_row_gives (gives v s) f = refl

-- BELOW THE TOP, where parents are lower
module _ (x : model.Table) (lower : (i p : ℕ) → (model.row_at x i).parent ≡ some p → p < i) (t : ℕ) where
  below_fuel : (n m i : ℕ) → i < n → i < m → is_below_from n x t i ≡ is_below_from m x t i
  unfolding is_below_from
  below_fuel zero m i h k = absurd (not-suc-le-zero h)
  below_fuel (suc n) zero i h k = absurd (not-suc-le-zero k)
  below_fuel (suc n) (suc m) i h k =
      ap (λ (b : Bool). parent_is x t i || b) (go (λ p f g. below_fuel n m p f g) (model.row_at x i).parent refl)
    where
      go : ((p : ℕ) → p < n → p < m → is_below_from n x t p ≡ is_below_from m x t p) → (q : Option ℕ) → (model.row_at x i).parent ≡ q →
          through (is_below_from n x t) q ≡ through (is_below_from m x t) q
      go f none e = refl
      go f (some p) e = let l = lower i p e in f p (omega arith) (omega arith)

  below_root : (i : ℕ) → (model.row_at x i).parent ≡ none → is_below x t i ≡ false
  unfolding is_below_from
  below_root i e = rw e

  below_child : (i p : ℕ) → (model.row_at x i).parent ≡ some p → is_below x t i ≡ (eqb p t || is_below x t p)
  unfolding is_below_from
  below_child i p e =
      rw e (ap (λ (b : Bool). eqb p t || b) (let l = lower i p e in below_fuel i (suc p) p l (omega arith)))

  below_low : (i : ℕ) → i ≤ t → is_below x t i ≡ false
  below_low i h = by_cases (is_below x t i) (λ e. absurd (let k = below_above x lower (below_is x t i e) in omega arith)) (λ e. e)

  pub descendants_past : (n : ℕ) → t < n → descendants_from x t 0 n ≡ descendants_from x t (t + 1) (n - (t + 1))
  descendants_past n h =
      let e : n ≡ t + 1 + (n - (t + 1)) = omega arith in
      ap (collect (is_below x t) 0) e ∙ collect_append (is_below x t) 0 (t + 1) (n - (t + 1)) ∙
      rw (collect_none (is_below x t) 0 (t + 1) (λ j a b. below_low j (omega arith)), zero-add (t + 1))

-- THE ROWS COPIED, read off the map
copied_in_set : (m : List ℕ) (t n j v : ℕ) → t + n ≤ j → copied_in (set m j v) t n ≡ copied_in m t n
unfolding copied_in
copied_in_set m t zero j v h = refl
copied_in_set m t (suc n) j v h =
    let e : get_or (set m j v) (t + n) 0 ≡ get_or m (t + n) 0 = get_or-set_other m j (t + n) v 0 (λ q. omega arith) in
    rw (e, copied_in_set m t n j v (omega arith))

copy_of_copied : (m : List ℕ) (t n q : ℕ) → t ≤ q → q < t + n → (get_or m q 0 ≡ no_copy → ⊥) →
    copy_of q (copied_in m t n) ≡ some (get_or m q 0)
unfolding copy_of copied_in
copy_of_copied m t zero q h l f = absurd (omega arith)
copy_of_copied m t (suc n) q h l f = by_cases (eqb (t + n) q) (λ z. here (eqb-true (t + n) q z))
    (λ z. there z (let y = eqb-false (t + n) q z in copy_of_copied m t n q h (omega arith) f))
  where
    here : t + n ≡ q → copy_of q (copied_in m t (suc n)) ≡ some (get_or m q 0)
    here z =
        let y : get_or m (t + n) 0 ≡ no_copy → ⊥ = λ y. f (ap (λ (j : ℕ). get_or m j 0) (sym z) ∙ y) in
        rw (ne_eqb (get_or m (t + n) 0) no_copy y, eq-eqb (t + n) q z) (ap (λ (j : ℕ). some (get_or m j 0)) z)

    there : eqb (t + n) q ≡ false → copy_of q (copied_in m t n) ≡ some (get_or m q 0) →
        copy_of q (copied_in m t (suc n)) ≡ some (get_or m q 0)
    there z e = by_cases (eqb (get_or m (t + n) 0) no_copy) (λ w. rw w e) (λ w. rw (w, z) e)

-- THE LINK to the parent's copy, by the tests
module _ (m : List ℕ) (t l : ℕ) where
  pub link_none : l ≡ 0 → copy_link m t l ≡ 0
  link_none e = rw e

  module _ (some-parent : l ≡ 0 → ⊥) where
    pub link_low : l - 1 < t → copy_link m t l ≡ 0
    link_low h = rw (ne_eqb l 0 some-parent, lt-ltb (l - 1) t h)

    pub link_out : t ≤ l - 1 → get_or m (l - 1) 0 ≡ no_copy → copy_link m t l ≡ 0
    link_out h e = rw (ne_eqb l 0 some-parent, le-ltb (l - 1) t h, e)

    pub link_in_lem : t ≤ l - 1 → (get_or m (l - 1) 0 ≡ no_copy → ⊥) → copy_link m t l ≡ get_or m (l - 1) 0 + 1
    link_in_lem h e = rw (ne_eqb l 0 some-parent, le-ltb (l - 1) t h, ne_eqb (get_or m (l - 1) 0) no_copy e)

-- what a link that is not 0 says
pub record Linked (m : List ℕ) (t l : ℕ) : Type 0 where
  pub parent : l ≡ 0 → ⊥
  pub low : t ≤ l - 1
  pub copied : get_or m (l - 1) 0 ≡ no_copy → ⊥
  pub is : copy_link m t l ≡ get_or m (l - 1) 0 + 1

link_cases : {P : Type 0} (m : List ℕ) (t l : ℕ) →
    (l ≡ 0 → P) → ((l ≡ 0 → ⊥) → l - 1 < t → P) → ((l ≡ 0 → ⊥) → t ≤ l - 1 → get_or m (l - 1) 0 ≡ no_copy → P) → (Linked m t l → P) → P
link_cases m t l a b c d =
    eq_cases l 0 a
    (λ f.
    by_cases (ltb (l - 1) t) (λ g. b f (ltb-true (l - 1) t g))
    (λ g.
    let h = ltb-false (l - 1) t g in
    eq_cases (get_or m (l - 1) 0) no_copy (c f h)
    (λ y. d (record { parent = f; low = h; copied = y; is = link_in_lem m t l f h y }))))

pub linked_at : (m : List ℕ) (t l : ℕ) → (copy_link m t l ≡ 0 → ⊥) → Linked m t l
linked_at m t l n =
    link_cases m t l (λ e. absurd (n (link_none m t l e))) (λ f h. absurd (n (link_low m t l f h)))
    (λ f h e. absurd (n (link_out m t l f h e))) (λ k. k)

-- ONE TURN of the scan at row j, which has the link l: what is known of the rows since top decides
module _ (x : model.Table) (lower : (i p : ℕ) → (model.row_at x i).parent ≡ some p → p < i) (t j : ℕ) (past : t < j) (m : List ℕ)
    (l : ℕ) (here : (model.row_at x j).parent ≡ of_link l)
    (known : (k : ℕ) → t ≤ k → k < j → eqb (get_or m k 0) no_copy ≡ not (eqb k t || is_below x t k)) where
  parent_some : (l ≡ 0 → ⊥) → (model.row_at x j).parent ≡ some (l - 1)
  parent_some f = here ∙ rw (ne_eqb l 0 f)

  below_link : is_below x t j ≡ not (eqb (copy_link m t l) 0)
  below_link =
      link_cases m t l (λ e. below_root x lower t j (here ∙ rw e) ∙ sym (ap (λ (n : ℕ). not (eqb n 0)) (link_none m t l e)))
      (λ f h.
      let a : l - 1 ≡ t → ⊥ = λ q. omega arith in
      let b : l - 1 ≤ t = omega arith in
      below_child x lower t j (l - 1) (parent_some f) ∙
      rw (ne_eqb (l - 1) t a, below_low x lower t (l - 1) b) (sym (ap (λ (n : ℕ). not (eqb n 0)) (link_low m t l f h))))
      (λ f h e.
      below_child x lower t j (l - 1) (parent_some f) ∙
      not-true (eqb (l - 1) t || is_below x t (l - 1))
      (sym (known (l - 1) h (lower j (l - 1) (parent_some f))) ∙ eq-eqb (get_or m (l - 1) 0) no_copy e) ∙
      sym (ap (λ (n : ℕ). not (eqb n 0)) (link_out m t l f h e)))
      (λ k.
      let z : get_or m (l - 1) 0 + 1 ≡ 0 → ⊥ = λ q. omega arith in
      below_child x lower t j (l - 1) (parent_some k.parent) ∙
      not-false (eqb (l - 1) t || is_below x t (l - 1))
      (sym (known (l - 1) k.low (lower j (l - 1) (parent_some k.parent))) ∙ ne_eqb (get_or m (l - 1) 0) no_copy k.copied) ∙
      sym (ap (λ (n : ℕ). not (eqb n 0)) k.is ∙ ap not (ne_eqb (get_or m (l - 1) 0 + 1) 0 z)))

  copy_row_lem : (g : ℕ) → (copy_link m t l ≡ 0 → ⊥) →
      copy_row x t g j (copied_in m t (j - t)) ≡ model.with_parent (model.row_at x j) (of_link
      (copy_link m t l))
  copy_row_lem g n =
      let k = linked_at m t l n in
      let a : j ≡ t → ⊥ = λ q. omega arith in
      let z : get_or m (l - 1) 0 + 1 ≡ 0 → ⊥ = λ q. omega arith in
      let w : get_or m (l - 1) 0 + 1 - 1 ≡ get_or m (l - 1) 0 = omega arith in
      let b : l - 1 < t + (j - t) = omega (arith, lower j (l - 1) (parent_some k.parent)) in
      ap (model.with_parent (model.row_at x j))
      (ap (λ (y : Bool). copy_parent y g (model.row_at x j).parent (copied_in m t (j - t))) (ne_eqb j t a) ∙
      ap (λ (q : Option ℕ). copy_parent false g q (copied_in m t (j - t))) (parent_some k.parent) ∙
      copy_of_copied m t (j - t) (l - 1) k.low b k.copied ∙
      sym (ap of_link k.is ∙ rw (ne_eqb (get_or m (l - 1) 0 + 1) 0 z, w)))

  module _ (c : ℕ) (few : c < no_copy) (sized : j < length m) where
    abbrev map' : List ℕ
    map' = set m j (cond (eqb (copy_link m t l) 0) no_copy c)

    passed : copied_in map' t (j - t) ≡ copied_in m t (j - t)
    passed = copied_in_set m t (j - t) j (cond (eqb (copy_link m t l) 0) no_copy c) (omega arith)

    here_map : get_or map' j 0 ≡ cond (eqb (copy_link m t l) 0) no_copy c
    here_map = get_or-set_same m j (cond (eqb (copy_link m t l) 0) no_copy c) 0 sized

    at_seam : t + (j - t) ≡ j
    at_seam = omega arith

    next_fuel : j + 1 - t ≡ suc (j - t)
    next_fuel = omega arith

    copied_out : copy_link m t l ≡ 0 → copied_in map' t (j + 1 - t) ≡ copied_in m t (j - t)
    unfolding copied_in
    copied_out e =
        let y : get_or map' (t + (j - t)) 0 ≡ no_copy = ap (λ (i : ℕ). get_or map' i 0) at_seam ∙ here_map ∙ rw e in
        ap (copied_in map' t) next_fuel ∙ rw y passed

    copied_in_lem : (copy_link m t l ≡ 0 → ⊥) → copied_in map' t (j + 1 - t) ≡ record { old = j; new = c } ∷ copied_in m t (j - t)
    unfolding copied_in
    copied_in_lem n =
        let y : get_or map' (t + (j - t)) 0 ≡ c = ap (λ (i : ℕ). get_or map' i 0) at_seam ∙ here_map ∙ rw (ne_eqb (copy_link m t l) 0 n) in
        let z : c ≡ no_copy → ⊥ = λ q. omega arith in
        ap (copied_in map' t) next_fuel ∙
        rw (y, ne_eqb c no_copy z)
        (ap (λ (cs : List Copied). record { old = t + (j - t); new = c } ∷ cs) passed ∙
        ap (λ (i : ℕ). record { old = i; new = c } ∷ copied_in m t (j - t)) at_seam)

    -- known of one row more
    pub known_next : (k : ℕ) → t ≤ k → k < j + 1 → eqb (get_or map' k 0) no_copy ≡ not (eqb k t || is_below x t k)
    known_next k a b = eq_cases k j at old
      where
        old : (k ≡ j → ⊥) → eqb (get_or map' k 0) no_copy ≡ not (eqb k t || is_below x t k)
        old f =
            ap (λ (n : ℕ). eqb n no_copy) (get_or-set_other m j k (cond (eqb (copy_link m t l) 0) no_copy c) 0 f) ∙
            known k a (omega (arith, f))

        at : k ≡ j → eqb (get_or map' k 0) no_copy ≡ not (eqb k t || is_below x t k)
        at e =
            let f : j ≡ t → ⊥ = λ q. omega arith in
            let z : c ≡ no_copy → ⊥ = λ q. omega arith in
            ap (λ (i : ℕ). eqb (get_or map' i 0) no_copy) e ∙ ap (λ (n : ℕ). eqb n no_copy) here_map ∙
            by_cases (eqb (copy_link m t l) 0)
            (λ y. let b : is_below x t j ≡ false = below_link ∙ ap not y in rw (y, e, ne_eqb j t f, b))
            (λ y. let b : is_below x t j ≡ true = below_link ∙ ap not y in rw (y, e, ne_eqb j t f, ne_eqb c no_copy z, b))

    -- the rest of the scan, from here and from the next row
    pub copy_turn : (m' : List ℕ) → m' ≡ map' → (z g n : ℕ) (s : State) → model.count s.plan ≡ c → j < n →
        copy_each z x t g (descendants_from x t j (n - j)) (copied_in m t (j - t)) s ≡
        then_row (copy_by z (model.row_at x j) (copy_link m t l) s)
        (λ (u : State). copy_each z x t g (descendants_from x t (j + 1) (n - (j + 1))) (copied_in m' t (j + 1 - t)) u)
    unfolding copy_each collect
    copy_turn m' f z g n s count h =
        let e : n - j ≡ suc (n - (j + 1)) = omega arith in
        ap (λ (i : ℕ). copy_each z x t g (descendants_from x t j i) (copied_in m t (j - t)) s) e ∙
        by_cases (eqb (copy_link m t l) 0)
        (λ y.
        let b : is_below x t j ≡ false = below_link ∙ ap not y in
        rw b
        (ap (λ (i : ℕ). copy_each z x t g (descendants_from x t i (n - (j + 1))) (copied_in m t (j - t)) s) (sym (add-one j)) ∙
        ap (λ (cs : List Copied). copy_each z x t g (descendants_from x t (j + 1) (n - (j + 1))) cs s)
        (sym (ap (λ (v : List ℕ). copied_in v t (j + 1 - t)) f ∙ copied_out (eqb-true (copy_link m t l) 0 y))) ∙
        sym (ap (λ (o : Out). then_row o next)
        (cond_true (eqb (copy_link m t l) 0) (gives [] s) (then_row made (λ (u : State). gives [] u))
        y))))
        (λ y.
        let w = eqb-false (copy_link m t l) 0 y in
        let b : is_below x t j ≡ true = below_link ∙ ap not y in
        rw b
        (ap (λ (r : model.Row).
        then_row (new_row z r s)
        (λ (u : State).
        copy_each z x t g (descendants_from x t (suc j) (n - (j + 1))) (record { old = j; new = model.count s.plan } ∷ copied_in m t (j -
        t)) u))
        (copy_row_lem g w) ∙
        ap (λ (i : ℕ).
        then_row made
        (λ (u : State).
        copy_each z x t g (descendants_from x t i (n - (j + 1))) (record { old = j; new = model.count s.plan } ∷ copied_in m t (j - t)) u))
        (sym (add-one j)) ∙
        ap (λ (cs : List Copied). then_row made (λ (u : State). copy_each z x t g (descendants_from x t (j + 1) (n - (j + 1))) cs u))
        (ap (λ (i : ℕ). record { old = j; new = i } ∷ copied_in m t (j - t)) count ∙
        sym (ap (λ (v : List ℕ). copied_in v t (j + 1 - t)) f ∙ copied_in_lem w)) ∙
        sym (then_row_gives made next) ∙
        sym (ap (λ (o : Out). then_row o next)
        (cond_false (eqb (copy_link m t l) 0) (gives [] s) (then_row made (λ (u : State). gives [] u))
        y))))
      where
        made : Out
        made = new_row z (model.with_parent (model.row_at x j) (of_link (copy_link m t l))) s

        next : State → Out
        next u = copy_each z x t g (descendants_from x t (j + 1) (n - (j + 1))) (copied_in m' t (j + 1 - t)) u
