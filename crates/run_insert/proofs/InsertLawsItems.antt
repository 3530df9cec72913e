-- Insert's parts: an item with its descendants, all items, and the target's check.
use mathlib.Core.Path.{◌≡◌, refl, ap, sym, ◌∙◌, subst}
use mathlib.Core.Bool.{Bool, true, ◌&&◌, not}
use mathlib.Core.List.{List, [], ◌∷◌, map}
use mathlib.Core.Option.{some}
use Prim.Native.Nat.{ℕ, ◌+◌, ◌-◌, ◌≤◌, ◌<◌}
use native.Mathlib.Omega.{arith}
use lib.Dec.{eqb}
use lib.ListN.{length, get_or, drop, set, length-set, drop_of_length-le}
use lib.Seq.{get_or-set_same}
use borrow.Author.Tests.{eq-eqb, ne_eqb}
use Rattle.model.specs.Table as model
use Rattle.model.specs.Run.{State, Out, new_row, with_made, then_row, Copied, copy_parent, copy_each}
use Rattle.model.specs.Run.{descendants_from, subtree, copy_all, inserted}
use Rattle.model.proofs.BoolLaws.{and_both, cond_true}
use Rattle.model.proofs.ListLaws.{drop_next}
use Rattle.model.proofs.TableLaws.{is_element_at, is_element_by}
use Rattle.model.specs.Limits.{max_rows}
use Rattle.plan_table.specs.Packed.{of_link, row_of, rows_of, with_link, decode_parts, kind_in, leaf_bits}
use Rattle.plan_table.proofs.PackedLaws.{count_decode, row_at_decode}
use Rattle.plan_table.proofs.DecodeLaws.{element_kind}
use Rattle.run_updates.specs.State.{Progress, state_of, outcome, After, Updated}
use Rattle.run_updates.specs.Updating.{NewPre}
use Rattle.run_insert.specs.Inserting.{before, copied_in, IsCopy, ScanPre, ScanPost, ItemPre, ItemPost, ItemsPre, ItemsPost, no_copy}
use Rattle.run_insert.specs.Inserting.{Copier, copier, InsertPre}
use Rattle.run_updates.proofs.StateLaws.{held_within, held_count, after_self, after_then, outcome_gives, then_goes, then_refused}
use Rattle.run_insert.proofs.InsertLawsScan.{descendants_past}
use Rattle.run_insert.proofs.InsertLaws.{made_state, made_old, made_copy, target_low, copy_row_lem, copy_pre}
use Rattle.run_insert.proofs.InsertLaws.{before_decode, row_before, rows_kept}
use Rattle.run_insert.proofs.InsertLawsRest.{lower_before}

-- THE TOP FIRST, then the rows past it
copy_each_top : (z : ℕ) (x : model.Table) (t g n : ℕ) (s : State) → model.count x ≡ n → t < n →
    ((i p : ℕ) → (model.row_at x i).parent ≡ some p → p < i) →
    copy_each z x t g (subtree x t) [] s ≡
    then_row (new_row z (model.with_parent (model.row_at x t) (some g)) s)
    (λ (u : State). copy_each z x t g (descendants_from x t (t + 1) (n - (t + 1))) (record { old = t; new = model.count s.plan } ∷ []) u)
unfolding copy_each
copy_each_top z x t g n s c h lower =
    ap (λ (b : Bool).
    then_row (new_row z (model.with_parent (model.row_at x t) (copy_parent b g (model.row_at x t).parent [])) s)
    (λ (u : State). copy_each z x t g (descendants_from x t 0 (model.count x)) (record { old = t; new = model.count s.plan } ∷ []) u))
    (eq-eqb t t refl) ∙
    ap (λ (is : List ℕ).
    then_row (new_row z (model.with_parent (model.row_at x t) (some g)) s)
    (λ (u : State). copy_each z x t g is (record { old = t; new = model.count s.plan } ∷ []) u))
    (ap (descendants_from x t 0) c ∙ descendants_past x lower t n h)

copied_in_top : (m : List ℕ) (t c : ℕ) → t < length m → c < no_copy → copied_in (set m t c) t 1 ≡ record { old = t; new = c } ∷ []
unfolding copied_in
copied_in_top m t c h l =
    let e : t + 0 ≡ t = omega arith in
    let f : get_or (set m t c) (t + 0) 0 ≡ c = ap (λ (j : ℕ). get_or (set m t c) j 0) e ∙ get_or-set_same m t c 0 h in
    let n : c ≡ no_copy → ⊥ = λ q. omega arith in
    rw (f, ne_eqb c no_copy n) (ap (λ (j : ℕ). record { old = j; new = c } ∷ []) e)

-- AN ITEM
module _ {ws h m : List ℕ} {p : Progress} {old t g : ℕ} (pre : ItemPre old t g (copier ws h m p)) where
  pub item_target : g < p.count
  item_target = target_low pre.held g pre.target

  item_top : t < p.count
  item_top = omega (arith, pre.top, pre.room)

  item_old : old ≤ length ws
  item_old = omega (arith, pre.room, held_within pre.held)

  module _ {v : ℕ} (packed : v ≡ with_link (get_or ws t 0) (g + 1)) where
    row_copy : row_of v ≡ model.with_parent (row_of (get_or ws t 0)) (some g)
    row_copy = copy_row_lem pre.held t g item_top pre.target packed

    pub item_pre : NewPre ws h p v
    item_pre = copy_pre pre.held t g item_top pre.target packed

    module _ {ws₁ h₁ : List ℕ} {p₁ : Progress} (u : Updated (λ z s. new_row z (row_of v) s) (p.count ∷ []) ws h p ws₁ h₁ p₁) where
      abbrev rest : (z : ℕ) (ms : List ℕ) → State → Out
      rest z ms q =
          copy_each z (decode_parts old ws ms) t g (descendants_from (decode_parts old ws ms) t (t + 1) (old - (t + 1)))
          (record { old = t; new = p.count } ∷ []) q

      -- the whole, from the new row
      whole : (z : ℕ) (ms : List ℕ) →
          then_row (outcome z (p.count ∷ []) ws₁ ms h₁ p₁) (rest z ms) ≡
          copy_each z (before old (state_of ws ms h p)) t g (subtree (before old (state_of ws ms h p)) t) [] (state_of ws ms h p)
      whole z ms =
          let x = decode_parts old ws ms in
          let s = state_of ws ms h p in
          ap (λ (o : Out). then_row o (rest z ms))
          (u.same z ms ∙
          ap (λ (r : model.Row). new_row z r s)
          (row_copy ∙
          ap (λ (r : model.Row). model.with_parent r (some g)) (sym (row_at_decode old ws ms item_old t pre.top)))) ∙
          ap (λ (c : ℕ).
          then_row (new_row z (model.with_parent (model.row_at x t) (some g)) s)
          (λ (q : State). copy_each z x t g (descendants_from x t (t + 1) (old - (t + 1))) (record { old = t; new = c } ∷ []) q))
          (sym (held_count pre.held ms)) ∙
          sym (copy_each_top z x t g old s (count_decode old ws ms item_old) pre.top
          (lower_before pre.held old pre.room ms)) ∙
          ap (λ (y : model.Table). copy_each z y t g (subtree y t) [] s) (sym (before_decode old ws ms h p pre.room))

      pub item_refused : (p₁.number ≡ 0 → ⊥) → {m₁ : List ℕ} → ItemPost old t g (copier ws h m p) (copier ws₁ h₁ m₁ p₁)
      item_refused n =
          record {
            updated = then_refused rest (p.count ∷ []) n whole;
            before = λ q. absurd (n q);
          }

      module _ (n : p₁.number ≡ 0) where
        after₁ : After ws h p ws₁ h₁ p₁
        after₁ = u.after n

        state₁ : state_of ws₁ [] h₁ p₁ ≡ with_made (state_of ws [] h p) (row_of v)
        state₁ =
            made_state 0 (row_of v) (state_of ws [] h p) (state_of ws₁ [] h₁ p₁) (p.count ∷ [])
            (sym (u.same 0 []) ∙ outcome_gives 0 (p.count ∷ []) ws₁ [] h₁ p₁ n)

        rows₁ : rows_of old ws₁ ≡ rows_of old ws
        rows₁ =
            rows_kept old p.count p₁.count ws ws₁ pre.room (held_within pre.held) (omega (arith, pre.room, after₁.rows))
            (held_within after₁.held) (made_old pre.held after₁.held (row_of v) state₁)

        mapped₁ : IsCopy ws₁ p₁.count t (get_or (set m t p.count) t 0)
        mapped₁ =
            let a : t < length m = omega (arith, item_top, pre.size, pre.held.few) in
            subst (λ (c : ℕ). IsCopy ws₁ p₁.count t c) (sym (get_or-set_same m t p.count 0 a))
            (made_copy pre.held after₁.held (row_of v) state₁ t item_top (ap (λ (r : model.Row). r.is_leaf) row_copy))

        pub item_rest : ScanPre old t (copier ws₁ h₁ (set m t p.count) p₁)
        item_rest =
            record {
              held = after₁.held;
              size = length-set m t p.count ∙ pre.size;
              top = pre.top;
              room = omega (arith, pre.room, after₁.rows);
              mapped = mapped₁;
            }

        pub item_done : {c₂ : Copier} → ScanPost old t (copier ws₁ h₁ (set m t p.count) p₁) c₂ → ItemPost old t g (copier ws h m p) c₂
        item_done post =
            record {
              updated =
                  record {
                    same = λ z ms.
                        let s₁ = state_of ws₁ ms h₁ p₁ in
                        (post.updated g).same z ms ∙
                        ap (λ (x : model.Table).
                        copy_each z x t g (descendants_from x t (t + 1) (old - (t + 1))) (copied_in (set m t p.count) t 1) s₁)
                        (before_decode old ws₁ ms h₁ p₁ (omega (arith, pre.room, after₁.rows)) ∙
                        ap (λ (rs : List model.Row). model.table rs (map of_link ms)) rows₁) ∙
                        ap (λ (cs : List Copied).
                        copy_each z (decode_parts old ws ms) t g (descendants_from (decode_parts old ws ms) t (t + 1) (old - (t + 1)))
                        cs s₁)
                        (copied_in_top m t p.count (omega (arith, pre.top, pre.room, pre.size, pre.held.few)) (omega (
                          arith,
                          pre.held.few,
                        ))) ∙
                        then_goes (rest z ms) z (p.count ∷ []) ws₁ ms h₁ p₁ n (whole z ms);
                    after = λ q. after_then after₁ ((post.updated g).after q);
                  };
              before = λ q. post.before q ∙ rows₁;
            }

-- ALL ITEMS: the rest from where it is comes to the whole
pub record Inserting (v : List ℕ) (g : ℕ) (c₀ c : Copier) (k : ℕ) : Type 0 where
  pub after : After c₀.rows c₀.history c₀.progress c.rows c.history c.progress
  pub size : length c.map ≡ max_rows
  pub within : k ≤ length v
  pub same : rows_of c₀.progress.count c.rows ≡ rows_of c₀.progress.count c₀.rows
  pub rest : (z : ℕ) (ms : List ℕ) →
      copy_all z (decode_parts c₀.progress.count c₀.rows ms) (drop k v) g (state_of c.rows ms c.history c.progress) ≡
      copy_all z (decode_parts c₀.progress.count c₀.rows ms) v g (state_of c₀.rows ms c₀.history c₀.progress)

module _ {ws₀ h₀ m₀ : List ℕ} {p₀ : Progress} {v : List ℕ} {g : ℕ} (pre : ItemsPre v g (copier ws₀ h₀ m₀ p₀)) where
  pub inserting_start : Inserting v g (copier ws₀ h₀ m₀ p₀) (copier ws₀ h₀ m₀ p₀) 0
  inserting_start =
      record {
        after = after_self pre.held;
        size = pre.size;
        within = omega arith;
        same = refl;
        rest = λ z ms. refl;
      }

  module _ {ws h m : List ℕ} {p : Progress} {k : ℕ} (c : Inserting v g (copier ws₀ h₀ m₀ p₀) (copier ws h m p) k) where
    pub inserting_end : length v ≤ k → ItemsPost v g (copier ws₀ h₀ m₀ p₀) (copier ws h m p)
    unfolding copy_all
    inserting_end l =
        record {
          same = λ z ms.
              outcome_gives z [] ws ms h p c.after.held.fine ∙
              ap (λ (is : List ℕ). copy_all z (decode_parts p₀.count ws₀ ms) is g (state_of ws ms h p)) (sym (drop_of_length-le v l)) ∙
              c.rest z ms;
          after = λ q. c.after;
        }

    module _ (more : k < length v) {i : ℕ} (e : i ≡ get_or v k 0) where
      target : model.is_element (decode_parts p.count ws []) g ≡ true
      target =
          let a : g < p₀.count = target_low pre.held g pre.target in
          is_element_by (decode_parts p.count ws []) g (omega (arith, c.after.rows, held_count c.after.held []))
          (ap (λ (r : model.Row). r.is_leaf)
          (sym (row_before ws [] p₀.count p.count c.after.rows (held_within c.after.held) g a) ∙
          ap (λ (rs : List model.Row). get_or rs g model.no_row) c.same) ∙
          (is_element_at (decode_parts p₀.count ws₀ []) g pre.target).1)

      pub inserting_item : ItemPre p₀.count i g (copier ws h m p)
      inserting_item =
          record {
            held = c.after.held;
            size = c.size;
            top = subst (λ (j : ℕ). j < p₀.count) (sym e) (pre.items k more);
            room = c.after.rows;
            target = target;
          }

      module _ {ws' h' m' : List ℕ} {r : Progress} (post : ItemPost p₀.count i g (copier ws h m p) (copier ws' h' m' r)) where
        abbrev next : (z : ℕ) (ms : List ℕ) → State → Out
        next z ms u = copy_all z (decode_parts p₀.count ws₀ ms) (drop (k + 1) v) g u

        turn : (z : ℕ) (ms : List ℕ) →
            then_row (outcome z [] ws' ms h' r) (next z ms) ≡ copy_all z (decode_parts p₀.count ws₀ ms) v g (state_of ws₀ ms h₀ p₀)
        unfolding copy_all
        turn z ms =
            let x = decode_parts p₀.count ws₀ ms in
            let s = state_of ws ms h p in
            ap (λ (o : Out). then_row o (next z ms))
            (post.updated.same z ms ∙
            ap (λ (y : model.Table). copy_each z y i g (subtree y i) [] s)
            (before_decode p₀.count ws ms h p c.after.rows ∙
            ap (λ (rs : List model.Row). model.table rs (map of_link ms)) c.same)) ∙
            ap (λ (j : ℕ). copy_all z x (j ∷ drop (k + 1) v) g s) e ∙
            ap (λ (is : List ℕ). copy_all z x is g s) (sym (drop_next v k 0 more)) ∙ c.rest z ms

        pub inserting_refused : (r.number ≡ 0 → ⊥) → ItemsPost v g (copier ws₀ h₀ m₀ p₀) (copier ws' h' m' r)
        inserting_refused n = then_refused next [] n turn

        pub inserting_again : r.number ≡ 0 → length m' ≡ max_rows → Inserting v g (copier ws₀ h₀ m₀ p₀) (copier ws' h' m' r) (k + 1)
        inserting_again n l =
            record {
              after = after_then c.after (post.updated.after n);
              size = l;
              within = omega arith;
              same = post.before n ∙ c.same;
              rest = λ z ms. then_goes (next z ms) z [] ws' ms h' r n (turn z ms);
            }

-- THE TARGET, by the tests
module _ {ws h : List ℕ} {p : Progress} {v w : List ℕ} (pre : InsertPre ws h p v w) where
  module _ (one : length w ≡ 1) {g : ℕ} (e : g ≡ get_or w 0 0) where
    pub insert_low : g < p.count
    insert_low = subst (λ (j : ℕ). j < p.count) (sym e) (pre.targets 0 (omega arith))

    kind : (ms : List ℕ) → model.is_element (decode_parts p.count ws ms) (get_or w 0 0) ≡ not (eqb (kind_in (get_or ws g 0)) leaf_bits)
    kind ms =
        ap (model.is_element (decode_parts p.count ws ms)) (sym e) ∙
        element_kind p.count ws ms (held_within pre.held) g insert_low

    module _ (l : kind_in (get_or ws g 0) ≡ leaf_bits → ⊥) where
      pub insert_items : {m : List ℕ} → length m ≡ max_rows → ItemsPre v g (copier ws h m p)
      insert_items q =
          record {
            held = pre.held;
            size = q;
            items = pre.items;
            target = ap (model.is_element (decode_parts p.count ws [])) e ∙ kind [] ∙ rw (ne_eqb (kind_in (get_or ws g 0)) leaf_bits l);
          }

      pub insert_done : {ws' h' : List ℕ} {r : Progress} → Updated (λ z s. copy_all z s.plan v g s) [] ws h p ws' h' r →
          Updated (λ z s. inserted z v w s) [] ws h p ws' h' r
      insert_done u =
          record {
            same = λ z ms.
                let b : model.is_element (decode_parts p.count ws ms) (get_or w 0 0) ≡ true =
                kind ms ∙ rw (ne_eqb (kind_in (get_or ws g 0)) leaf_bits l) in
                u.same z ms ∙ ap (λ (j : ℕ). copy_all z (decode_parts p.count ws ms) v j (state_of ws ms h p)) e ∙
                sym (cond_true (eqb (length w) 1 && model.is_element (decode_parts p.count ws ms) (get_or w 0 0)) _ _
                (and_both (eqb (length w) 1) _ (eq-eqb (length w) 1 one) b));
            after = u.after;
          }
