-- The scan past the top: the loop's invariant from turn to turn.
use mathlib.Core.Path.{◌≡◌, refl, ap, sym, ◌∙◌, subst}
use mathlib.Core.Bool.{◌||◌, not}
use mathlib.Core.Logic.{inr}
use mathlib.Core.List.{List, []}
use mathlib.Core.Option.{some}
use Prim.Native.Nat.{ℕ, ◌+◌, ◌-◌, ◌≤◌, ◌<◌}
use native.Mathlib.Omega.{arith}
use lib.Dec.{eqb}
use lib.ListN.{length, get_or, length-set}
use borrow.Author.Tests.{eq-eqb, ne_eqb}
use Rattle.model.specs.Table as model
use Rattle.model.specs.Step.{is_below, collect}
use Rattle.model.specs.Run.{State, Out, then_row, copy_each, descendants_from}
use Rattle.model.proofs.TableLaws.{parent_count}
use Rattle.model.specs.Limits.{max_rows}
use Rattle.plan_table.specs.Packed.{of_link, row_of, rows_of, decode_parts, link_in}
use Rattle.plan_table.proofs.PackedLaws.{count_decode, row_at_decode}
use Rattle.run_updates.specs.State.{Progress, state_of, outcome, Held, After}
use Rattle.run_insert.specs.Inserting.{Copier, copier, copied_in, next_link, copy_by, IsCopy, Mapped, no_copy}
use Rattle.run_insert.specs.Inserting.{NextPre, NextPost, ScanPre, ScanPost}
use Rattle.run_updates.proofs.StateLaws.{held_within, held_count, after_self, after_then, outcome_gives, then_goes, then_refused}
use Rattle.run_insert.proofs.InsertLawsScan.{known_next, copy_turn}
use Rattle.run_insert.proofs.InsertLaws.{before_decode, row_before, rows_kept, next_old, next_mapped}

-- THE SCAN: what is copied from row j on comes to what is copied past top
pub record Copying (old t : ℕ) (c₀ c : Copier) (j : ℕ) : Type 0 where
  pub after : After c₀.rows c₀.history c₀.progress c.rows c.history c.progress
  pub size : length c.map ≡ max_rows
  pub low : t < j
  pub high : j ≤ old
  pub same : rows_of old c.rows ≡ rows_of old c₀.rows
  pub mapped : Mapped c.rows c.map c.progress.count t j
  pub known : (ms : List ℕ) (k : ℕ) → t ≤ k → k < j →
      eqb (get_or c.map k 0) no_copy ≡ not (eqb k t || is_below (decode_parts old c₀.rows ms) t k)
  pub rest : (g z : ℕ) (ms : List ℕ) →
      copy_each z (decode_parts old c₀.rows ms) t g (descendants_from (decode_parts old c₀.rows ms) t j (old - j))
      (copied_in c.map t (j - t)) (state_of c.rows ms c.history c.progress) ≡
      copy_each z (decode_parts old c₀.rows ms) t g (descendants_from (decode_parts old c₀.rows ms) t (t + 1) (old - (t + 1)))
      (copied_in c₀.map t 1) (state_of c₀.rows ms c₀.history c₀.progress)

-- parents are lower in the table before
pub lower_before : {ws h : List ℕ} {p : Progress} → Held ws h p → (old : ℕ) → old ≤ p.count → (ms : List ℕ) (i q : ℕ) →
    (model.row_at (decode_parts old ws ms) i).parent ≡ some q → q < i
lower_before {ws} {h} {p} held old l ms i q e =
    let f : p.count ≤ length ws = held_within held in
    let k : model.count (decode_parts old ws ms) ≡ old = count_decode old ws ms (omega arith) in
    let g : i < old = omega (arith, parent_count (decode_parts old ws ms) i q e) in
    (held.tree.parents i q (ap (λ (r : model.Row). r.parent) (sym (row_before ws ms old p.count l f i g)) ∙ e)).0

module _ {old t : ℕ} {ws₀ h₀ m₀ : List ℕ} {p₀ : Progress} (pre : ScanPre old t (copier ws₀ h₀ m₀ p₀)) where
  pub copying_start : Copying old t (copier ws₀ h₀ m₀ p₀) (copier ws₀ h₀ m₀ p₀) (t + 1)
  copying_start =
      record {
        after = after_self pre.held;
        size = pre.size;
        low = omega arith;
        high = omega (arith, pre.top);
        same = refl;
        mapped = λ k a b.
            let e : t ≡ k = omega arith in
            inr (subst (λ (i : ℕ). IsCopy ws₀ p₀.count i (get_or m₀ i 0)) e pre.mapped);
        known = λ ms k a b.
            let e : k ≡ t = omega arith in
            let f : get_or m₀ t 0 ≡ no_copy → ⊥ = λ q. omega (arith, pre.mapped.0, pre.held.few) in
            rw (e, ne_eqb (get_or m₀ t 0) no_copy f, eq-eqb t t refl);
        rest = λ g z ms.
            let e : t + 1 - t ≡ 1 = omega arith in
            ap (λ (i : ℕ).
            copy_each z (decode_parts old ws₀ ms) t g (descendants_from (decode_parts old ws₀ ms) t (t + 1) (old - (t + 1)))
            (copied_in m₀ t i)
            (state_of ws₀ ms h₀ p₀)) e;
      }

  module _ {ws h m : List ℕ} {p : Progress} {j : ℕ} (c : Copying old t (copier ws₀ h₀ m₀ p₀) (copier ws h m p) j) where
    pub copying_end : old ≤ j → ScanPost old t (copier ws₀ h₀ m₀ p₀) (copier ws h m p)
    unfolding copy_each collect
    copying_end l =
        record {
          updated = λ g.
              record {
                same = λ z ms.
                    let e : old - j ≡ 0 = omega arith in
                    outcome_gives z [] ws ms h p c.after.held.fine ∙
                    ap (λ (i : ℕ).
                    copy_each z (decode_parts old ws₀ ms) t g (descendants_from (decode_parts old ws₀ ms) t j i) (copied_in m t (j - t))
                    (state_of ws ms h p))
                    (sym e) ∙ c.rest g z ms ∙
                    ap (λ (x : model.Table).
                    copy_each z x t g (descendants_from x t (t + 1) (old - (t + 1))) (copied_in m₀ t 1) (state_of ws₀ ms h₀ p₀))
                    (sym (before_decode old ws₀ ms h₀ p₀ pre.room));
                after = λ q. c.after;
              };
          before = λ q. c.same;
        }

    module _ (more : j < old) where
      pub copying_next : NextPre t j (copier ws h m p)
      copying_next =
          record {
            held = c.after.held;
            size = c.size;
            row = omega (arith, pre.room, c.after.rows);
            mapped = c.mapped;
          }

      row_x : (ms : List ℕ) → model.row_at (decode_parts old ws₀ ms) j ≡ row_of (get_or ws j 0)
      row_x ms =
          let a : old ≤ length ws = omega (arith, pre.room, c.after.rows, held_within c.after.held) in
          ap (λ (rs : List model.Row). get_or rs j model.no_row) (sym c.same) ∙ row_at_decode old ws [] a j more

      parent_x : (ms : List ℕ) → (model.row_at (decode_parts old ws₀ ms) j).parent ≡ of_link (link_in (get_or ws j 0))
      parent_x ms = ap (λ (r : model.Row). r.parent) (row_x ms)

      sized : j < length m
      sized = omega (arith, pre.room, c.after.rows, c.after.held.few, c.size)

      small : p.count < no_copy
      small = omega (arith, c.after.held.few)

      module _ {ws' h' m' : List ℕ} {r : Progress} (post : NextPost t j (copier ws h m p) (copier ws' h' m' r)) where
        abbrev next : (g z : ℕ) (ms : List ℕ) → State → Out
        next g z ms u =
            let x = decode_parts old ws₀ ms in
            copy_each z x t g (descendants_from x t (j + 1) (old - (j + 1))) (copied_in m' t (j + 1 - t)) u

        turn : (g z : ℕ) (ms : List ℕ) →
            then_row (outcome z [] ws' ms h' r) (next g z ms) ≡
            copy_each z (decode_parts old ws₀ ms) t g (descendants_from (decode_parts old ws₀ ms) t (t + 1) (old - (t + 1)))
            (copied_in m₀ t 1)
            (state_of ws₀ ms h₀ p₀)
        turn g z ms =
            let x = decode_parts old ws₀ ms in
            ap (λ (o : Out). then_row o (next g z ms))
            (post.updated.same z ms ∙ ap (λ (q : model.Row). copy_by z q (next_link ws m t j) (state_of ws ms h p)) (sym (row_x ms))) ∙
            sym (copy_turn x (lower_before pre.held old pre.room ms) t j c.low m (link_in (get_or ws j 0)) (parent_x ms) (c.known
            ms)
            p.count small sized m' post.map z g old (state_of ws ms h p) (held_count c.after.held ms) more) ∙
            c.rest g z ms

        pub copying_refused : (r.number ≡ 0 → ⊥) → ScanPost old t (copier ws₀ h₀ m₀ p₀) (copier ws' h' m' r)
        copying_refused n =
            record {
              updated = λ g.
                  then_refused (next g) [] n
                  (λ z ms.
                  turn g z ms ∙
                  ap (λ (y : model.Table).
                  copy_each z y t g (descendants_from y t (t + 1) (old - (t + 1))) (copied_in m₀ t 1) (state_of ws₀ ms h₀ p₀))
                  (sym (before_decode old ws₀ ms h₀ p₀ pre.room)));
              before = λ q. absurd (n q);
            }

        pub copying_again : r.number ≡ 0 → Copying old t (copier ws₀ h₀ m₀ p₀) (copier ws' h' m' r) (j + 1)
        copying_again n =
            let a = post.updated.after n in
            record {
              after = after_then c.after a;
              size = ap length post.map ∙ length-set m j _ ∙ c.size;
              low = omega (arith, c.low);
              high = omega arith;
              same =
                  rows_kept old p.count r.count ws ws' (omega (arith, pre.room, c.after.rows)) (held_within c.after.held)
                  (omega (arith, pre.room, c.after.rows, a.rows)) (held_within a.held) (next_old copying_next post n) ∙ c.same;
              mapped = next_mapped copying_next post n;
              known = λ ms k e f.
                  ap (λ (v : List ℕ). eqb (get_or v k 0) no_copy) post.map ∙
                  known_next (decode_parts old ws₀ ms) (lower_before pre.held old pre.room ms) t j c.low m (link_in (get_or ws j 0))
                  (parent_x ms) (c.known ms) p.count small sized k e f;
              rest = λ g z ms. then_goes (next g z ms) z [] ws' ms h' r n (turn g z ms);
            }
