-- Undo's parts: a record undone on the packed rows, and all of them back to front.
use mathlib.Core.Path.{◌≡◌, refl, ap, sym, ◌∙◌, subst, subst₂}
use mathlib.Core.Bool.{Bool, true, false, not, cond}
use mathlib.Core.List.{List, ◌∷◌}
use mathlib.Core.Option.{some}
use Prim.Native.Nat.{ℕ, suc, ◌+◌, ◌-◌, ◌≤◌, ◌<◌}
use native.Mathlib.Omega.{arith}
use lib.Dec.{ltb, eqb}
use lib.ListN.{length, get_or, take, drop, set}
use borrow.Author.Tests.{ltb-true, eqb-true}
use Rattle.model.specs.Limits.{max_rows}
use Rattle.model.specs.Refusal.{refusal, link_at}
use Rattle.model.specs.Table as model
use Rattle.model.specs.Stored.{number_at}
use mathlib.Core.Logic.{◌⊎◌, inl, inr}
use Rattle.run_updates.specs.HistoryKinds.{byte_of}
use Rattle.run_updates.specs.declared.history.Kind.{Kind}
use Rattle.run_updates.specs.declared.history.Kind.TheVariants.{Element, Leaf}
use Rattle.model.specs.History.{made, cut, history_form, history_size, record_in, cut_kind, made_size, cut_size}
use Rattle.model.specs.Undo.{made_fits, cut_fits, undo_fits, undone, refused, undo_all}
use Rattle.model.proofs.FormLaws.{form_cases}
use Rattle.model.proofs.ListLaws.{drop_all}
use Rattle.model.proofs.BoolLaws.{and_left, cond_eq, cond_ne}
use Rattle.model.proofs.TestLaws.{and_four, and_five}
use Rattle.plan_table.specs.Packed.{with_link, decode_parts, Canonical, link_room}
use Rattle.plan_table.proofs.PackedLaws.{of_link_link_of, count_decode, decode_linked, canonical_linked, canonical_pop, decode_pop}
use Rattle.run_undo.specs.Undoing.{IsWhole, undoing, FitPre, row_made, BackPre, BackPost, AllPre, AllPost}
use Rattle.plan_table.specs.Results.{End}

-- THE RECORD at the front, by its kind. The byte of a row made is no cut link's
pub made_byte : {k : Kind} {b : ℕ} → byte_of k ≡ b → (k ≡ Element) ⊎ (k ≡ Leaf) → b ≡ cut_kind → ⊥
made_byte e (inl h) q = let r = ap byte_of h in omega arith
made_byte e (inr h) q = let r = ap byte_of h in omega arith

record_cut : (s : List ℕ) → get_or s 0 0 ≡ cut_kind → record_in s ≡ cut (number_at s 1) (number_at s 3)
record_cut s kind = ap (λ (k : ℕ). (history_form k).entry s) kind

module _ (s : List ℕ) (kind : get_or s 0 0 ≡ cut_kind → ⊥) (some : 0 < history_size (get_or s 0 0)) where
  record_made : record_in s ≡ made (number_at s 1) (row_made s)
  record_made =
      form_cases (λ f. 0 < f.size → f.entry s ≡ made (number_at s 1) (row_made s)) (get_or s 0 0) (λ e _. rw e) (λ e _. rw e)
      (λ e _. absurd (kind e)) (λ _ _ _ h. absurd (omega arith)) some

  size_made : history_size (get_or s 0 0) ≡ made_size
  size_made =
      form_cases (λ f. 0 < f.size → f.size ≡ made_size) (get_or s 0 0) (λ e _. refl) (λ e _. refl) (λ e _. absurd (kind e))
      (λ _ _ _ h. absurd (omega arith)) some

-- ONE RECORD UNDONE
module _ {ws : List ℕ} {n : ℕ} {s : List ℕ} (pre : BackPre ws n s) (ms : List ℕ) where
  abbrev x : model.Table
  x = decode_parts n ws ms

  within : n ≤ length ws
  within = omega (arith, pre.rows, pre.few)

  refused_record : undo_fits x (record_in s) ≡ false → BackPost ws ms n s ws (record { number = 6; place = 0; count = 0 })
  refused_record e =
      record {
        fit = e;
        link = λ f. refl;
        table = λ f. absurd (omega arith);
        few = λ f. absurd (omega arith);
        canonical = λ f. absurd (omega arith);
      }

  module _ (kind : get_or s 0 0 ≡ cut_kind) where
    pub cut_pre : FitPre ws n s cut_size
    cut_pre =
        let e : history_size (get_or s 0 0) ≡ cut_size = ap history_size kind in
        record { rows = pre.rows; few = pre.few; whole = omega (arith, pre.whole.1) }

    pub cut_refused : cut_fits x (number_at s 1) (number_at s 3) ≡ false →
        BackPost ws ms n s ws (record { number = 6; place = 0; count = 0 })
    cut_refused e = refused_record (ap (undo_fits x) (record_cut s kind) ∙ e)

    module _ (fit : cut_fits x (number_at s 1) (number_at s 3) ≡ true) where
      tests : (ltb (number_at s 1) (model.count x) ≡ true) × (not (model.has_parent (model.row_at x (number_at s 1)).parent) ≡ true) ×
          (not (model.is_marked x (number_at s 1)) ≡ true) × (model.is_lower_element x (number_at s 1) (number_at s 3) ≡ true)
      tests =
          and_four (ltb (number_at s 1) (model.count x)) (not (model.has_parent (model.row_at x (number_at s 1)).parent))
          (not (model.is_marked x (number_at s 1))) (model.is_lower_element x (number_at s 1) (number_at s 3)) fit

      pub cut_row_low : number_at s 1 < n
      cut_row_low = omega (arith, ltb-true (number_at s 1) (model.count x) tests.0, count_decode n ws ms within)

      pub cut_parent_low : number_at s 3 < number_at s 1
      cut_parent_low =
          ltb-true (number_at s 3) (number_at s 1)
          (and_left (ltb (number_at s 3) (number_at s 1)) (model.is_element x (number_at s 3)) tests.3)

      abbrev w : ℕ
      w = get_or ws (number_at s 1) 0

      linked_back :
          BackPost ws ms n s (set ws (number_at s 1) (with_link w (number_at s 3 + 1))) (record { number = 0; place = 0; count = n })
      linked_back =
          let small : number_at s 3 + 1 < link_room = omega (arith, cut_parent_low, cut_row_low, pre.few) in
          record {
            fit = ap (undo_fits x) (record_cut s kind) ∙ fit;
            link = λ f. absurd (f refl);
            table = λ f.
                decode_linked n ws pre.canonical within (number_at s 1) cut_row_low (number_at s 3 + 1) small ms ∙
                ap (model.linked x (number_at s 1)) (of_link_link_of (some (number_at s 3))) ∙ sym (ap (undone x) (record_cut s kind));
            few = λ f. pre.few;
            canonical = λ f. canonical_linked n ws pre.canonical within (number_at s 1) cut_row_low (number_at s 3 + 1) small;
          }

      -- at the numbers read
      pub cut_back : {i q : ℕ} → i ≡ number_at s 1 → q ≡ number_at s 3 → {w' : ℕ} →
          w' ≡ with_link (get_or ws i 0) (q + 1) →
          BackPost ws ms n s (set ws i w') (record { number = 0; place = 0; count = n })
      cut_back {i} {q} a b {w'} f =
          subst₂ (λ (j v : ℕ). BackPost ws ms n s (set ws j v) (record { number = 0; place = 0; count = n })) (sym a)
          (sym (f ∙ ap (λ (j : ℕ). with_link (get_or ws j 0) (q + 1)) a ∙ ap (λ (j : ℕ). with_link w (j + 1)) b)) linked_back

  module _ (kind : get_or s 0 0 ≡ cut_kind → ⊥) where
    pub made_pre : FitPre ws n s made_size
    made_pre =
        record { rows = pre.rows; few = pre.few; whole = omega (arith, pre.whole.1, size_made s kind pre.whole.0) }

    pub made_refused : made_fits x (number_at s 1) (row_made s) ≡ false →
        BackPost ws ms n s ws (record { number = 6; place = 0; count = 0 })
    made_refused e = refused_record (ap (undo_fits x) (record_made s kind pre.whole.0) ∙ e)

    module _ (fit : made_fits x (number_at s 1) (row_made s) ≡ true) where
      pub made_some : 0 < n
      made_some =
          omega (
            arith,
            eqb-true (number_at s 1 + 1) (model.count x)
                (and_five (eqb (number_at s 1 + 1) (model.count x)) (not (model.is_marked x (number_at s 1))) _ _ _ fit).0,
            count_decode n ws ms within,
          )

      pub made_back : BackPost ws ms n s (set ws (n - 1) 0) (record { number = 0; place = 0; count = n - 1 })
      made_back =
          record {
            fit = ap (undo_fits x) (record_made s kind pre.whole.0) ∙ fit;
            link = λ f. absurd (f refl);
            table = λ f.
                decode_pop n ws pre.canonical pre.rows pre.few made_some ms ∙
                sym (ap (undone x) (record_made s kind pre.whole.0));
            few = λ f. omega (arith, pre.few);
            canonical = λ f. canonical_pop n ws pre.canonical pre.rows pre.few made_some;
          }

-- ALL OF THEM, the last first
pub record Backing (ws₀ ms : List ℕ) (n₀ : ℕ) (b m : List ℕ) (k₀ : ℕ) (ws : List ℕ) (n k : ℕ) : Type 0 where
  pub rows : length ws ≡ max_rows
  pub few : n ≤ max_rows
  pub canonical : Canonical n ws
  pub left : k ≤ k₀
  pub rest : undo_all (decode_parts n ws ms) (undoing b m k) ≡ undo_all (decode_parts n₀ ws₀ ms) (undoing b m k₀)

module _ {ws₀ : List ℕ} {n₀ : ℕ} {b m : List ℕ} {k₀ : ℕ} (pre : AllPre ws₀ n₀ b m k₀) (ms : List ℕ) where
  pub backing_start : Backing ws₀ ms n₀ b m k₀ ws₀ n₀ k₀
  backing_start = record { rows = pre.rows; few = pre.few; canonical = pre.canonical; left = omega arith; rest = refl }

  module _ {ws : List ℕ} {n k : ℕ} (c : Backing ws₀ ms n₀ b m k₀ ws n k) where
    pub backing_end : k ≡ 0 → AllPost ws₀ ms n₀ b m k₀ ws (record { number = 0; place = 0; count = n })
    unfolding undo_all undoing
    backing_end e =
        record {
          fine = λ f. ap (λ (j : ℕ). undo_all (decode_parts n ws ms) (undoing b m j)) (sym e) ∙ c.rest;
          refused = λ f. absurd (f refl);
          few = λ f. c.few;
          canonical = λ f. c.canonical;
        }

    module _ (more : 0 < k) {at : ℕ} (place : at ≡ get_or m (k - 1) 0) where
      whole : (at ≤ length b) × IsWhole (drop at b)
      whole =
          subst (λ (j : ℕ). (j ≤ length b) × IsWhole (drop j b)) (sym place)
          (pre.whole (k - 1) (omega (arith, c.left)))

      pub backing_at : at ≤ length b
      backing_at = whole.0

      pub backing_record : BackPre ws n (take (length b - at) (drop at b))
      backing_record =
          record {
            rows = c.rows;
            few = c.few;
            canonical = c.canonical;
            whole = subst IsWhole (sym (drop_all b at)) whole.1;
          }

      module _ {ws' : List ℕ} {r : End} (post : BackPost ws ms n (take (length b - at) (drop at b)) ws' r) where
        abbrev y : model.Table
        y = decode_parts n ws ms

        turn : cond (eqb r.number 0) (undo_all (undone y (record_in (drop at b))) (undoing b m (k - 1))) (refused (link_at at)) ≡
            undo_all (decode_parts n₀ ws₀ ms) (undoing b m k₀)
        unfolding undo_all undoing
        turn =
            let e : k ≡ suc (k - 1) = omega arith in
            ap (λ (t : Bool). cond t (undo_all (undone y (record_in (drop at b))) (undoing b m (k - 1))) (refused (link_at at)))
            (sym post.fit ∙ ap (λ (d : List ℕ). undo_fits y (record_in d)) (drop_all b at)) ∙
            ap (λ (j : ℕ). undo_all y (record { at = j; entry = record_in (drop j b) } ∷ undoing b m (k - 1))) place ∙
            ap (λ (j : ℕ). undo_all y (undoing b m j)) (sym e) ∙ c.rest

        pub backing_refused : (r.number ≡ 0 → ⊥) → AllPost ws₀ ms n₀ b m k₀ ws' (record { number = r.number; place = at; count = 0 })
        backing_refused z =
            record {
              fine = λ f. absurd (z f);
              refused = λ f.
                  ap (λ (j : ℕ). refused (refusal j at)) (post.link z) ∙
                  sym (cond_ne (undo_all (undone y (record_in (drop at b))) (undoing b m (k - 1))) (refused (link_at
                  at)) z) ∙
                  turn;
              few = λ f. absurd (z f);
              canonical = λ f. absurd (z f);
            }

        pub backing_again : r.number ≡ 0 → length ws' ≡ length ws → Backing ws₀ ms n₀ b m k₀ ws' r.count (k - 1)
        backing_again z l =
            record {
              rows = l ∙ c.rows;
              few = post.few z;
              canonical = post.canonical z;
              left = omega (arith, c.left);
              rest =
                  ap (λ (t : model.Table). undo_all t (undoing b m (k - 1)))
                  (post.table z ∙ ap (λ (d : List ℕ). undone y (record_in d)) (drop_all b at)) ∙
                  sym (cond_eq (undo_all (undone y (record_in (drop at b))) (undoing b m (k - 1))) (refused (link_at at)) z) ∙
                  turn;
            }
