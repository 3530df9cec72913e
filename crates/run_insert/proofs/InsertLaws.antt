-- Insert's parts, from the tests on each way out: a row made, a row copied for a target, and one row of the scan.
use mathlib.Core.Path.{◌≡◌, refl, ap, sym, ◌∙◌, subst}
use mathlib.Core.Bool.{true, false, cond}
use mathlib.Core.Logic.{◌⊎◌, inl, inr, ⊎_elim}
use mathlib.Core.List.{List, [], ◌∷◌, map}
use mathlib.Core.Option.{some}
use Prim.Native.Nat.{ℕ, ◌+◌, ◌-◌, ◌≤◌, ◌<◌}
use native.Mathlib.Omega.{arith}
use native.Mathlib.Numerals.{add-one}
use lib.Dec.{ltb, eqb}
use lib.ListN.{length, get_or, set}
use lib.Seq.{get_or-set_same, get_or-set_other, ext_get_or}
use borrow.Author.Tests.{lt-ltb, ltb-true, ltb-false}
use Rattle.model.specs.Table as model
use Rattle.model.specs.Run.{State, Out, refused, gives, new_row, with_made, then_row}
use Rattle.model.proofs.BoolLaws.{by_cases, and_both, eq_cases, cond_eq, cond_ne}
use Rattle.model.proofs.TableLaws.{is_element_at, is_element_by}
use Rattle.model.proofs.GrowLaws.{count_with_row, row_at_with_row_old, row_at_with_row_new}
use Rattle.model.specs.Limits.{max_rows, max_links}
use Rattle.plan_table.specs.Packed.{of_link, row_of, rows_of, is_packed_row, with_link, decode_parts, link_in, link_room}
use Rattle.plan_table.proofs.PackedLaws.{of_link_link_of, count_decode, row_at_decode, rows_take, row_of_with_link, packed_linked}
use Rattle.plan_table.proofs.DecodeLaws.{parent_at, link_low}
use Rattle.run_updates.specs.State.{Progress, state_of, outcome, Held, Updated}
use Rattle.run_updates.specs.Updating.{NewPre}
use Rattle.run_insert.specs.Inserting.{copier, before, copy_link, next_link, copy_by, IsCopy, Mapped, NextPre, NextPost, no_copy}
use Rattle.run_updates.proofs.StateLaws.{held_within, held_count, after_self, outcome_gives}
use Rattle.model.proofs.LeadsLaws.{new_row_full, new_row_room}
use Rattle.run_insert.proofs.InsertLawsScan.{linked_at}

-- STATES after a new row
then_state : (o : Out) (u : State) → gives [] u ≡ then_row o (λ (t : State). gives [] t) → (v : List ℕ) × (o ≡ gives v u)
then_state (refused x) u e = absurd (let z : ◌≡◌ {A = ℕ} 0 1 = cc in omega arith)
then_state (gives v s) u e = (v, (cc))

pub made_state : (z : ℕ) (r : model.Row) (s u : State) (v : List ℕ) → new_row z r s ≡ gives v u → u ≡ with_made s r
made_state z r s u v e =
    by_cases (ltb (model.count s.plan) max_rows)
    (λ a. let q = new_row_room z r s (ltb-true (model.count s.plan) max_rows a) in (cc))
    (λ a.
    let q = new_row_full z r s (ltb-false (model.count s.plan) max_rows a) in
    absurd (let y : ◌≡◌ {A = ℕ} 0 1 = cc in omega arith))

outcome_then : (z : ℕ) (v ws ms h : List ℕ) (p : Progress) → outcome z [] ws ms h p ≡ then_row (outcome z v ws ms h p) (λ (u : State).
    gives [] u)
outcome_then z v ws ms h p = by_cases (eqb p.number 0) (λ e. rw e) (λ e. rw e)

-- ROWS BELOW a count that were there before
pub before_decode : (old : ℕ) (ws ms h : List ℕ) (p : Progress) → old ≤ p.count → before old (state_of ws ms h p) ≡ decode_parts old ws ms
before_decode old ws ms h p l =
    ap (λ (rs : List model.Row). model.table rs (map of_link ms)) (rows_take old p.count ws l)

-- a row is the same in the table and in the table before
module _ (ws ms : List ℕ) (old n : ℕ) (l : old ≤ n) (w : n ≤ length ws) where
  pub row_before : (i : ℕ) → i < old → model.row_at (decode_parts old ws ms) i ≡ model.row_at (decode_parts n ws []) i
  row_before i h = row_at_decode old ws ms (omega arith) i h ∙ sym (row_at_decode n ws [] w i (omega arith))

-- rows by their numbers
pub rows_kept : (old n n' : ℕ) (ws ws' : List ℕ) → old ≤ n → n ≤ length ws → old ≤ n' → n' ≤ length ws' →
    ((c : ℕ) → c < n → model.row_at (decode_parts n' ws' []) c ≡ model.row_at (decode_parts n ws []) c) → rows_of old ws' ≡ rows_of old ws
rows_kept old n n' ws ws' a b c d same =
    let k : length (rows_of old ws) ≡ old = count_decode old ws [] (omega arith) in
    let k' : length (rows_of old ws') ≡ old = count_decode old ws' [] (omega arith) in
    ext_get_or model.no_row (rows_of old ws') (rows_of old ws) (k' ∙ sym k)
    (λ i h.
    row_before ws' [] old n' c d i (omega arith) ∙ same i (omega arith) ∙ sym (row_before ws [] old n a b i (omega arith)))

-- A ROW MADE: the rows that were there, and the new one
module _ {ws h : List ℕ} {p : Progress} (held : Held ws h p) {ws' h' : List ℕ} {r : Progress} (held' : Held ws' h' r) (row : model.Row)
    (e : state_of ws' [] h' r ≡ with_made (state_of ws [] h p) row) where
  made_table : decode_parts r.count ws' [] ≡ model.with_row (decode_parts p.count ws []) row
  made_table = ap (λ (s : State). s.plan) e

  made_count : r.count ≡ p.count + 1
  made_count =
      let k : model.count (decode_parts r.count ws' []) ≡ model.count (decode_parts p.count ws []) + 1 =
      ap model.count made_table ∙ count_with_row (decode_parts p.count ws []) row ∙
      sym (add-one (model.count (decode_parts p.count ws []))) in
      omega (arith, held_count held [], held_count held' [])

  pub made_old : (c : ℕ) → c < p.count → model.row_at (decode_parts r.count ws' []) c ≡ model.row_at (decode_parts p.count ws []) c
  made_old c a =
      ap (λ (x : model.Table). model.row_at x c) made_table ∙
      row_at_with_row_old (decode_parts p.count ws []) row c (omega (arith, held_count held []))

  made_new : model.row_at (decode_parts r.count ws' []) p.count ≡ row
  made_new =
      ap (λ (x : model.Table). model.row_at x p.count) made_table ∙
      ap (model.row_at (model.with_row (decode_parts p.count ws []) row)) (sym (held_count held [])) ∙
      row_at_with_row_new (decode_parts p.count ws []) row

  -- it is a copy of a row of the same kind
  pub made_copy : (i : ℕ) → i < p.count → row.is_leaf ≡ (row_of (get_or ws i 0)).is_leaf → IsCopy ws' r.count i p.count
  made_copy i a k = (
    omega (arith, made_count),
    ap (λ (q : model.Row). q.is_leaf) made_new ∙ k ∙
        ap (λ (q : model.Row). q.is_leaf) (sym (made_old i a ∙ row_at_decode p.count ws [] (held_within held) i a)),
  )

-- A COPY of a row for a target fits
pub target_low : {ws h : List ℕ} {p : Progress} → Held ws h p → (g : ℕ) → model.is_element (decode_parts p.count ws []) g ≡ true →
    g < p.count
target_low {ws} {h} {p} held g e = omega (arith, (is_element_at (decode_parts p.count ws []) g e).0, held_count held [])

module _ {ws h : List ℕ} {p : Progress} (held : Held ws h p) (i g : ℕ) (row : i < p.count)
    (target : model.is_element (decode_parts p.count ws []) g ≡ true) {v : ℕ} (packed : v ≡ with_link (get_or ws i 0) (g + 1)) where
  small : g + 1 < link_room
  small = omega (arith, target_low held g target, held.few)

  pub copy_row_lem : row_of v ≡ model.with_parent (row_of (get_or ws i 0)) (some g)
  copy_row_lem =
      ap row_of packed ∙ row_of_with_link (get_or ws i 0) (g + 1) small ∙
      ap (model.with_parent (row_of (get_or ws i 0))) (of_link_link_of (some g))

  pub copy_pre : NewPre ws h p v
  copy_pre =
      record {
        held = held;
        packed = ap is_packed_row packed ∙ packed_linked p.count ws held.canonical (held_within held) i row (g + 1) small;
        tag =
            ap model.tag_fits copy_row_lem ∙ ap model.tag_fits (sym (row_at_decode p.count ws [] (held_within held) i row)) ∙
            held.tree.tags i (omega (arith, row, held_count held []));
        parent =
            ap (λ (r : model.Row). model.parent_fits (decode_parts p.count ws []) p.count r.parent) copy_row_lem ∙
            and_both (ltb g p.count) (model.is_element (decode_parts p.count ws []) g) (lt-ltb g p.count (target_low held g target))
            target;
      }

-- ONE ROW of the scan
module _ {ws h m : List ℕ} {p : Progress} {t j : ℕ} (pre : NextPre t j (copier ws h m p)) where
  abbrev w : ℕ
  w = get_or ws j 0

  abbrev l : ℕ
  l = link_in w

  abbrev link : ℕ
  link = next_link ws m t j

  parent_here : (l ≡ 0 → ⊥) → (l - 1 < j) × ((model.row_at (decode_parts p.count ws []) (l - 1)).is_leaf ≡ false)
  parent_here f = pre.held.tree.parents j (l - 1) (parent_at p.count ws [] (held_within pre.held) j pre.row f)

  pub next_bound : l ≤ length m
  next_bound =
      omega (
        arith,
        link_low p.count ws [] (held_within pre.held) j pre.row (λ q e. (pre.held.tree.parents j q e).0),
        pre.size,
        pre.held.few,
        pre.row,
      )

  pub next_none : link ≡ 0 → NextPost t j (copier ws h m p) (copier ws h (set m j no_copy) p)
  next_none e =
      record {
        updated =
            record {
              same = λ z ms.
                  outcome_gives z [] ws ms h p pre.held.fine ∙ sym (cond_eq (gives [] (state_of ws ms h p)) _ e);
              after = λ q. after_self pre.held;
            };
        map = ap (set m j) (sym (cond_eq no_copy p.count e));
      }

  module _ (n : link ≡ 0 → ⊥) where
    copy_is : IsCopy ws p.count (l - 1) (get_or m (l - 1) 0)
    copy_is =
        let k = linked_at m t l n in
        ⊎_elim (λ e. absurd (k.copied e)) (λ c. c) (pre.mapped (l - 1) k.low (parent_here k.parent).0)

    pub next_small : link < max_links
    next_small = omega (arith, (linked_at m t l n).is, copy_is.0, pre.held.few)

    parent_copy : model.is_element (decode_parts p.count ws []) (get_or m (l - 1) 0) ≡ true
    parent_copy =
        is_element_by (decode_parts p.count ws []) (get_or m (l - 1) 0) (omega (arith, copy_is.0, held_count pre.held []))
        (copy_is.1 ∙ (parent_here (linked_at m t l n).parent).1)

    module _ {v : ℕ} (packed : v ≡ with_link w link) where
      row_copy : row_of v ≡ model.with_parent (row_of w) (of_link link)
      row_copy = ap row_of packed ∙ row_of_with_link w link (omega (arith, next_small))

      pub next_pre : NewPre ws h p v
      next_pre = copy_pre pre.held j (get_or m (l - 1) 0) pre.row parent_copy (packed ∙ ap (with_link w) (linked_at m t l n).is)

      pub next_made : {ws' h' : List ℕ} {r : Progress} → Updated (λ z s. new_row z (row_of v) s) (p.count ∷ []) ws h p ws' h' r →
          NextPost t j (copier ws h m p) (copier ws' h' (set m j p.count) r)
      next_made {ws'} {h'} {r} u =
          record {
            updated =
                record {
                  same = λ z ms.
                      outcome_then z (p.count ∷ []) ws' ms h' r ∙
                      ap (λ (o : Out). then_row o (λ (q : State). gives [] q))
                      (u.same z ms ∙ ap (λ (q : model.Row). new_row z q (state_of ws ms h p)) row_copy) ∙
                      sym (cond_ne (gives [] (state_of ws ms h p)) _ n);
                  after = u.after;
                };
            map = ap (set m j) (sym (cond_ne no_copy p.count n));
          }

  -- the same of the link as the code comes to it
  module _ {k i : ℕ} (e : k ≡ l) (f : i ≡ copy_link m t k) where
    link_is : i ≡ link
    link_is = f ∙ ap (copy_link m t) e

    module _ (n : i ≡ 0 → ⊥) where
      has_link : link ≡ 0 → ⊥
      has_link q = n (link_is ∙ q)

      pub link_small : i < link_room
      link_small = omega (arith, link_is, next_small has_link)

      module _ {v : ℕ} (packed : v ≡ with_link w i) where
        linked_is : v ≡ with_link w link
        linked_is = packed ∙ ap (with_link w) link_is

        pub link_pre : NewPre ws h p v
        link_pre = next_pre has_link linked_is

        pub link_made : {ws' h' : List ℕ} {r : Progress} → Updated (λ z s. new_row z (row_of v) s) (p.count ∷ []) ws h p ws' h' r →
            NextPost t j (copier ws h m p) (copier ws' h' (set m j p.count) r)
        link_made u = next_made has_link linked_is u

  -- the rows after it: those that were there, and the copy
  module _ {ws' h' m' : List ℕ} {r : Progress} (post : NextPost t j (copier ws h m p) (copier ws' h' m' r)) (fine : r.number ≡ 0) where
    gives_state : gives [] (state_of ws' [] h' r) ≡ copy_by 0 (row_of w) link (state_of ws [] h p)
    gives_state = sym (outcome_gives 0 [] ws' [] h' r fine) ∙ post.updated.same 0 []

    state_same : link ≡ 0 → state_of ws' [] h' r ≡ state_of ws [] h p
    state_same e = let q = gives_state ∙ cond_eq (gives [] (state_of ws [] h p)) _ e in (cc)

    state_copy : (link ≡ 0 → ⊥) → state_of ws' [] h' r ≡ with_made (state_of ws [] h p) (model.with_parent (row_of w) (of_link link))
    state_copy n =
        let row = model.with_parent (row_of w) (of_link link) in
        let q = then_state (new_row 0 row (state_of ws [] h p)) (state_of ws' [] h' r)
        (gives_state ∙ cond_ne (gives [] (state_of ws [] h p)) _ n) in
        made_state 0 row (state_of ws [] h p) (state_of ws' [] h' r) q.0 q.1

    held' : Held ws' h' r
    held' = (post.updated.after fine).held

    pub next_old : (c : ℕ) → c < p.count → model.row_at (decode_parts r.count ws' []) c ≡ model.row_at (decode_parts p.count ws []) c
    next_old c a =
        eq_cases link 0 (λ e. ap (λ (s : State). model.row_at s.plan c) (state_same e))
        (λ e. made_old pre.held held' (model.with_parent (row_of w) (of_link link)) (state_copy e) c a)

    next_new : (link ≡ 0 → ⊥) → IsCopy ws' r.count j p.count
    next_new n = made_copy pre.held held' (model.with_parent (row_of w) (of_link link)) (state_copy n) j pre.row refl

    pub next_mapped : Mapped ws' m' r.count t (j + 1)
    next_mapped k a b = eq_cases k j at old
      where
        grown : p.count ≤ r.count
        grown = (post.updated.after fine).rows

        moved : {c d : ℕ} → c ≡ d → (d ≡ no_copy) ⊎ IsCopy ws' r.count k d → (c ≡ no_copy) ⊎ IsCopy ws' r.count k c
        moved {c} {d} e u = subst (λ (i : ℕ). (i ≡ no_copy) ⊎ IsCopy ws' r.count k i) (sym e) u

        old : (k ≡ j → ⊥) → (get_or m' k 0 ≡ no_copy) ⊎ IsCopy ws' r.count k (get_or m' k 0)
        old f =
            moved (ap (λ (v : List ℕ). get_or v k 0) post.map ∙ get_or-set_other m j k (cond (eqb link 0) no_copy p.count) 0 f)
            (⊎_elim (λ e. inl e)
            (λ c.
            let s : k < p.count = omega (arith, pre.row) in
            inr (
              omega (arith, c.0, grown),
              ap (λ (q : model.Row). q.is_leaf) (next_old (get_or m k 0) c.0) ∙ c.1 ∙ ap (λ (q : model.Row). q.is_leaf) (sym (next_old k
                  s)),
            ))
            (pre.mapped k a (omega (arith, f))))

        here : get_or m' j 0 ≡ cond (eqb link 0) no_copy p.count
        here =
            ap (λ (v : List ℕ). get_or v j 0) post.map ∙
            get_or-set_same m j (cond (eqb link 0) no_copy p.count) 0 (omega (arith, pre.row, pre.size, pre.held.few))

        at : k ≡ j → (get_or m' k 0 ≡ no_copy) ⊎ IsCopy ws' r.count k (get_or m' k 0)
        at f =
            eq_cases link 0
            (λ e. inl (ap (λ (i : ℕ). get_or m' i 0) f ∙ here ∙ cond_eq no_copy p.count e))
            (λ e.
            moved (ap (λ (i : ℕ). get_or m' i 0) f ∙ here ∙ cond_ne no_copy p.count e)
            (inr (subst (λ (i : ℕ). IsCopy ws' r.count i p.count) (sym f) (next_new e))))
