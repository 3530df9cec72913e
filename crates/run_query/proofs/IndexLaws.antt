-- The index of children: built from the highest row down; held by the rows that it was made of, and while rows are added and links cut;
-- and what it leads past.
use mathlib.Core.Path.{◌≡◌, refl, ap, sym, ◌∙◌, subst, subst₂}
use mathlib.Core.Logic.{⊎_elim}
use mathlib.Core.List.{List, [], ◌∷◌}
use Prim.Native.Nat.{ℕ, zero, suc, ◌+◌, ◌≤◌, ◌<◌}
use native.Mathlib.Omega.{arith}
use lib.ListN.{length, get_or, set, length-set}
use lib.Seq.{get_or-set_same, get_or-set_other}
use Rattle.model.specs.Limits.{max_rows, max_links}
use Rattle.model.proofs.BoolLaws.{eq_cases}
use Rattle.plan_table.specs.Packed.{link_in, LinksCut}
use Rattle.plan_table.proofs.LinkLaws.{links_same, links_then}
use Rattle.run_query.specs.Values.{Skipped}
use Rattle.run_query.specs.Index.{count_at, next_at, index_size, Leads, IndexOf, IndexHeld, Cleared, entered}
use Rattle.run_query.proofs.ItemLaws.{skipped_none}

-- BUILDING: the rows from j on are entered
pub record Entering (ix : List ℕ) (n : ℕ) (ws : List ℕ) (j : ℕ) : Type 0 where
  pub size : length ix ≡ index_size
  pub first : (l : ℕ) → l < max_links → Leads ws n l j (get_or ix l 0)
  pub next : (i : ℕ) → j ≤ i → i < n → Leads ws n (link_in (get_or ws i 0)) (i + 1) (get_or ix (next_at i) 0)

leads_none : (ws : List ℕ) (n l : ℕ) → Leads ws n l n n
leads_none ws n l = record { past = skipped_none ws n l n (omega arith); there = λ h. omega arith }

pub entering_none : (ws : List ℕ) (n : ℕ) (ix : List ℕ) → length ix ≡ index_size → Cleared n ix → Entering ix n ws n
entering_none ws n ix e c =
    record {
      size = e;
      first = λ l h. subst (λ (r : ℕ). Leads ws n l n r) (sym (c l h)) (leads_none ws n l);
      next = λ i p q. omega arith;
    }

-- one row lower, which has another link
leads_more : (ws : List ℕ) (n l j r : ℕ) → (link_in (get_or ws j 0) ≡ l → ⊥) → Leads ws n l (j + 1) r → Leads ws n l j r
leads_more ws n l j r z a =
    record {
      past =
          record {
            low = omega (arith, a.past.low);
            high = a.past.high;
            none = λ k p q e.
                eq_cases k j (λ s. z (ap (λ (i : ℕ). link_in (get_or ws i 0)) (sym s) ∙ e))
                (λ s. a.past.none k (omega (arith, s)) (omega (arith, a.past.low)) e);
          };
      there = a.there;
    }

module _ (ws : List ℕ) (n j : ℕ) (ix : List ℕ) (few : n ≤ max_rows) (low : link_in (get_or ws j 0) < max_links) (h : j < n) where
  abbrev link : ℕ
  link = link_in (get_or ws j 0)

  abbrev after : ℕ
  after = get_or ix link 0

  pub entering_next : Entering ix n ws (j + 1) → Entering (entered ws j ix) n ws j
  entering_next s =
      record {
        size = length-set (set ix (next_at j) after) link j ∙ length-set ix (next_at j) after ∙ s.size;
        first = λ l m. eq_cases link l (first_here l m) (first_else l m);
        next = λ i p q. eq_cases i j (next_here i) (next_else i p q);
      }
    where
      first_here : (l : ℕ) → l < max_links → link ≡ l → Leads ws n l j (get_or (set (set ix (next_at j) after) link j) l 0)
      first_here l m e =
          subst (λ (r : ℕ). Leads ws n l j r)
          (sym (ap (λ (i : ℕ). get_or (set (set ix (next_at j) after) link j) i 0) (sym e) ∙
          get_or-set_same (set ix (next_at j) after) link j 0 (omega (arith, length-set ix (next_at j) after, s.size))))
          (record { past = skipped_none ws n l j (omega arith); there = λ q. e })

      first_else : (l : ℕ) → l < max_links → (link ≡ l → ⊥) → Leads ws n l j (get_or (set (set ix (next_at j) after) link j) l 0)
      first_else l m e =
          subst (λ (r : ℕ). Leads ws n l j r)
          (sym (get_or-set_other (set ix (next_at j) after) link l j 0 (λ q. e (sym q)) ∙
          get_or-set_other ix (next_at j) l after 0 (λ q. omega arith)))
          (leads_more ws n l j (get_or ix l 0) e (s.first l m))

      next_here : (i : ℕ) → i ≡ j →
          Leads ws n (link_in (get_or ws i 0)) (i + 1) (get_or (set (set ix (next_at j) after) link j) (next_at i) 0)
      next_here i e =
          subst (λ (i : ℕ). Leads ws n (link_in (get_or ws i 0)) (i + 1) (get_or (set (set ix (next_at j) after) link j) (next_at i) 0))
          (sym e)
          (subst (λ (r : ℕ). Leads ws n link (j + 1) r)
          (sym (get_or-set_other (set ix (next_at j) after) link (next_at j) j 0 (λ q. omega arith) ∙
          get_or-set_same ix (next_at j) after 0 (omega (arith, s.size))))
          (s.first link low))

      next_else : (i : ℕ) → j ≤ i → i < n → (i ≡ j → ⊥) →
          Leads ws n (link_in (get_or ws i 0)) (i + 1) (get_or (set (set ix (next_at j) after) link j) (next_at i) 0)
      next_else i p q e =
          subst (λ (r : ℕ). Leads ws n (link_in (get_or ws i 0)) (i + 1) r)
          (sym (get_or-set_other (set ix (next_at j) after) link (next_at i) j 0 (λ f. omega arith) ∙
          get_or-set_other ix (next_at j) (next_at i) after 0 (λ f. e (omega arith))))
          (s.next i (omega (arith, e)) q)

pub entering_all : (ws : List ℕ) (n : ℕ) (ix : List ℕ) → Entering ix n ws 0 → IndexOf (set ix count_at n) n ws
entering_all ws n ix s =
    record {
      some = omega (arith, length-set ix count_at n, s.size);
      size = λ h. length-set ix count_at n ∙ s.size;
      rows = get_or-set_same ix count_at n 0 (omega (arith, s.size));
      first = λ l p q.
          subst (λ (r : ℕ). Leads ws n l 0 r) (sym (get_or-set_other ix count_at l n 0 (λ e. omega arith))) (s.first l q);
      next = λ j p.
          subst (λ (r : ℕ). Leads ws n (link_in (get_or ws j 0)) (j + 1) r)
          (sym (get_or-set_other ix count_at (next_at j) n 0 (λ e. omega arith))) (s.next j (omega arith) p);
    }

-- HELD by the rows that it was made of, by any where it was made of none, and while rows are added and links cut
pub held_made : {ix ws : List ℕ} {n : ℕ} → IndexOf ix n ws → IndexHeld ix ws n
held_made {ix} {ws} {n} s =
    record { many = n; before = ws; index = s; few = omega arith; links = links_same n ws }

pub held_none : (ws : List ℕ) (n : ℕ) → IndexHeld (0 ∷ []) ws n
held_none ws n =
    record {
      many = 0;
      before = ws;
      index =
          record {
            some = omega arith;
            size = λ h. omega arith;
            rows = refl;
            first = λ l p q. subst (λ (r : ℕ). Leads ws 0 l 0 r) (sym (nothing l p)) (leads_none ws 0 l);
            next = λ j p. omega arith;
          };
      few = omega arith;
      links = links_same 0 ws;
    }
  where
    one : List ℕ
    one = 0 ∷ []

    nothing : (l : ℕ) → 0 < l → get_or one l 0 ≡ 0
    nothing zero h = omega arith
    nothing (suc l) h = refl

pub held_after : {ix ws ws' : List ℕ} {n n' : ℕ} → IndexHeld ix ws n → n ≤ n' → LinksCut n ws ws' → IndexHeld ix ws' n'
held_after s h c =
    record {
      many = s.many;
      before = s.before;
      index = s.index;
      few = omega (arith, s.few);
      links = links_then s.few s.links c;
    }

-- LED from row to row: those passed do not have the link, since a link cut is another one
pub record Led (ix ws : List ℕ) (n many link from r : ℕ) : Type 0 where
  pub past : Skipped ws n link from r
  pub high : r ≤ many
  pub there : (s : IndexHeld ix ws n) → r < many → link_in (get_or s.before r 0) ≡ link

module _ (ix ws : List ℕ) (n many : ℕ) (rows : many ≡ get_or ix count_at 0) (l : ℕ) (some : 0 < l) where
  same : (s : IndexHeld ix ws n) → many ≡ s.many
  same s = rows ∙ s.index.rows

  led : (s : IndexHeld ix ws n) (from r : ℕ) → ((t : IndexHeld ix ws n) → Leads t.before t.many l from r) → Led ix ws n many l from r
  led s from r f =
      record {
        past =
            record {
              low = (f s).past.low;
              high = omega (arith, (f s).past.high, s.few);
              none = λ k p q e.
                  ⊎_elim (λ z. (f s).past.none k p q (sym z ∙ e)) (λ z. omega (arith, z, e, some))
                  (s.links.each k (omega (arith, (f s).past.low, (f s).past.high)));
            };
        high = omega (arith, (f s).past.high, same s);
        there = λ t h. (f t).there (omega (arith, same t));
      }

  pub led_first : IndexHeld ix ws n → l < max_links → (r : ℕ) → r ≡ get_or ix l 0 → Led ix ws n many l 0 r
  led_first s h r e = led s 0 r (λ t. subst (λ (k : ℕ). Leads t.before t.many l 0 k) (sym e) (t.index.first l some h))

  pub led_next : IndexHeld ix ws n → (j : ℕ) → j < many → ((t : IndexHeld ix ws n) → j < many → link_in (get_or t.before j 0) ≡ l) →
      (r : ℕ) → r ≡ get_or ix (next_at j) 0 → Led ix ws n many l (j + 1) r
  led_next s j h f r e =
      led s (j + 1) r
      (λ t. subst₂ (λ (k i : ℕ). Leads t.before t.many k (j + 1) i) (f t h) (sym e) (t.index.next j (omega (arith, same t))))
