-- Flags of rows, of which f of a list of entries holds: of no entry, one entry more, and all.
use mathlib.Core.Path.{◌≡◌, ap, sym, subst, ◌∙◌}
use mathlib.Core.Bool.{Bool, false, ◌||◌, or-false, or-true, cond}
use mathlib.Core.List.{List, [], ◌∷◌, ◌++◌}
use Prim.Native.Nat.{ℕ, ◌+◌, ◌≤◌, ◌<◌}
use native.Mathlib.Omega.{arith}
use lib.Dec.{eqb}
use lib.ListN.{length, get_or, take, set, replicate, length-set, get_or-replicate}
use lib.Seq.{get_or-set_same, get_or-set_other, take_all}
use borrow.Author.Tests.{eq-eqb, ne_eqb, eqb-true, eqb-false}
use Rattle.model.specs.Limits.{max_links}
use Rattle.model.specs.Base.{bit}
use Rattle.model.proofs.BoolLaws.{eq_cases, cond_cases}
use Rattle.model.proofs.ListLaws.{take_next}
use Rattle.plan_table.specs.Flags.{Flags}

module _ (f : List ℕ → ℕ → Bool) (fs v : List ℕ) where
  pub flags_none : fs ≡ replicate max_links 0 → ((k : ℕ) → f [] k ≡ false) → Flags (f (take 0 v)) fs
  flags_none e n =
      record {
        size = ap length e;
        none = ap (λ (l : List ℕ). get_or l 0 0) e;
        flags = λ k h.
            ap (λ (l : List ℕ). get_or l (k + 1) 0) e ∙ get_or-replicate max_links (k + 1) 0 0 (omega arith) ∙ ap bit (sym (n k));
      }

  pub flags_all : (d : ℕ) → length v ≤ d → Flags (f (take d v)) fs → Flags (f v) fs
  flags_all d h x = subst (λ (l : List ℕ). Flags (f l) fs) (take_all d v h) x

  -- one entry more: its row has the link, or it has none
  module _ (link : ℕ → ℕ) (snoc : (u : List ℕ) (j k : ℕ) → f (u ++ (j ∷ [])) k ≡ (f u k || eqb (link j) (k + 1))) (d : ℕ)
      (h : d < length v) (x : Flags (f (take d v)) fs) where
    abbrev l : ℕ
    l = link (get_or v d 0)

    next : (k : ℕ) {t : Bool} → eqb l (k + 1) ≡ t → f (take (d + 1) v) k ≡ (f (take d v) k || t)
    next k e =
        ap (λ (u : List ℕ). f u k) (take_next v d 0 h) ∙ snoc (take d v) (get_or v d 0) k ∙ ap (λ (t : Bool). f (take d v) k || t) e

    other : (k : ℕ) → (l ≡ k + 1 → ⊥) → bit (f (take d v) k) ≡ bit (f (take (d + 1) v) k)
    other k z = ap bit (sym (next k (ne_eqb l (k + 1) z) ∙ or-false (f (take d v) k)))

    flags_same : l ≡ 0 → Flags (f (take (d + 1) v)) fs
    flags_same z =
        record { size = x.size; none = x.none; flags = λ k b. x.flags k b ∙ other k (λ q. omega arith) }

    pub flags_more : (l ≡ 0 → ⊥) → l < max_links → Flags (f (take (d + 1) v)) (set fs l 1)
    flags_more z low =
        record {
          size = length-set fs l 1 ∙ x.size;
          none = get_or-set_other fs l 0 1 0 (λ q. z (sym q)) ∙ x.none;
          flags = λ k b.
              eq_cases l (k + 1)
              (λ e.
              ap (λ (j : ℕ). get_or (set fs l 1) j 0) (sym e) ∙ get_or-set_same fs l 1 0 (omega (arith, x.size)) ∙
              ap bit (sym (next k (eq-eqb l (k + 1) e) ∙ or-true (f (take d v) k))))
              (λ e. get_or-set_other fs l (k + 1) 1 0 (λ q. e (sym q)) ∙ x.flags k b ∙ other k e);
        }

    pub flags_next : l < max_links → Flags (f (take (d + 1) v)) (cond (eqb l 0) fs (set fs l 1))
    flags_next low =
        cond_cases (Flags (f (take (d + 1) v))) (eqb l 0) (λ e. flags_same (eqb-true l 0 e)) (λ e. flags_more (eqb-false l 0 e) low)
