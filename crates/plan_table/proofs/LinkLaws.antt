-- Links of rows are only cut: by a row added, by a link cut, and by one after the other.
use mathlib.Core.Path.{◌≡◌, refl, ap, ◌∙◌}
use mathlib.Core.Logic.{◌⊎◌, inl, inr, ⊎_elim}
use mathlib.Core.List.{List}
use Prim.Native.Nat.{ℕ, ◌≤◌, ◌<◌}
use native.Mathlib.Omega.{arith}
use lib.ListN.{length, get_or, set}
use lib.Seq.{get_or-set_same, get_or-set_other}
use Rattle.model.proofs.BoolLaws.{eq_cases}
use Rattle.plan_table.specs.Packed.{link_in, with_link, LinksCut}
use Rattle.plan_table.proofs.PackedLaws.{link_in_with_link}

pub links_same : (n : ℕ) (ws : List ℕ) → LinksCut n ws ws
links_same n ws = record { each = λ i l. inl refl }

pub links_then : {n m : ℕ} {ws ws' ws'' : List ℕ} → n ≤ m → LinksCut n ws ws' → LinksCut m ws' ws'' → LinksCut n ws ws''
links_then h a b =
    record {
      each = λ i l.
          ⊎_elim (λ e. ⊎_elim (λ f. inl (e ∙ f)) (λ f. inr (e ∙ f)) (a.each i l)) (λ e. inr e) (b.each i (omega arith));
    }

-- a row past them written
pub links_set : (n : ℕ) (ws : List ℕ) (w : ℕ) → LinksCut n ws (set ws n w)
links_set n ws w = record { each = λ i l. inl (ap link_in (get_or-set_other ws n i w 0 (λ e. omega arith))) }

-- one of them cut
pub links_cut : (n : ℕ) (ws : List ℕ) (i : ℕ) → i < length ws → LinksCut n ws (set ws i (with_link (get_or ws i 0) 0))
links_cut n ws i h = record { each = λ k l. eq_cases k i here (λ e. inl (ap link_in (get_or-set_other ws i k w 0 e))) }
  where
    w : ℕ
    w = with_link (get_or ws i 0) 0

    here : {k : ℕ} → k ≡ i → (link_in (get_or (set ws i w) k 0) ≡ link_in (get_or ws k 0)) ⊎ (link_in (get_or (set ws i w) k 0) ≡ 0)
    here {k} e =
        inr (ap (λ (j : ℕ). link_in (get_or (set ws i w) j 0)) e ∙ ap link_in (get_or-set_same ws i w 0 h) ∙
        link_in_with_link (get_or ws i 0) 0 (omega arith))
