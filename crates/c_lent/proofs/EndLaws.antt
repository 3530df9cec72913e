-- The end of a run by its two ways out: refused, or its plan written. And what it is for the five areas to be long enough.
use mathlib.Core.Path.{◌≡◌, refl, ap, ◌∙◌}
use mathlib.Core.Bool.{Bool, true, false, ◌&&◌, cond}
use mathlib.Core.List.{List}
use Prim.Native.Nat.{ℕ, ◌≤◌}
use lib.Dec.{eqb, leb}
use borrow.Author.Tests.{eq-eqb, ne_eqb, leb-true}
use Rattle.plan_writer.specs.Writing.{plan_written, written_out}
use Rattle.plan_table.specs.Results.{Written}
use Rattle.plan_table.specs.declared.Table.{Table}
use Rattle.run.specs.Calls.{result_in}
use Rattle.run.specs.Calls.{RunResult}
use Rattle.run.specs.Calls.{Ended}
use Rattle.c_codes.specs.Codes.{code_of}
use Rattle.model.specs.Refusal.{values}
use Rattle.c_lent.specs.Done.{out_need, done_need, lent_fit, done_over, left_in, end_values, end_out, end_done}
use Rattle.model.specs.Call.{lengths_fit}
use Rattle.model.proofs.TestLaws.{and_parts}

-- the answer and both areas of a run
abbrev pub Ends : RunResult → (out done : List ℕ) → (code : ℕ) → (out' done' : List ℕ) → Type 0
Ends r o d c o' d' = (c ≡ code_of (end_values r o)) × ((o' ≡ end_out r o) × (d' ≡ end_done r o d))

module _ (r : RunResult) (o d : List ℕ) where
  pub end_refused : (c : ℕ) (d' : List ℕ) → (r.refusal.number ≡ 0 → ⊥) →
      c ≡ code_of (values r.refusal.number 2 r.refusal.place) → d' ≡ done_over 0 0 0 0 0 0 d → Ends r o d c o d'
  end_refused c d' z e f = let k : eqb r.refusal.number 0 ≡ false = ne_eqb r.refusal.number 0 z in (e ∙ rw k, (rw k, f ∙ rw k))

  pub end_written : (c : ℕ) (w : Written) (o' d' : List ℕ) → r.refusal.number ≡ 0 → w ≡ plan_written r.table o →
      o' ≡ written_out r.table o → c ≡ code_of (values w.refusal.number 0 0) →
      d' ≡ done_over r.items r.tally.made r.tally.cut r.tally.records r.bytes w.bytes d → Ends r o d c o' d'
  end_written c w o' d' z e f g h =
      let k : eqb r.refusal.number 0 ≡ true = eq-eqb r.refusal.number 0 z in
      (g ∙ ap (λ (t : Written). code_of (values t.refusal.number 0 0)) e ∙ rw k, (f ∙ rw k, h ∙ ap told e ∙ rw k))
    where
      told : Written → List ℕ
      told t = done_over r.items r.tally.made r.tally.cut r.tally.records r.bytes t.bytes d

-- REFUSED, the table does not matter: the one handed in gives the same end as the lent one
module _ (t : Table) (e : Ended) (u : Table) (o : List ℕ) where
  only_fine : {A : Type 0} (f : Table → A) (x : Table) (y : A) (z : Bool) → cond z (f x) y ≡ cond z (f (cond z x t)) y
  only_fine f x y true = refl
  only_fine f x y false = refl

  pub left_ends : (d : List ℕ) {c : ℕ} {o' d' : List ℕ} → Ends (left_in e u) o d c o' d' →
      Ends (result_in t e u) o d c o' d'
  left_ends d k =
      let z = eqb e.refusal.number 0 in (
        k.0 ∙ ap code_of (only_fine (λ (x : Table). values (plan_written x o).refusal.number 0 0) u _ z),
        (
          k.1.0 ∙ only_fine (λ (x : Table). written_out x o) u _ z,
          k.1.1 ∙
              only_fine
              (λ (x : Table).
              done_over e.items e.tally.made e.tally.cut e.tally.records e.bytes (plan_written x o).bytes d) u _ z,
        ),
      )

-- NONE IS TOO SHORT: the run's three fit, and each of the others has its need
pub long_enough : (a h w o d : ℕ) → lent_fit a h w o d ≡ true → (lengths_fit a h w ≡ true) × (out_need ≤ o) × (done_need ≤ d)
long_enough a h w o d e =
    let k = and_parts (lengths_fit a h w && leb out_need o) (leb done_need d) e in
    let l = and_parts (lengths_fit a h w) (leb out_need o) k.0 in
    (l.0, leb-true out_need o l.1, leb-true done_need d k.1)
