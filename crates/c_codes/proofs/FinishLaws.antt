-- The end of a call that gives a table, where it is refused.
use mathlib.Core.Path.{◌≡◌, ◌∙◌}
use mathlib.Core.Bool.{false}
use mathlib.Core.List.{List}
use Prim.Native.Nat.{ℕ}
use lib.Dec.{eqb}
use borrow.Author.Tests.{ne_eqb}
use Rattle.model.specs.Refusal.{values}
use Rattle.plan_table.specs.Results.{TableResult}
use Rattle.c_codes.specs.Codes.{code_of, finished_values, finished_out}

module _ (r : TableResult) (w : ℕ) (o : List ℕ) where
  pub finish_refused : (c : ℕ) → (r.refusal.number ≡ 0 → ⊥) → c ≡ code_of (values r.refusal.number w r.refusal.place) →
      (c ≡ code_of (finished_values r w o)) × (o ≡ finished_out r o)
  finish_refused c z e =
      let k : eqb r.refusal.number 0 ≡ false = ne_eqb r.refusal.number 0 z in
      (e ∙ rw k, rw k)
