-- A run through C that answers 0 is taken back by undo through C: RunUndone.
use mathlib.Core.Path.{◌≡◌, refl, ap, sym, ◌∙◌}
use mathlib.Core.Bool.{false}
use mathlib.Core.List.{List}
use Prim.Native.Nat.{ℕ}
use native.Mathlib.Omega.{arith}
use lib.ListN.{length}
use Rattle.model.specs.Base.{at_front}
use Rattle.model.specs.History.{history_bytes}
use Rattle.model.specs.Stored.{stored, got, read_plan}
use Rattle.model.specs.Table.{Table}
use Rattle.model.proofs.BoolLaws.{by_cases, eq_cases}
use Rattle.model.proofs.StoredBack.{stored_back}
use Rattle.c_codes.specs.Codes.{code_of, lent_values}
use Rattle.c_lent.specs.Done.{lent_fit}
use Rattle.model.specs.Refusal.{values}
use Rattle.plan.specs.Calls as library
use Rattle.plan.proofs.Promised.{read_got}
use Rattle.model.proofs.RunsBack.{run_by_back}
use Rattle.yegnabit.specs.Calls.{undo_values, undo_out}
use Rattle.yegnabit.specs.Running.{run_called}
use Rattle.c_promises.specs.Promise.{LentFits, history_left, RunUndone}
use Rattle.yegnabit.proofs.RunLaws.{call_short, call_plan_refused}
use Rattle.c_promises.proofs.Promised.{undone_back_lem, plan_left_lem, history_left_lem, call_ends}

-- THE ANSWER 0: the plan is read, and no area is too short
module _ (p s a h w o d : List ℕ) (answers : code_of (run_called p s a h w o d).values ≡ 0) where
  call_fits : LentFits a h w o d
  call_fits = by_cases (lent_fit (length a) (length h) (length w) (length o) (length d)) (λ z. z) (λ z. absurd (short z))
    where
      short : lent_fit (length a) (length h) (length w) (length o) (length d) ≡ false → ⊥
      short z = omega (arith, (call_short p s a h w o d false (sym z) (code_of lent_values) refl refl).0 ∙ answers)

  call_read : (x : Table) × (read_plan p ≡ got x)
  call_read = read_got p (eq_cases (library.plan_read p).refusal.number 0 (λ z. z) (λ z. absurd (not_read z)))
    where
      not_read : ((library.plan_read p).refusal.number ≡ 0 → ⊥) → ⊥
      not_read z =
          let q = library.plan_read p in
          let v = values q.refusal.number 1 q.refusal.place in
          let c : code_of v ≡ 0 =
          (call_plan_refused p s a h w o d _ refl call_fits q refl (code_of v) _ _ _ _ z refl refl refl refl refl).0 ∙ answers in
          omega arith

pub run_undone : RunUndone
run_undone p s a h w o d o' bytes bytes' answers room =
    let ok = call_fits p s a h w o d answers in
    let g = call_read p s a h w o d answers in
    let x = g.0 in
    let before = stored_back.1 p x bytes g.1 in
    let k = call_ends p s a h w o d x before.0 g.1 ok answers in
    let v = k.0 in
    let t = k.1.0 in
    let P = plan_left_lem p s a h w o d x before.0 g.1 ok bytes' v t k.1.1 in
    let H = history_left_lem p s a h w o d x before.0 g.1 ok bytes' v t k.1.1 in
    let after = run_by_back x s bytes' before.0 v t k.1.1 in
    let u =
    undone_back_lem (stored t.plan) (history_bytes t.history) o' t.plan x after.0 (stored_back.0 t.plan after.0)
    after.2 room in (
      ap (λ (l : List ℕ). undo_values l (history_left (run_called p s a h w o d)) o') P ∙
          ap (λ (l : List ℕ). undo_values (stored t.plan) l o') H ∙ u.0 ∙ ap (λ (l : List ℕ). values 0 0 (length l)) before.1,
      ap (λ (l : List ℕ). undo_out l (history_left (run_called p s a h w o d)) o') P ∙
          ap (λ (l : List ℕ). undo_out (stored t.plan) l o') H ∙ u.1 ∙ ap (λ (l : List ℕ). at_front l o') before.1,
    )
