-- A run's history fits, and so does what a call tells of it: HistoryFits, CallFits.
use mathlib.Core.Path.{◌≡◌, refl, subst}
use mathlib.Core.Bool.{true}
use mathlib.Core.List.{List, []}
use Prim.Native.Nat.{ℕ, ◌≤◌}
use native.Mathlib.Omega.{arith}
use lib.ListN.{length}
use Rattle.model.specs.Table.{Table, is_well}
use Rattle.model.specs.Script.{Expr, Parsed, refused, parsed, read_script}
use Rattle.model.specs.Run.{State, state, Out, refused, gives, run_on}
use Rattle.model.specs.Leads.{Leads, AnyRow}
use Rattle.model.specs.Promise.{HistoryFits}
use Rattle.model.specs.Call.{run_by, ran_by, areas_fit, unfit_run, TallyFits, CallFits}
use Rattle.model.proofs.BoolLaws.{cond_cases}
use Rattle.model.proofs.TableLaws.{is_well_at}
use Rattle.model.proofs.HistoryLaws.{ran_made_once, ran_cut_once, ran_made, ran_cuts, ran_length, ran_bytes}
use Rattle.model.proofs.Grows.{Grows, keeps, run_grows}

grows_leads : {a : State} {v : List ℕ} {s : State} → Grows a (gives v s) → Leads AnyRow a s
grows_leads (keeps r) = r

pub history_fits : HistoryFits
history_fits e x v s w h =
    let few = (is_well_at x w).few in
    let r = grows_leads (subst (Grows (state x [])) h (run_grows e [] (state x []))) in (
      ran_made_once x r,
      ran_cut_once x r,
      ran_made x few r,
      ran_cuts x few r,
      omega (arith, ran_length x few r),
      omega arith,
      omega (arith, ran_bytes x few r),
      omega arith,
    )

-- ON THE CALL: a refused one tells of none
none_fits : (0 ≤ 512) × (0 ≤ 512) × (0 ≤ 1024) × (0 ≤ 5632)
none_fits = (omega arith, omega arith, omega arith, omega arith)

module _ (x : Table) (w : is_well x ≡ true) (k m n : ℕ) where
  out_fits : (e : Expr) (o : Out) → run_on x e ≡ o → TallyFits (ran_by x k m n o)
  out_fits e (refused f) q = none_fits
  out_fits e (gives v s) q = let f = history_fits e x v s w q in (f.2, f.3, f.4, f.6)

  run_fits : (p : Parsed) → TallyFits (ran_by x k m n (run_by x p))
  run_fits (refused f) = none_fits
  run_fits (parsed e i j c) = out_fits e (run_on x e) refl

-- on a table handed in ill formed
pub unfit_fits : (x : Table) (a h w : List ℕ) → TallyFits (unfit_run x a h w)
unfit_fits x a h w =
    cond_cases TallyFits (areas_fit a h w) (λ _. none_fits) (λ _. none_fits)

pub call_fits : CallFits
call_fits x b a h w =
    cond_cases TallyFits (areas_fit a h w)
    (λ _.
    cond_cases (λ o. TallyFits (ran_by x (length a) (length h) (length w) o)) (is_well x)
    (λ i. run_fits x i (length a) (length h) (length w) (read_script b)) (λ _. none_fits))
    (λ _. none_fits)
