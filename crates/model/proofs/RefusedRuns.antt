-- A run that stops does so with a refusal of its own: its number is 7, 8 or 10, so never 0.
use mathlib.Core.Path.{◌≡◌}
use mathlib.Core.Bool.{true, false}
use mathlib.Core.List.{[]}
use borrow.Author.Tests.{ne_eqb}
use Rattle.model.specs.Refusal.{Refusal, is_fine, is_of_run}
use Rattle.model.specs.Table.{Table}
use Rattle.model.specs.Script.{Expr}
use Rattle.model.specs.Run.{State, refused, state, run_on}
use Rattle.model.proofs.RefusalLaws.{is_of_run_some}
use Rattle.model.proofs.Grows.{Grows, refuses, run_grows}

grows_number : {a : State} {f : Refusal} → Grows a (refused f) → is_of_run f.number ≡ true
grows_number (refuses e) = e

pub refused_number : (e : Expr) (x : Table) (f : Refusal) → run_on x e ≡ refused f → is_of_run f.number ≡ true
refused_number e x f h = grows_number (rw h at (run_grows e [] (state x [])))

pub refused_not_fine : (e : Expr) (x : Table) (f : Refusal) → run_on x e ≡ refused f → is_fine f ≡ false
refused_not_fine e x f h = ne_eqb f.number 0 (is_of_run_some f.number (refused_number e x f h))
