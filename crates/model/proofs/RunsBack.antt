-- A run keeps the table well formed; replaying its history on the earlier table gives the later one, and undo gives the earlier back.
use mathlib.Core.Path.{◌≡◌, refl}
use mathlib.Core.Bool.{true}
use mathlib.Core.List.{List}
use Prim.Native.Nat.{ℕ}
use native.Mathlib.Omega.{arith}
use Rattle.model.specs.Base.{are_bytes}
use Rattle.model.specs.Table.{Table, is_well}
use Rattle.model.specs.Script.{Expr, Parsed, refused, parsed, read_script}
use Rattle.model.specs.History.{history_bytes, replay_all}
use Rattle.model.specs.Run.{State, gives, run_on}
use Rattle.model.specs.Undo.{back, undo}
use Rattle.model.specs.Call.{run_by}
use Rattle.model.specs.Promise.{IsScript, RunsBack}
use Rattle.model.proofs.TableLaws.{Well, is_well_at, is_well_by}
use Rattle.model.proofs.HistoryLaws.{ComesTo, ran_well, ran_replay}
use Rattle.model.proofs.UndoLaws.{ran_undo}
use Rattle.model.proofs.ScriptLaws.{is_script_fields}
use Rattle.model.proofs.All.{all_any}
use Rattle.model.proofs.RunKeeps.{comes_to, run_on_comes}

-- what a script's run does is making rows and cutting links
run_on_ran : (e : Expr) (x : Table) (v : List ℕ) (s : State) → IsScript e → Well x → run_on x e ≡ gives v s → ComesTo x s
run_on_ran e x v s i w q =
    comes_to (λ r. Unit) (λ r p u. tt) x
    (run_on_comes (λ r. Unit) (λ r p u. tt) x w (all_any (λ r. tt) _) e (is_script_fields e i) (all_any (λ r. tt) _) v s q)

pub runs_back : RunsBack
runs_back e x v s i h q =
    let w = is_well_at x h in
    let r = run_on_ran e x v s i w q in
    (is_well_by s.plan (ran_well x w r), ran_replay x r, ran_undo x w r)

-- A RUN BY BYTES: the same
abbrev Back : Table → State → Type 0
Back x s =
    (is_well s.plan ≡ true) × (replay_all x s.history ≡ s.plan) × (undo s.plan (history_bytes s.history) ≡ back x)

pub run_by_back : (x : Table) (b : List ℕ) → are_bytes b ≡ true → is_well x ≡ true → (v : List ℕ) (s : State) →
    run_by x (read_script b) ≡ gives v s → Back x s
run_by_back x b a w v s = go (read_script b) refl
  where
    go : (p : Parsed) → read_script b ≡ p → run_by x p ≡ gives v s → Back x s
    go (refused f) e k = let z : ◌≡◌ {A = ℕ} 0 1 = cc in absurd (omega arith)
    go (parsed e i n c) q k = runs_back e x v s (b, a, (i, (n, (c, q)))) w k
