-- What a run of a script's bytes comes to: on a well-formed table, what the model's does; where it stops, a refusal of the table, by the
-- script's reader (1 to 5), for the plan (6) or by the run (7, 8 or 10).
use mathlib.Core.Path.{◌≡◌, refl, ap, sym, ◌∙◌}
use mathlib.Core.Bool.{Bool, true, false, cond}
use mathlib.Core.Logic.{⊎_elim}
use mathlib.Core.List.{List}
use Prim.Native.Nat.{ℕ}
use native.Mathlib.Omega.{arith}
use borrow.Author.Tests.{ne_eqb}
use Rattle.model.specs.Base.{is_in}
use Rattle.model.specs.Refusal.{Refusal, is_fine, is_listed, is_of_run, link_at}
use Rattle.model.specs.Script.{Parsed, refused, parsed, read_script}
use Rattle.model.specs.Run.{Out, refused}
use Rattle.model.specs.Call.{run_by, is_of_call}
use Rattle.model.specs.Table as model
use Rattle.model.proofs.RefusedRuns.{refused_number}
use Rattle.model.proofs.TestLaws.{is_in_at, is_in_by, is_in_some}
use Rattle.model.proofs.ScriptLaws.{Sound, read_script_sound}
use Rattle.plan_table.specs.Packed.{decode, fits, encode}
use Rattle.plan_table.specs.declared.Table.{Table}
use Rattle.run.specs.Calls.{outcome_of}
use Rattle.model.proofs.BoolLaws.{cond_true, or_left, or_right, or_cases}
use Rattle.model.proofs.RefusalLaws.{is_listed_low, is_of_run_cases, is_of_run_some}
use Rattle.plan_table.proofs.EncodeLaws.{fits_encode, decode_encode}

-- on a packed well-formed table it is the model's
pub outcome_well : (x : model.Table) → model.is_well x ≡ true → (b : List ℕ) → outcome_of (encode x) b ≡ run_by x (read_script b)
outcome_well x w b =
    cond_true (fits (encode x)) _ _ (fits_encode x w) ∙ ap (λ (y : model.Table). run_by y (read_script b)) (decode_encode x w)

-- STOPPED
abbrev pub Refuses : Out → Type 0
Refuses o = (f : Refusal) → o ≡ refused f → is_of_call f.number ≡ true

-- its number is not 0
pub is_of_call_some : (n : ℕ) → is_of_call n ≡ true → n ≡ 0 → ⊥
is_of_call_some n e = ⊎_elim (is_in_some 0 6 n) (is_of_run_some n) (or_cases (is_in 1 6 n) (is_of_run n) e)

-- it is one of the table's
pub is_of_call_listed : (n : ℕ) → is_of_call n ≡ true → is_listed n ≡ true
is_of_call_listed n e =
    ⊎_elim (λ h. is_listed_low n (let k = is_in_at 1 6 n h in omega arith))
    (λ h. is_of_run_cases (λ (k : ℕ). is_listed k ≡ true) n h refl refl refl) (or_cases (is_in 1 6 n) (is_of_run n) e)

pub refuses_fine : {o : Out} → Refuses o → (f : Refusal) → o ≡ refused f → is_fine f ≡ false
refuses_fine r f e = ne_eqb f.number 0 (is_of_call_some f.number (r f e))

parsed_refuses : (x : model.Table) (p : Parsed) → Sound p → Refuses (run_by x p)
parsed_refuses x (refused g) s f e =
    let k = is_in_at 1 5 f.number (s.ranged f (cc)) in
    or_left (is_in 1 6 f.number) (is_of_run f.number) (is_in_by 1 6 f.number k.0 (omega (arith, k.1)))
parsed_refuses x (parsed d i n b) s f e = or_right (is_in 1 6 f.number) (is_of_run f.number) (refused_number d x f e)

pub run_refuses : (x : model.Table) (b : List ℕ) → Refuses (run_by x (read_script b))
run_refuses x b = parsed_refuses x (read_script b) (read_script_sound b)

pub outcome_refuses : (t : Table) (b : List ℕ) → Refuses (outcome_of t b)
outcome_refuses t b = go (fits t)
  where
    go : (z : Bool) → Refuses (cond z (run_by (decode t) (read_script b)) (refused (link_at 0)))
    go true f e = run_refuses (decode t) b f e
    go false f e = let q : 6 ≡ f.number = cc in ap is_of_call (sym q)
