-- Request (a), what pick keeps: leaves that are not surveyed, a constant of −128, all other rows; and that no run brings in a −128 that no
-- constructor makes.
use mathlib.Core.Path.{◌≡◌, sym, ap, ◌∙◌}
use mathlib.Core.Bool.{Bool, false, ◌&&◌, true≢false, and-false, and_self}
use Prim.Native.Nat.{ℕ, ◌<◌}
use native.Mathlib.Omega.{arith}
use lib.Dec.{ltb, eqb}
use borrow.Author.Tests.{ltb-true, ltb-false, lt-ltb, le-ltb, ne_eqb}
use Rattle.model.specs.Table.{row_at}
use Rattle.model.specs.Step.{signed_key, unsurveyed, is_surveyed}
use Rattle.model.specs.Promise.{Surveyed, UnsurveyedKept, UnsurveyedConstant, PicksAsBefore, StaysSurveyed}
use Rattle.model.proofs.BoolLaws.{or_right, by_cases, eq_cases, eqb_iff}
use Rattle.model.proofs.TableLaws.{is_well_at}
use Rattle.model.proofs.ScriptLaws.{is_script_fields}
use Rattle.model.proofs.RunKeeps.{comes_all, run_on_comes}

-- −128 alone has the least key
key_above : (v : ℕ) → (v ≡ unsurveyed → ⊥) → 0 < signed_key v
key_above v h =
    by_cases (ltb v 128) (λ t. rw t (omega (arith, ltb-true v 128 t))) (λ t. rw t (omega (arith, h, ltb-false v 128 t)))

pub surveyed_key : (v : ℕ) → is_surveyed v ≡ ltb 0 (signed_key v)
surveyed_key v = eq_cases v unsurveyed (λ e. rw e) (λ h. rw (ne_eqb v unsurveyed h, lt-ltb 0 (signed_key v) (key_above v h)))

not_surveyed : (v : ℕ) → is_surveyed v ≡ false → v ≡ unsurveyed
not_surveyed v e = eq_cases v unsurveyed (λ k. k) (λ h. absurd (true≢false (rw (ne_eqb v unsurveyed h) at e)))

pub unsurveyed_kept : UnsurveyedKept
unsurveyed_kept x r c i l u =
    let v = (row_at x i).tag in
    let e = not_surveyed v u in
    by_cases (eqb r 0)
    (λ z. rw (l, z) (eqb_iff v c c unsurveyed (λ k. sym k ∙ e) (λ k. e ∙ sym k)))
    (λ z. rw (l, z, u))

pub unsurveyed_constant : UnsurveyedConstant
unsurveyed_constant x i =
    let l = (row_at x i).is_leaf in
    let v = (row_at x i).tag in (
      ap (λ (t : Bool). l && (is_surveyed v && t)) (sym (surveyed_key v)) ∙ ap (λ (t : Bool). l && t) (and_self (is_surveyed v)),
      ap (λ (t : Bool). l && (is_surveyed v && t)) (le-ltb (signed_key v) 0 (omega arith)) ∙
          ap (λ (t : Bool). l && t) (and-false (is_surveyed v)) ∙ and-false l,
    )

pub picks_as_before : PicksAsBefore
picks_as_before x r c i h = by_cases (row_at x i).is_leaf (λ l. rw (l, or_right (eqb r 0) _ (h l))) (λ l. rw l)

pub stays_surveyed : StaysSurveyed
stays_surveyed e x v s i w m a q =
    comes_all Surveyed (λ r p k. k) x a
    (run_on_comes Surveyed (λ r p k. k) x (is_well_at x w) a e (is_script_fields e i) m v s q)
