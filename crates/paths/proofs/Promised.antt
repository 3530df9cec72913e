-- What the call says is what the model's analysis says, so demands 2 and 3 hold of it.
use mathlib.Core.Path.{◌≡◌, refl, ap, sym, ◌∙◌}
use mathlib.Core.List.{List}
use Prim.Native.Nat.{ℕ}
use native.Mathlib.Omega.{arith}
use Rattle.model.specs.Script.{Expr, Parsed, refused, parsed, read_script}
use Rattle.model.specs.Meeting.{Answer, free, upward, meet, answer}
use Rattle.model.specs.Refusal.{Values, values}
use Rattle.model.specs.Call.{answered, analyse, first_by, second_by}
use Rattle.model.proofs.FreeMeans.{free_means}
use Rattle.model.proofs.CallsCommute.{calls_commute}
use Rattle.paths.specs.Analysis.{values_of, by_answer, analysis_of, analysed}
use Rattle.paths.specs.Promise.{ReadAs, AnalysedMeans, AnalysedCommute}

which_same : {v w : Values} → v ≡ w → v.which ≡ w.which
which_same e = ap (λ (v : Values). v.which) e

-- the number of an answer tells it
answer_told : (a b : Answer) → (values_of (by_answer a)).which ≡ (values_of (by_answer b)).which → a ≡ b
answer_told free free e = refl
answer_told free upward e = absurd (omega arith)
answer_told free meet e = absurd (omega arith)
answer_told upward free e = absurd (omega arith)
answer_told upward upward e = refl
answer_told upward meet e = absurd (omega arith)
answer_told meet free e = absurd (omega arith)
answer_told meet upward e = absurd (omega arith)
answer_told meet meet e = refl

-- 0 as `which` is free: a refusal names script 1 or 2
free_by : (p q : Parsed) → (values_of (analysis_of (first_by p q))).which ≡ 0 → first_by p q ≡ answered free
free_by (refused x) q e = absurd (omega arith)
free_by (parsed e i n b) (refused x) z = absurd (omega arith)
free_by (parsed e i n b) (parsed f j m c) z = ap answered (answer_told (answer e f) free z)

pub free_which : (b c : List ℕ) → (values_of (analysed b c)).which ≡ 0 → analyse b c ≡ answered free
free_which b c = free_by (read_script b) (read_script c)

pub free_told : (b c : List ℕ) → values_of (analysed b c) ≡ values 0 0 0 → analyse b c ≡ answered free
free_told b c e = free_which b c (which_same e)

-- of two accepted scripts the call says the model's answer
module _ (b c : List ℕ) (e f : Expr) (E : ReadAs b e) (F : ReadAs c f) where
  said : analysed b c ≡ by_answer (answer e f)
  said = ap (λ (p : Parsed). analysis_of (first_by p (read_script c))) E.1.1.1 ∙
      ap (λ (p : Parsed). analysis_of (second_by e p)) F.1.1.1

  answer_is : (a : Answer) → values_of (analysed b c) ≡ values_of (by_answer a) → answer e f ≡ a
  answer_is a h = answer_told (answer e f) a (which_same (ap values_of (sym said) ∙ h))

pub analysed_means : AnalysedMeans
analysed_means b c e f bytes bytes' E F =
    let m = free_means e f (b, bytes, E) (c, bytes', F) in (
      (
        λ h. m.0.0 (answer_is b c e f E F upward h),
        λ h. ap values_of (said b c e f E F) ∙ ap (λ (a : Answer). values_of (by_answer a)) (m.0.1 h),
      ),
      λ h. m.1 (answer_is b c e f E F free h),
      λ h. m.2 (answer_is b c e f E F meet h),
    )

pub analysed_commute : AnalysedCommute
analysed_commute b c x k k' l l' bytes bytes' s = calls_commute b c x k k' l l' bytes bytes' (free_told b c s)
