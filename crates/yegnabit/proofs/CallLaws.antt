-- The C calls that write a plan, by their ways out: out too short, the plan refused, the rest done. And the analysis told by its variant.
use mathlib.Core.Path.{◌≡◌, ap, sym, ◌∙◌}
use mathlib.Core.Bool.{false}
use mathlib.Core.List.{List}
use Prim.Native.Nat.{ℕ, ◌≤◌, ◌<◌}
use lib.Dec.{eqb}
use lib.ListN.{length}
use borrow.Author.Tests.{lt-ltb, le-ltb, ne_eqb}
use Rattle.plan_table.specs.Results.{with_table}
use Rattle.plan_table.specs.declared.Table.{Table}
use Rattle.plan_table.specs.Results.{TableResult}
use Rattle.yegnabit.specs.Calls.{values_if_long, out_if_long}
use Rattle.model.specs.Refusal.{Values, values, fine}
use Rattle.c_codes.specs.Codes.{code_of, lent_values, values_unless, area_unless}
use Rattle.c_lent.specs.Done.{out_need}
use Rattle.paths.specs.Analysis.{values_of}
use Rattle.paths.specs.Analysis.{Analysis}

-- what a call answers and leaves, with v and b where out is long enough
abbrev Answers : (out : List ℕ) → (v : Values) → (b : List ℕ) → (code : ℕ) → (left : List ℕ) → Type 0
Answers o v b c l = (c ≡ code_of (values_if_long o v)) × (l ≡ out_if_long o b)

module _ (o : List ℕ) (v : Values) (b : List ℕ) where
  pub area_short : {c : ℕ} → c ≡ code_of lent_values → length o < out_need → Answers o v b c o
  area_short e h = (e ∙ rw (lt-ltb (length o) out_need h), rw (lt-ltb (length o) out_need h))

  module _ (h : out_need ≤ length o) {q r : TableResult} (e : r ≡ q) where
    pub plan_refused : {c : ℕ} → c ≡ code_of (values r.refusal.number 1 r.refusal.place) → (r.refusal.number ≡ 0 → ⊥) →
        Answers o (values_unless q.refusal 1 v) (area_unless q.refusal b o) c o
    plan_refused f z = (
      f ∙ ap (λ (t : TableResult). code_of (values t.refusal.number 1 t.refusal.place)) e ∙ rw (le-ltb (length o) out_need h, y),
      rw (le-ltb (length o) out_need h, y),
    )
      where
        y : eqb q.refusal.number 0 ≡ false
        y = ne_eqb q.refusal.number 0 (λ k. z (ap (λ (t : TableResult). t.refusal.number) e ∙ k))

-- the plan read: what the rest of the call does with its table
module _ (o : List ℕ) (h : out_need ≤ length o) {q : TableResult} {t : Table} (e : with_table fine t ≡ q) where
  pub plan_done : (v : Table → Values) (b : Table → List ℕ) {c : ℕ} {l : List ℕ} → c ≡ code_of (v t) → l ≡ b t →
      Answers o (values_unless q.refusal 1 (v q.table)) (area_unless q.refusal (b q.table) o) c l
  plan_done v b f g = (
    f ∙ ap (λ (r : TableResult). code_of (values_unless r.refusal 1 (v r.table))) e ∙ rw (le-ltb (length o) out_need h),
    g ∙ ap (λ (r : TableResult). area_unless r.refusal (b r.table) o) e ∙ rw (le-ltb (length o) out_need h),
  )

-- an analysis told by its variant
pub analysis_told : {a v w : Analysis} {r : ℕ} → a ≡ w → a ≡ v → r ≡ code_of (values_of v) → r ≡ code_of (values_of w)
analysis_told e v r = r ∙ ap (λ (x : Analysis). code_of (values_of x)) (sym v ∙ e)
