-- The steps of a script in the code, as the rules have them.
use Rattle.std.specs.Prelude.{◌≡◌, true, false, ℕ, ◌<◌, List, get_or, Result, MatchResult}
use Rattle.model.specs.Script as model
use Rattle.plan_table.specs.declared.Reason.{Reason}
use Rattle.plan_table.specs.declared.Reason.TheVariants.{Field}
use Rattle.script_records.specs.declared.step.Axis.{Axis}
use Rattle.script_records.specs.declared.step.Axis.TheVariants.{Child, Descendant, Parent, Ancestor}
use Rattle.script_records.specs.declared.step.Test.{Test}
use Rattle.script_records.specs.declared.step.Test.TheVariants.{Node, Element, Leaf, Named}
use Rattle.script_records.specs.declared.step.Step.{Step}

-- the number of an axis
abbrev pub axis_number : Axis → ℕ
axis_number Child = 0
axis_number Descendant = 1
axis_number Parent = 2
axis_number Ancestor = 3

-- the number of a test
abbrev pub test_number : Test → ℕ
test_number Node = 0
test_number Element = 1
test_number Leaf = 2
test_number (Named n) = 3

-- and its name, 0 where it has none
abbrev pub test_name : Test → ℕ
test_name Node = 0
test_name Element = 0
test_name Leaf = 0
test_name (Named n) = n.0

-- a step of the rules
abbrev pub step_of : Step → model.Step
step_of s = model.step_by (axis_number s.axis) (test_number s.test) (test_name s.test)

-- with this test, whatever its axis
abbrev pub test_of : Test → model.Step
test_of t = model.step_by 0 (test_number t) (test_name t)

-- READ from numbers: an axis
abbrev pub AxisRead : (number : ℕ) → Result Axis Reason → Type 0
AxisRead n r = MatchResult r (λ a. axis_number a ≡ n) (λ x. (n < 4 → ⊥) × (x ≡ Field))

-- a test, with a name only where it is for one
abbrev pub TestRead : (number name : ℕ) → Result Test Reason → Type 0
TestRead n m r =
    MatchResult r (λ t. (model.test_fits n m ≡ true) × (test_number t ≡ n) × (test_name t ≡ m))
    (λ x. (model.test_fits n m ≡ false) × (x ≡ Field))

-- and a step
abbrev pub StepRead : (fields : List ℕ) → Result Step Reason → Type 0
StepRead b r =
    MatchResult r
    (λ s. (get_or b 0 0 < 4) × (model.test_fits (get_or b 1 0) (get_or b 2 0) ≡ true) ×
    (step_of s ≡ model.step_by (get_or b 0 0) (get_or b 1 0) (get_or b 2 0)))
    (λ x. (get_or b 0 0 < 4 → model.test_fits (get_or b 1 0) (get_or b 2 0) ≡ true → ⊥) × (x ≡ Field))
