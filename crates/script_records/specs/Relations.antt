-- The relations of a pick in the code, and their numbers.
use Rattle.std.specs.Prelude.{◌≡◌, ℕ, ◌<◌, Result, MatchResult}
use Rattle.plan_table.specs.declared.Reason.{Reason}
use Rattle.plan_table.specs.declared.Reason.TheVariants.{Field}
use Rattle.script_records.specs.declared.pick.Relation.{Relation}
use Rattle.script_records.specs.declared.pick.Relation.TheVariants.{Equal, Less, Greater}

-- the number of a relation
abbrev pub relation_number : Relation → ℕ
relation_number Equal = 0
relation_number Less = 1
relation_number Greater = 2

-- a number read: the relation that has it, or refused where it is none
abbrev pub RelationRead : (number : ℕ) → Result Relation Reason → Type 0
RelationRead n r = MatchResult r (λ a. relation_number a ≡ n) (λ x. (n < 3 → ⊥) × (x ≡ Field))
