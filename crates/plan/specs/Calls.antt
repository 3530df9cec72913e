-- What reading a plan answers, for every input.
use Rattle.std.specs.Prelude.{List, ℕ}
use Rattle.model.specs.Refusal as refusal
use Rattle.model.specs.Table as model
use Rattle.model.specs.Stored.{Read, refused, got, read_plan}
use Rattle.plan_table.specs.Results.{TableResult, result}

-- READING: refused, the table is the empty one
abbrev pub read_by : Read → TableResult
read_by (refused f) = result f model.empty
read_by (got x) = result refusal.fine x

-- what reading answers
abbrev pub plan_read : (bytes : List ℕ) → TableResult
plan_read b = read_by (read_plan b)
