-- `step::rows_above` flags the items and what is above them, and collects.
use Rattle.std.proofs.Common.{◌+◌, List, ℕ, subst, arith}
use Rattle.model.specs.Base.{bit}
use Rattle.run_query.specs.Values.{Appended, value_at}
use Rattle.run_query.proofs.ValueLaws.{step_rows}
use Rattle.script_records.specs.Steps.{test_number, test_name}
use Rattle.run_query.proofs.step.rows_above.Goals as goal

pub returns : goal.returns
returns c =
    record {
      value = λ ms. subst (λ (v : List ℕ). Appended v c.args.work.now c.args.from
          c.collect.new.work
          c.collect.result) (step_rows c.args.rows.now c.args.count (2 + bit c.args.deep)
          (test_number c.args.test) (test_name c.args.test)
          (value_at c.args.work.now c.args.from c.args.to) ms
          (omega (arith, c.requires.held.rows, c.requires.held.few)) c.flag.new.flags
          c.climb.new.reached c.flag.ensures.flagged c.climb.ensures) c.collect.ensures;
    }
