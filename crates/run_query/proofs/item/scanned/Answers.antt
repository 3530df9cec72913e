use Rattle.std.proofs.Common.{ℕ, ◌+◌, [], ◌∷◌, ◌≡◌, subst, arith}
use Rattle.run_query.proofs.ItemLaws.{collected_next, skipped_none}
use Rattle.run_query.specs.Values.{SteppedTo}
use Rattle.model.specs.Script.{step_by}
use Rattle.script_records.specs.Steps.{test_number, test_name}
use Rattle.run_query.proofs.item.scanned.Goals as goal

pub loop-j-preserved : goal.loop-j-preserved
loop-j-preserved c = (
  (λ u start a ms.
      collected_next c.args.rows.now c.args.count c.requires.held (test_number c.args.test) (test_name c.args.test) ms
      c.args.item.0 c.loop-j.j
      (c.loop-j.j + 1) c.loop-j-test.true (c.loop-j.invariant.0 u start a ms) (rw c.to-link.ensures at c.append_child-at.ensures)
      (skipped_none c.args.rows.now c.args.count (c.args.item.0 + 1) (c.loop-j.j + 1) (omega arith))),
  omega (arith, c.loop-j.invariant.1, c.append_child-at.ensures.short),
)

pub returns : goal.returns
returns c =
    let e : c.loop-j.j ≡ c.args.count = omega arith in
    λ u start a.
    subst (λ (k : ℕ). SteppedTo c.args.rows.now c.args.count (step_by 0 (test_number c.args.test) (test_name c.args.test))
    (c.args.item.0 ∷ []) k
    u start c.loop-j.work c.loop-j.at) e (c.loop-j.invariant.0 u start a)
