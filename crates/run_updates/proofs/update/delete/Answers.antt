use Rattle.run_updates.proofs.UpdateLaws.{delete_end, delete_again}
use Rattle.run_updates.proofs.update.delete.Goals as goal

pub loop-item-preserved : goal.loop-item-preserved
loop-item-preserved c =
    delete_again c.loop-item.invariant c.loop-item-test.true c.from.ensures c.cut_row-now.ensures

pub returns : goal.returns
returns c =
    delete_end c.loop-item.invariant c.loop-item-test.false
