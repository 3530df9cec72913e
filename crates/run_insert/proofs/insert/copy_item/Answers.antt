-- `insert::copy_item` copies an item under the target and then its descendants, by the laws of InsertLawsItems.
use Rattle.std.proofs.Common.{refl}
use Rattle.std.proofs.lemmas.Result.{err_from_is_err_and}
use Rattle.plan_table.proofs.ReasonLaws.{some_number}
use Rattle.run_insert.proofs.InsertLawsItems.{item_pre, item_refused, item_rest, item_done}
use Rattle.run_insert.proofs.insert.copy_item.Goals as goal

pub new_row-requires : goal.new_row-requires
new_row-requires c =
    item_pre c.requires (rw c.to.ensures at c.relinked-w.ensures)

pub returns-in_err-next : goal.returns-in_err-next
returns-in_err-next c =
    let p = err_from_is_err_and c.from_residual.result c.from_residual.ensures.1 in
    rw (p.1, p.2)
    (item_refused c.requires (rw c.to.ensures at c.relinked-w.ensures) c.in_err-next.ensures (some_number c.in_err-next.field-0.0))

pub copy_rest-requires : goal.copy_rest-requires
copy_rest-requires c =
    item_rest c.requires (rw c.to.ensures at c.relinked-w.ensures) c.in_ok-next.ensures refl

pub returns : goal.returns
returns c =
    item_done c.requires (rw c.to.ensures at c.relinked-w.ensures) c.in_ok-next.ensures refl c.copy_rest.ensures
