-- `update::cut_row` cuts a row from its parent, with its record, by the laws of UpdateLaws.
use Rattle.std.proofs.Common.{sym, ◌∙◌, arith}
use Rattle.plan_table.proofs.PackedLaws.{linked, unlinked}
use Rattle.run_updates.proofs.UpdateLaws.{cut_root, cut_low, cut_room, cut_few, cut_done}
use Rattle.run_updates.proofs.update.cut_row.Goals as goal

pub returns-in_default : goal.returns-in_default
returns-in_default c =
    cut_root c.requires (sym c.link.ensures ∙ unlinked c.link.result.0 c.in_default.ensures)

pub put_cut-requires-clause-cut_size_in_bounds : goal.put_cut-requires-clause-cut_size_in_bounds
put_cut-requires-clause-cut_size_in_bounds c =
    cut_room c.requires c.link.ensures (linked c.link.result.0 c.in-Some.ensures).0

pub put_cut-requires-clause-parent_lt_max_rows : goal.put_cut-requires-clause-parent_lt_max_rows
put_cut-requires-clause-parent_lt_max_rows c =
    let p = linked c.link.result.0 c.in-Some.ensures in omega (arith, p.1, cut_low c.requires c.link.ensures p.0)

pub raise_cut-requires : goal.raise_cut-requires
raise_cut-requires c =
    (c.requires.held.history.sum, cut_few c.requires c.link.ensures (linked c.link.result.0 c.in-Some.ensures).0)

pub returns : goal.returns
returns c =
    let p = linked c.link.result.0 c.in-Some.ensures in
    cut_done c.requires c.link.ensures p.0 c.relinked.ensures (rw p.1 at c.put_cut.ensures) c.raise_cut.ensures
