-- `update::new_row` adds a row with its record, or refuses 10.
use Rattle.std.proofs.Common.{◌<◌, arith}
use Rattle.run_updates.proofs.UpdateLaws.{new_room, new_few, new_made}
use Rattle.plan_table.proofs.PackedLaws.{tag_byte}
use Rattle.model.specs.Limits.{max_rows}
use Rattle.run_updates.proofs.update.new_row.Goals as goal

pub put_made-requires : goal.put_made-requires
put_made-requires c =
    let l : c.args.p.count < max_rows = omega (arith, c.if-count-ge-ROWS.false) in
    record {
      made_size_in_bounds = new_room c.requires l;
      row_lt_max_rows = l;
      w_bound = tag_byte c.args.w c.requires.tag;
    }

pub raise_made-requires : goal.raise_made-requires
raise_made-requires c =
    (c.requires.held.history.sum, new_few c.requires (omega (arith, c.if-count-ge-ROWS.false)))

pub returns : goal.returns
returns c =
    new_made c.requires (omega (arith, c.if-count-ge-ROWS.false)) c.put_made.ensures c.raise_made.ensures
