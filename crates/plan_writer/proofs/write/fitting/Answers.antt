-- `write::fitting` writes a table that fits at the area's start, or refuses with 11 where that is too short.
use Rattle.std.proofs.Common.{◌≡◌, ◌∙◌, sym, ap, map, ◌*◌, ◌≤◌, arith, length}
use Rattle.model.specs.Stored.{stored, marks_bytes}
use Rattle.plan_table.specs.Packed.{of_link, decode}
use Rattle.model.specs.Base.{over}
use Rattle.plan_writer.proofs.WritePlanLaws.{write_short, write_fine, write_out, length_stored, stored_over}
use Rattle.plan_table.proofs.FittedLaws.{Fits, fits_at, fits_tag}
use Rattle.plan_writer.proofs.write.fitting.Goals as goal
use Rattle.plan_writer.proofs.write.fitting.Goals.{After-stored_length-length}

-- the table fits, its rows are there, and the length is that of its stored form
given : (c : After-stored_length-length) → let t = c.args.table.now in
    Fits t.count t.rows t.marks × (t.count ≤ length t.rows) × (c.stored_length-length.result ≡ length (stored (decode t)))
given c =
    let t = c.args.table.now in
    let fit = fits_at t.count t.rows t.marks c.requires in
    let within : t.count ≤ length t.rows = omega (arith, fit.few) in
    (fit, within, c.stored_length-length.ensures ∙ sym (length_stored t.count t.rows t.marks within))

pub returns-then-out-length : goal.returns-then-out-length
returns-then-out-length c =
    let g = given (goal.at.returns-then-out-length c).After-stored_length-length in
    let short = write_short c.args.table.now c.args.out.now c.requires (omega (arith, g.2, c.if-out-length.true)) in
    record { value = short.0; out_after = short.1 }

pub rows-requires : goal.rows-requires
rows-requires c =
    let t = c.args.table.now in
    let g = given (goal.at.rows-requires c).After-stored_length-length in
    record {
      rows = g.1;
      few = g.0.few;
      tags = fits_tag t.count t.rows t.marks g.0 g.1;
      room = omega (arith, c.stored_length-length.ensures, c.if-out-length.false);
    }

pub returns : goal.returns
returns c =
    let t = c.args.table.now in
    let o = c.args.out.now in
    let g = given (goal.at.returns c).After-stored_length-length in
    let room : length (stored (decode t)) ≤ length o = omega (arith, g.2, c.if-out-length.false) in
    record {
      value = write_fine t o c.requires c.stored_length-length.result room g.2;
      out_after =
          c.marks.ensures ∙ ap (over (4 * t.count) (marks_bytes 0 (map of_link t.marks))) c.rows.ensures ∙
          stored_over t.count t.rows t.marks g.1 o (omega (arith, c.stored_length-length.ensures, c.if-out-length.false)) ∙
          sym (write_out t o c.requires room);
    }
