-- `read::read_record` refuses the record at the front or takes it into the table: the kind, then room, length, fields and links.
use Rattle.std.proofs.Common.{◌≡◌, ◌∙◌, sym, ap, true, false, arith, get_or}
use Rattle.std.proofs.lemmas.Result.{err_from_is_err_and}
use Rattle.model.specs.Table
use Rattle.model.specs.Stored.{mark_kind, is_stored_kind, is_mark}
use Rattle.plan_table.specs.Packed.{decode_parts}
use Rattle.plan_table.specs.StoredKinds.{byte_of}
use Rattle.plan_table.proofs.PackedLaws.{count_decode}
use Rattle.plan_table.proofs.ReasonLaws.{some_number}
use Rattle.plan_table.proofs.StoredKindLaws.{row_byte}
use Rattle.plan_reader.proofs.ReadRecordLaws.{not_accepted, record_size_lem, record_mark_short, record_row_short}
use Rattle.plan_reader.proofs.ReadRecordLaws.{mark_record, mark_refused, row_record, row_refused}
use Rattle.plan_reader.proofs.read.read_record.Goals as goal
use Rattle.plan_reader.proofs.read.read_record.Goals.{In-Element, In-Mark}

-- the front is a mark's, or a row's
mark_here : (c : In-Mark) → get_or c.args.s.now 0 0 ≡ mark_kind
mark_here c = sym c.in_ok-kind.ensures ∙ ap byte_of c.in-Mark.is

row_here : (c : In-Element) → (is_stored_kind (get_or c.args.s.now 0 0) ≡ true) × (is_mark c.args.s.now ≡ false)
row_here c = row_byte c.in_ok-kind.ensures c.in-Element.is

-- so many rows are read
counted : (c : In-Element) →
    Rattle.model.specs.Table.count (decode_parts c.args.count c.args.rows.now c.args.marks.now) ≡ c.args.count
counted c = count_decode c.args.count c.args.rows.now c.args.marks.now (omega (arith, c.requires.held.room, c.requires.held.size))

pub returns-then-s-lt-SIZE : goal.returns-then-s-lt-SIZE
returns-then-s-lt-SIZE c =
    let here = mark_here (goal.at.returns-then-s-lt-SIZE c).In-Mark in
    record {
      refusal = λ i. record_mark_short _ i c.args.s.now here c.if-s-lt-SIZE.true;
      fine = λ z. not_accepted 1 z;
    }

pub returns-in_err-mark-in-Mark : goal.returns-in_err-mark-in-Mark
returns-in_err-mark-in-Mark c =
    let m = c.in_err-mark-in-Mark in
    let f = c.from_residual-in_err-mark-in-Mark in
    let p = err_from_is_err_and f.result f.ensures.1 in
    let x = c.args in
    rw (p.1, p.2)
    (mark_refused x.s.now x.rows.now x.marks.now x.count x.last c.requires (omega (arith, c.if-s-lt-SIZE.false))
    (mark_here (goal.at.returns-in_err-mark-in-Mark c).In-Mark) c.mark.new.marks _ (some_number m.field-0.0) m.ensures)

pub returns-in_ok-mark-in-Mark : goal.returns-in_ok-mark-in-Mark
returns-in_ok-mark-in-Mark c =
    let x = c.args in
    mark_record x.s.now x.rows.now x.marks.now x.count x.last c.requires (omega (arith, c.if-s-lt-SIZE.false))
    (mark_here (goal.at.returns-in_ok-mark-in-Mark c).In-Mark) c.mark.new.marks c.from.result c.in_ok-mark-in-Mark.ensures
    c.from.ensures

pub returns-then-count-ge-ROWS : goal.returns-then-count-ge-ROWS
returns-then-count-ge-ROWS c =
    let i = (goal.at.returns-then-count-ge-ROWS c).In-Element in
    let here = row_here i in
    record {
      refusal = λ at. record_size_lem _ at c.args.s.now here.0 here.1 (omega (arith, counted i, c.if-count-ge-ROWS.true));
      fine = λ z. not_accepted 4 z;
    }

pub returns-then-s-lt-SIZE-2 : goal.returns-then-s-lt-SIZE-2
returns-then-s-lt-SIZE-2 c =
    let i = (goal.at.returns-then-s-lt-SIZE-2 c).In-Element in
    let here = row_here i in
    record {
      refusal = λ at.
          record_row_short _ at c.args.s.now here.0 here.1 (omega (arith, counted i, c.if-count-ge-ROWS.false))
          c.if-s-lt-SIZE-2.true;
      fine = λ z. not_accepted 1 z;
    }

pub row-requires : goal.row-requires
row-requires c =
    let here = row_here (goal.at.row-requires c).In-Element in
    record {
      front = c.in_ok-kind.ensures;
      row =
          record {
            whole = omega (arith, c.if-s-lt-SIZE-2.false);
            kind = here.0;
            row = here.1;
            room = omega (arith, c.if-count-ge-ROWS.false);
            size = c.requires.held.size;
          };
    }

pub returns-in_err-row-in-Element : goal.returns-in_err-row-in-Element
returns-in_err-row-in-Element c =
    let here = row_here (goal.at.returns-in_err-row-in-Element c).In-Element in
    let r = c.in_err-row-in-Element in
    let f = c.from_residual-in_err-row-in-Element in
    let p = err_from_is_err_and f.result f.ensures.1 in
    let x = c.args in
    rw (p.1, p.2)
    (row_refused x.s.now x.rows.now x.marks.now x.count x.last c.requires (omega (arith, c.if-s-lt-SIZE-2.false)) here.0 here.1
    (omega (arith, c.if-count-ge-ROWS.false)) c.row.new.rows _ (some_number r.field-0.0) r.ensures)

pub returns-in_ok-row-in-Element : goal.returns-in_ok-row-in-Element
returns-in_ok-row-in-Element c =
    let here = row_here (goal.at.returns-in_ok-row-in-Element c).In-Element in
    let x = c.args in
    row_record x.s.now x.rows.now x.marks.now x.count x.last c.requires (omega (arith, c.if-s-lt-SIZE-2.false)) here.0 here.1
    (omega (arith, c.if-count-ge-ROWS.false)) c.row.new.rows c.in_ok-row-in-Element.ensures
