use Rattle.std.proofs.Common.{Ok, Err, refl, take, length, drop, ◌≡◌, ◌+◌, ◌-◌, ◌≤◌, arith, rules}
use Rattle.std.proofs.lemmas.Result.{err_from_is_err_and}
use Rattle.plan_table.proofs.ReasonLaws.{some_number}
use Rattle.plan_table.specs.Packed.{decode_parts}
use Rattle.plan_reader.specs.Reading.{Held, RecordPost, record_by}
use Rattle.plan_reader.proofs.ReadingLaws.{held_empty, reading_all, reading_on, reading_refused, reading_end}
use Rattle.model.specs.Stored.{record_size, read_from, read_plan}
use Rattle.plan_reader.proofs.read.records.Goals as goal
use Rattle.plan_reader.proofs.read.records.Goals.{In_ok-read}

pub loop-at-init : goal.loop-at-init
loop-at-init c = (
  held_empty c.args.rows.now c.args.marks.now c.requires,
  omega arith,
  reading_all c.args.rows.now c.args.marks.now c.requires c.args.bytes.now,
)

pub returns-in_err-read : goal.returns-in_err-read
returns-in_err-read c =
    let l = c.loop-at in
    let r = c.read_record in
    let f = c.in_err-read.field-0.0 in
    let e : r.result ≡ Err f.reason = grind arith in
    let a : f.place ≡ l.at-counter = grind arith in
    let p = err_from_is_err_and c.from_residual.result c.from_residual.ensures.1 in
    rw (p.1, p.2, a)
    (reading_refused c.args.bytes.now l.rows l.marks l.count l.at-counter c.loop-at-test.true l.invariant.2 r.new.rows r.new.marks
    (record_by (Err f.reason)) (rw e at r.ensures) (some_number f.reason))

-- the record is read, and reading goes on after it
goes : (c : In_ok-read) → let r = c.read_record in
    let b = c.args.bytes.now in
    let at = c.loop-at.at-counter + record_size in
    let x = decode_parts c.in_ok-read.read.count r.new.rows r.new.marks in
    Held r.new.rows r.new.marks c.in_ok-read.read.count c.in_ok-read.read.last × (at ≤ length b) ×
    (read_from (length b - at) x at (drop at b) ≡ read_plan b)
goes c =
    let l = c.loop-at in
    let r = c.read_record in
    let e : r.result ≡ Ok c.in_ok-read.read = search rules in
    let b = c.args.bytes.now in
    let post : RecordPost (take (length b - l.at-counter) (drop l.at-counter b)) l.rows l.marks l.count r.new.rows r.new.marks
    (record_by (Ok c.in_ok-read.read)) = rw e at r.ensures in
    let g = reading_on b l.rows l.marks l.count l.at-counter c.loop-at-test.true l.invariant.2 r.new.rows r.new.marks
    (record_by (Ok c.in_ok-read.read)) post refl in
    ((post.fine refl).held, g.0, g.1)

pub loop-at-preserved : goal.loop-at-preserved
loop-at-preserved c = goes (goal.at.loop-at-preserved c).In_ok-read

pub returns-in_ok-read : goal.returns-in_ok-read
returns-in_ok-read c =
    let g = goes (goal.at.returns-in_ok-read c).In_ok-read in
    let r = c.read_record.new in
    record {
      result = reading_end c.args.bytes.now r.rows r.marks c.in_ok-read.read.count (c.loop-at.at-counter + 4) (omega (arith, g.1)) g.2;
      canonical = λ z. g.0.canonical;
      room = λ z. omega (arith, g.0.room, g.0.size);
    }

pub returns : goal.returns
returns c =
    let l = c.loop-at in
    record {
      result = reading_end c.args.bytes.now l.rows l.marks l.count l.at-counter (omega arith) l.invariant.2;
      canonical = λ z. l.invariant.0.canonical;
      room = λ z. omega (arith, l.invariant.0.room, l.invariant.0.size);
    }
