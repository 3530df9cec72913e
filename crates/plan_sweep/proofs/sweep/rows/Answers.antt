use Rattle.std.proofs.Common.{length, ap, ◌≤◌, arith, rules}
use Rattle.plan_sweep.proofs.SweepLaws.{sweeping_none, sweeping_next, next_low, link_in_lem, entry_low}
use Rattle.plan_table.proofs.FittedLaws.{Fits, fits_at, fits_mark}
use Rattle.plan_sweep.proofs.sweep.rows.Goals as goal

pub flag-requires : goal.flag-requires
flag-requires c =
    let fitting : Fits c.args.count c.args.rows.now c.args.marks.now =
    fits_at c.args.count c.args.rows.now c.args.marks.now c.requires.fits in
    let within : c.args.count ≤ length c.args.rows.now = let fitting : Fits c.args.count c.args.rows.now c.args.marks.now =
    fits_at c.args.count c.args.rows.now c.args.marks.now c.requires.fits in
    omega (arith, (fitting).few, c.requires.size) in
    record {
      clear = c.requires.clear;
      links = λ d. omega (
        arith,
        fits_mark c.args.count c.args.rows.now c.args.marks.now (fitting) (within) d,
        (fitting).few,
      );
    }

pub loop-i-init : goal.loop-i-init
loop-i-init c =
    sweeping_none c.args.rows.now c.args.marks.now c.flag.new.numbers c.args.out.now c.args.count
    c.flag.ensures c.requires.rows

pub row-next-requires : goal.row-next-requires
row-next-requires c =
    let fitting : Fits c.args.count c.args.rows.now c.args.marks.now =
    fits_at c.args.count c.args.rows.now c.args.marks.now c.requires.fits in
    record {
      low = omega (
        arith,
        (fitting).few,
      );
      link = link_in_lem c.args.rows.now c.args.marks.now c.args.count c.loop-i.i (fitting) c.requires.size
          c.loop-i-test.true c.loop-i.next c.loop-i.numbers
          c.loop-i.out c.loop-i.invariant;
      below = next_low c.args.rows.now c.args.marks.now c.args.count c.loop-i.i
          (fitting) c.requires.size c.loop-i-test.true c.loop-i.next c.loop-i.numbers c.loop-i.out c.loop-i.invariant;
      numbers = c.loop-i.invariant.size;
      rows = search (ap length c.requires.rows, rules);
      parent = entry_low c.args.rows.now c.args.marks.now c.args.count c.loop-i.i (fitting)
          c.requires.size c.loop-i-test.true c.loop-i.next c.loop-i.numbers c.loop-i.out c.loop-i.invariant;
    }

pub loop-i-preserved : goal.loop-i-preserved
loop-i-preserved c =
    let fitting : Fits c.args.count c.args.rows.now c.args.marks.now =
    fits_at c.args.count c.args.rows.now c.args.marks.now c.requires.fits in
    sweeping_next c.args.rows.now c.args.marks.now c.args.count c.loop-i.i (fitting) c.requires.size
    c.loop-i-test.true c.loop-i.next c.loop-i.numbers
    c.loop-i.out c.loop-i.invariant
    c.row-next.new.numbers c.row-next.new.out c.row-next.result c.row-next.ensures
