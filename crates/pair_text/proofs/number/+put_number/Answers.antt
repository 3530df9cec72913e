use Rattle.std.proofs.Common.{◌+◌, ◌<◌, arith}
use Rattle.pair_text.proofs.TextLaws.{number_low, number_room, number_high}
use Rattle.pair_text.proofs.number.+put_number.Goals as goal

pub returns-then-n-lt10 : goal.returns-then-n-lt10
returns-then-n-lt10 t c = number_low c.args.out.now c.args.at c.args.n c.if-n-lt10.true (omega arith)

pub bounds-out-last : goal.bounds-out-last
bounds-out-last t c =
    let h : c.put_number-last.result < c.args.at + 20 =
    number_room c.args.out.now c.put_number-last.new.out c.args.at c.args.n c.put_number-last.result (omega (arith, c.ranges.n))
    c.put_number-last.ensures in
    omega arith

pub returns : goal.returns
returns t c =
    number_high c.args.out.now c.put_number-last.new.out c.args.at c.args.n c.put_number-last.result (omega (arith, c.ranges.n))
    c.put_number-last.ensures (omega arith) (omega (arith, c.requires)) c.put_number-last.auto.out
