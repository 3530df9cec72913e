-- `sweep::rows` keeps and renumbers row by row. The loop's invariant is `Sweeping`.
use Rattle.plan_sweep.specs.Sweeping.{Sweeping}
use Rattle.plan_table.specs.Packed.{decode_parts}
use Rattle.plan_sweep.proofs.sweep.rows.Given as goal

abbrev pub invariant-loop-i : goal.invariant-loop-i
invariant-loop-i l = Sweeping (decode_parts l.count l.rows l.marks) l.i l.next l.numbers l.out
