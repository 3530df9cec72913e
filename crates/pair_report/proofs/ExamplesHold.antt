-- Document 01's examples of `pair` hold, by computing the definitions.
use mathlib.Core.Path.{refl}
use Rattle.model.specs.Base.{any, all, among, filtered}
use Rattle.model.specs.Table.{rows_fit, none_twice}
use Rattle.model.specs.Stored.{stored_kinds, read_from, last_marked}
use Rattle.model.specs.Script.{script_kinds, parse_from}
use Rattle.model.specs.Step.{is_below_from, collect}
use Rattle.model.specs.Run.{run, loop, cut_all, copy_all, copy_each, copy_of}
use Rattle.model.specs.Paths.{infer, prefixed, prefixes_of, has_up}
use Rattle.model.specs.Meeting.{cell, start_cells, step_cells}
use Rattle.pair_text.specs.Text.{digits}
use Rattle.pair_orders.specs.Orders.{ending, order}
use Rattle.pair_lines.specs.Lines.{file_line, answer_line, order_line}
use Rattle.pair_report.specs.Pair.{three_lines, pair_text}
use Rattle.pair_report.specs.Examples.{Examples}

pub examples_hold : Examples
unfolding any all among filtered rows_fit none_twice stored_kinds read_from last_marked script_kinds parse_from is_below_from collect run
    loop
    cut_all copy_all copy_each
    copy_of infer prefixed prefixes_of has_up cell start_cells step_cells digits ending order file_line answer_line
    order_line three_lines pair_text
examples_hold = (refl, refl, refl, refl)
