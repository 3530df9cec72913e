-- The first 4,096 bytes of each file give the lines that the whole files give: FilesByFront.
use mathlib.Core.Path.{◌≡◌, refl}
use mathlib.Core.List.{List}
use Prim.Native.Nat.{ℕ}
use lib.ListN.{take}
use Rattle.pair_files.proofs.FrontLaws.{read_by_front}
use Rattle.plan_table.specs.declared.Table.{Table}
use Rattle.plan.specs.Calls.{plan_read}
use Rattle.paths.specs.Analysis.{Analysis, Refused, Free, Upward, Meet, analysed}
use Rattle.pair_orders.specs.Orders.{ending, order}
use Rattle.pair_report.specs.Pair.{three_lines, text_by, pair_text}
use Rattle.pair_files.specs.Promise.{file_bytes}
use Rattle.pair_report.specs.Promise.{FilesByFront}

-- A RUN reads its script
ending_take : (t : Table) (b : List ℕ) → ending t (take file_bytes b) ≡ ending t b
unfolding ending
ending_take t b = rw (read_by_front.1 b)

order_take : (t : Table) (b c : List ℕ) → order t (take file_bytes b) (take file_bytes c) ≡ order t b c
unfolding order
order_take t b c = rw (ending_take t b, ending_take _ c)

-- THE LINES, by the answer of the analysis
analysed_take : (b c : List ℕ) → analysed (take file_bytes b) (take file_bytes c) ≡ analysed b c
analysed_take b c = rw (read_by_front.1 b, read_by_front.1 c)

three_lines_take : (t : Table) (w b c : List ℕ) → three_lines t w (take file_bytes b) (take file_bytes c) ≡ three_lines t w b c
unfolding three_lines
three_lines_take t w b c = rw (order_take t b c, order_take t c b)

text_by_take : (a : Analysis) (t : Table) (b c : List ℕ) → text_by a t (take file_bytes b) (take file_bytes c) ≡ text_by a t b c
text_by_take (Refused s f) t b c = refl
text_by_take Free t b c = three_lines_take t _ b c
text_by_take Upward t b c = three_lines_take t _ b c
text_by_take Meet t b c = three_lines_take t _ b c

pub files_by_front : FilesByFront
unfolding pair_text
files_by_front p b c = rw (read_by_front.0 p, analysed_take b c, text_by_take (analysed b c) (plan_read p).table b c)
