-- After `answer free` the lines of both orders have the same numbers, or both say refused: FreeLines.
use mathlib.Core.Path.{◌≡◌, refl, ap, sym, subst, ◌∙◌}
use mathlib.Core.Bool.{true, false≢true}
use mathlib.Core.List.{List}
use mathlib.Core.Logic.{inl, inr}
use Prim.Native.Nat.{ℕ}
use Rattle.model.specs.Call.{answered}
use Rattle.model.specs.Call as model
use Rattle.model.specs.Meeting.{free}
use Rattle.model.specs.Stored.{Read, got, read_plan}
use Rattle.model.specs.Table.{Table}
use Rattle.plan_table.specs.Packed.{encode}
use Rattle.plan.specs.Calls.{read_by}
use Rattle.paths.specs.Analysis.{analysis_of}
use Rattle.paths.proofs.Promised.{free_told}
use Rattle.pair_orders.specs.Orders.{Order, Refused, Ended, order, swap}
use Rattle.pair_orders.specs.Promise.{has_ended}
use Rattle.pair_orders.proofs.FreeOrders.{free_orders}
use Rattle.pair_report.specs.Pair.{three_lines, text_by, plan_text, pair_text}
use Rattle.pair_report.specs.Promise.{free_text, BothOrders, FreeLines}

-- the text, where a plan is read and the answer is free
free_printed : (p b c : List ℕ) (x : Table) → read_plan p ≡ got x → model.analyse b c ≡ answered free →
    pair_text p b c ≡ free_text (order (encode x) b c) (swap (order (encode x) c b))
unfolding pair_text three_lines
free_printed p b c x e f =
    ap (λ (q : Read). plan_text (read_by q) b c) e ∙ ap (λ (a : model.Analysis). text_by (analysis_of a) (encode x) b c) f

-- two orders that end alike
both_orders : (x y : Order) → has_ended x ≡ has_ended y → (has_ended x ≡ true → x ≡ y) → BothOrders (free_text x y)
both_orders (Ended i j r) y e f = subst (λ (z : Order). BothOrders (free_text (Ended i j r) z)) (f refl) (inl (i, (j, (r, refl))))
both_orders (Refused s n) (Refused s' n') e f = inr (s, (n, (s', (n', refl))))
both_orders (Refused s n) (Ended i j r) e f = absurd (false≢true e)

pub free_lines : FreeLines
free_lines p b c x bytes bytes_b bytesC read says =
    let f = free_told b c says in
    let o = free_orders p b c x bytes bytes_b bytesC read f in
    subst BothOrders (sym (free_printed p b c x read f))
    (both_orders (order (encode x) b c) (swap (order (encode x) c b)) o.0 o.1)
