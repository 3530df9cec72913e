-- Demand 3 on the two orders that `pair` prints. The promise is a type; a term of that type in proofs/ is its proof.
use Rattle.std.specs.Prelude.{◌≡◌, Bool, true, false, List, ℕ}
use Rattle.model.specs.Base.{are_bytes}
use Rattle.model.specs.Table as model
use Rattle.model.specs.Stored.{got, read_plan}
use Rattle.model.specs.Meeting.{free}
use Rattle.model.specs.Call.{analyse, answered}
use Rattle.plan_table.specs.Packed.{encode}
use Rattle.pair_orders.specs.Orders.{Order, Refused, Ended, order, swap}

-- no script of the order is refused
abbrev pub has_ended : Order → Bool
has_ended (Refused s n) = false
has_ended (Ended i j r) = true

-- for every plan that is read and every two scripts that the analysis calls free, both orders end or neither; where they end, they
-- have the same numbers
abbrev pub FreeOrders : Type 0
FreeOrders =
    (p b c : List ℕ) (x : model.Table) → are_bytes p ≡ true → are_bytes b ≡ true → are_bytes c ≡ true → read_plan p ≡ got x →
    analyse b c ≡ answered free →
    (has_ended (order (encode x) b c) ≡ has_ended (swap (order (encode x) c b))) ×
    (has_ended (order (encode x) b c) ≡ true → order (encode x) b c ≡ swap (order (encode x) c b))
