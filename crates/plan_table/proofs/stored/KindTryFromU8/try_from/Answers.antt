-- A byte that is none of the three kinds' is no kind.
use Rattle.std.proofs.Common.{refl, ne_eqb, arith}
use Rattle.model.specs.Stored.{element_kind, leaf_kind, mark_kind, stored_kinds}
use Rattle.plan_table.proofs.stored.KindTryFromU8.try_from.Goals as goal

pub returns-in_default : goal.returns-in_default
unfolding stored_kinds
returns-in_default c =
    let k = c.args.byte in
    (rw (ne_eqb k element_kind (omega arith), ne_eqb k leaf_kind (omega arith), ne_eqb k mark_kind (omega arith)), refl)
