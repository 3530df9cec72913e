-- `meet::pair`: a union from its parts, any other from its operand.
use Rattle.std.proofs.Common.{◌≡◌, sym, ◌∙◌, arith}
use Rattle.paths_positions.specs.Packed.{union_kind}
use Rattle.paths_rows.specs.Columns.{column_at, kind_field}
use Rattle.paths_fill.proofs.RestLaws.{left_asks, first_within, unions_asks, union_left, up_asks, up_by_lem, up_left}
use Rattle.paths_fill.proofs.meet.pair.Goals as goal

pub unions-requires : goal.unions-requires
unions-requires c =
    unions_asks c.requires (sym c.at-2.ensures ∙ c.if-at-eq-UNION.true) _ _
    (c.byte-j.ensures.value ∙ c.at.ensures) (c.byte.ensures.value ∙ c.at-then-at-eq-UNION.ensures)

pub returns-then-at-eq-UNION : goal.returns-then-at-eq-UNION
returns-then-at-eq-UNION c =
    union_left c.requires (sym c.at-2.ensures ∙ c.if-at-eq-UNION.true) _ _ _
    (c.byte-j.ensures.value ∙ c.at.ensures) (c.byte.ensures.value ∙ c.at-then-at-eq-UNION.ensures) c.unions.ensures

pub is_marked-requires : goal.is_marked-requires
is_marked-requires c =
    left_asks c.requires _ _ (omega arith) (omega (arith, first_within c.requires, c.byte-j.ensures.value, c.at.ensures))

pub is_marked-requires-2 : goal.is_marked-requires-2
is_marked-requires-2 c =
    left_asks c.requires _ _ (omega arith) (omega (arith, first_within c.requires, c.byte-j.ensures.value, c.at.ensures))

pub is_marked-requires-3 : goal.is_marked-requires-3
is_marked-requires-3 c =
    left_asks c.requires _ _ (omega arith) (omega arith)

pub mark-requires : goal.mark-requires
mark-requires c =
    up_asks c.requires (λ e. c.if-at-eq-UNION.false (c.at-2.ensures ∙ e)) _

pub returns : goal.returns
returns c =
    let n : column_at c.args.columns.now kind_field c.args.l ≡ union_kind → ⊥ = λ e. c.if-at-eq-UNION.false
    (c.at-2.ensures ∙ e) in
    up_left c.requires n _
    (up_by_lem c.requires n c.byte-j.result (c.byte-j.ensures.value ∙ c.at.ensures) c.is_marked-3.ensures c.is_set.ensures
    c.is_marked.ensures c.is_set-past.ensures c.is_marked-2.ensures) c.mark.ensures
