-- `meet::row`: each kind of position.
use Rattle.std.proofs.Common.{refl, ap, sym, ◌∙◌, eqb, get_or, eqb-true}
use Rattle.model.proofs.BoolLaws.{and_left, and_right}
use Rattle.script_records.specs.Steps.{step_of}
use Rattle.paths_positions.specs.Packed.{fields_in, no_fields, over_by, union_by, plain_role, over_kind, union_kind}
use Rattle.paths_fill.specs.Filling.{roleless}
use Rattle.paths_fill.proofs.RowLaws.{row_none}
use Rattle.paths_fill.proofs.StepLaws.{operand_low, dead_row}
use Rattle.paths_fill.proofs.TableLaws.{parts, union_apart, of_kind, nothing_apart}
use Rattle.paths_fill.proofs.meet.row.Goals as goal

pub returns-then-live-i-eq0 : goal.returns-then-live-i-eq0
returns-then-live-i-eq0 c =
    let at = of_kind c.requires (over_by plain_role (step_of c.in-Over.step) c.in-Over.i) over_kind
    (ap roleless (sym (ap fields_in c.in-Over.is) ∙ c.unpacked.ensures)) refl in
    row_none c.requires.filled c.requires.fill.row
    (dead_row at (c.requires.apart c.in-Over.i (operand_low at) c.if-live-i-eq0.true))

pub returns-then-live-i : goal.returns-then-live-i
returns-then-live-i c =
    let at = of_kind c.requires (union_by plain_role c.in-Union.i c.in-Union.j) union_kind
    (ap roleless (sym (ap fields_in c.in-Union.is) ∙ c.unpacked.ensures)) refl in
    let one = eqb (get_or c.args.live.now c.in-Union.i 0) 0 in
    let two = eqb (get_or c.args.live.now c.in-Union.j 0) 0 in
    row_none c.requires.filled c.requires.fill.row
    (union_apart at (c.requires.apart c.in-Union.i (parts at).0 (eqb-true _ 0 (and_left one two c.if-live-i.true)))
    (c.requires.apart c.in-Union.j (parts at).1 (eqb-true _ 0 (and_right one two c.if-live-i.true))))

pub returns-in-Nothing : goal.returns-in-Nothing
returns-in-Nothing c =
    row_none c.requires.filled c.requires.fill.row
    (nothing_apart (of_kind c.requires no_fields 0 (ap roleless (sym (ap fields_in c.in-Nothing.is) ∙ c.unpacked.ensures)) refl))
