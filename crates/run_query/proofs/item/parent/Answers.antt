-- `item::parent` appends the item's parent, if there is one that passes the test.
use Rattle.std.proofs.Common.{false, List, ap, sym, ◌∙◌, subst, ℕ, ◌-◌, arith}
use Rattle.model.specs.Script.{step_by}
use Rattle.plan_table.specs.Packed.{decode_parts}
use Rattle.run_query.specs.Values.{Appended, way_up}
use Rattle.plan_table.proofs.PackedLaws.{linked, unlinked}
use Rattle.run_query.proofs.PassLaws.{link_below}
use Rattle.run_query.proofs.ValueLaws.{appended_none, appended_by}
use Rattle.run_query.proofs.ItemLaws.{step_way, way_none, way_one}
use Rattle.script_records.specs.Steps.{test_number, test_name}
use Rattle.run_query.proofs.item.parent.Goals as goal

pub returns-in_default : goal.returns-in_default
returns-in_default c =
    λ ms. subst (λ (v : List ℕ). Appended v c.args.work.now c.args.from c.args.work.now c.args.from)
    (sym (step_way c.args.rows.now c.args.count c.requires.held (test_number c.args.test) (test_name c.args.test) ms false
    c.args.item.0 c.requires.low ∙
    way_none c.args.rows.now c.args.count c.requires.held (test_number c.args.test) (test_name c.args.test) ms false 2 _
    (sym c.link.ensures ∙ unlinked c.link.result.0 c.in_default.ensures))) (appended_none c.args.work.now c.args.from)

pub bounds-rows-row : goal.bounds-rows-row
bounds-rows-row c =
    omega (
      arith,
      c.link.ensures,
      (linked c.link.result.0 c.in-Some.ensures).1,
      link_below c.args.rows.now c.args.count c.requires.held c.args.item.0 c.requires.low,
      c.requires.low,
      c.requires.held.rows,
      c.requires.held.few,
    )

pub returns : goal.returns
returns c =
    let p = linked c.link.result.0 c.in-Some.ensures in
    λ ms. appended_by _ c.admits.result (c.link.result.0 - 1)
    (step_way c.args.rows.now c.args.count c.requires.held (test_number c.args.test) (test_name c.args.test) ms false
    c.args.item.0 c.requires.low ∙
    ap (way_up (decode_parts c.args.count c.args.rows.now ms) false (step_by 2 (test_number c.args.test) (test_name c.args.test)))
    (sym c.link.ensures) ∙
    way_one c.args.rows.now c.args.count c.requires.held (test_number c.args.test) (test_name c.args.test) ms
    c.link.result.0 p.0
    (omega (
      arith,
      c.link.ensures,
      link_below c.args.rows.now c.args.count c.requires.held c.args.item.0
          c.requires.low,
      c.requires.low,
    )) c.admits.result (rw p.1 at c.admits.ensures) 2)
    c.args.work.now c.args.from (omega (arith, c.requires.room)) _ c.append_if.result
    (rw p.1 at c.append_if.ensures.work_after) c.append_if.ensures.value
