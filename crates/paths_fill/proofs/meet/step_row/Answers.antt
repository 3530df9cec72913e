-- `meet::step_row`: parents, a node on both, an element down, then the rest.
use Rattle.std.proofs.Common.{ap, ◌∙◌, rules}
use Rattle.paths_fill.specs.Filling.{source_by}
use Rattle.paths_fill.proofs.StepLaws.{parents_asks, elements_asks, leaves_asks, down_asks, rest_asks, step_done}
use Rattle.paths_fill.proofs.meet.step_row.Goals as goal

pub parents-requires : goal.parents-requires
parents-requires c =
    parents_asks c.requires _ _ (c.source.ensures ∙ ap source_by c.is_deep.ensures)
    (search rules)

pub on_elements-requires : goal.on_elements-requires
on_elements-requires c =
    elements_asks c.requires (c.source.ensures ∙ ap source_by c.is_deep.ensures)
    c.parents.ensures (search rules)

pub on_leaves-leaves-requires : goal.on_leaves-leaves-requires
on_leaves-leaves-requires c =
    leaves_asks c.requires (c.source.ensures ∙ ap source_by c.is_deep.ensures)
    c.parents.ensures (search rules) c.on_elements.ensures

pub down-elements-requires : goal.down-elements-requires
down-elements-requires c =
    down_asks c.requires (c.source.ensures ∙ ap source_by c.is_deep.ensures)
    c.parents.ensures (search rules) c.on_elements.ensures c.on_leaves-leaves.ensures.row_marked

pub rest-requires : goal.rest-requires
rest-requires c =
    rest_asks c.requires (c.source.ensures ∙ ap source_by c.is_deep.ensures)
    c.parents.ensures (search rules) c.on_elements.ensures c.on_leaves-leaves.ensures.row_marked
    c.admits_element.ensures c.is_deep-2.ensures
    c.down-elements.ensures.row_marked

pub returns : goal.returns
returns c =
    step_done c.requires (c.source.ensures ∙ ap source_by c.is_deep.ensures)
    c.parents.ensures (search rules) c.on_elements.ensures c.on_leaves-leaves.ensures.row_marked
    c.admits_element.ensures c.is_deep-2.ensures
    c.down-elements.ensures.row_marked c.rest.ensures _ _ c.on_leaves-leaves.ensures.value c.down-elements.ensures.value
