-- `meet::root_row`: the same documents, down as well, then the rest.
use Rattle.std.proofs.Common.{sym, ◌∙◌}
use Rattle.paths_fill.proofs.RootLaws.{roots_asks, down_asks, rest_asks, root_done, root_none}
use Rattle.paths_fill.proofs.meet.root_row.Goals as goal

pub on_roots-requires : goal.on_roots-requires
on_roots-requires c =
    roots_asks c.requires

pub down-seen-requires : goal.down-seen-requires
down-seen-requires c =
    down_asks c.requires c.on_roots.ensures

pub rest-requires : goal.rest-requires
rest-requires c =
    rest_asks c.requires c.on_roots.ensures c.down-seen.ensures.row_marked

pub returns-then-seen : goal.returns-then-seen
returns-then-seen c =
    root_done c.requires c.on_roots.ensures c.down-seen.ensures.row_marked c.rest.ensures

pub returns : goal.returns
returns c =
    root_none c.requires c.on_roots.ensures c.down-seen.ensures.row_marked (sym c.down-seen.ensures.value ∙ c.if-seen.false)
