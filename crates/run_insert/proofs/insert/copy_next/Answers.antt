-- `insert::copy_next` copies a row under its parent's copy, if there is one.
use Rattle.std.proofs.Common.{arith}
use Rattle.run_insert.proofs.InsertLaws.{next_bound, link_small, link_pre, link_made}
use Rattle.run_insert.proofs.insert.copy_next.Goals as goal

pub copy_link-link-requires : goal.copy_link-link-requires
copy_link-link-requires c =
    omega (arith, next_bound c.requires, c.link.ensures)

pub relinked-requires : goal.relinked-requires
relinked-requires c =
    link_small c.requires c.link.ensures c.copy_link-link.ensures c.if-link-eq0.false

pub new_row-requires : goal.new_row-requires
new_row-requires c =
    link_pre c.requires c.link.ensures c.copy_link-link.ensures c.if-link-eq0.false c.relinked.ensures

pub returns : goal.returns
returns c =
    link_made c.requires c.link.ensures c.copy_link-link.ensures c.if-link-eq0.false c.relinked.ensures c.new_row.ensures
