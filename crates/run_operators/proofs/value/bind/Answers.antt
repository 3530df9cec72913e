-- `bind`: a binder's first value stands behind the variables around it; any other record adds none.
use Rattle.std.proofs.Common.{sym, ◌∙◌}
use Rattle.script_records.specs.Kinds.{byte_of}
use Rattle.run_operators.proofs.RecordLaws.{bound_more, bound_same}
use Rattle.run_operators.proofs.value.bind.Goals as goal

pub returns-then-is_binder : goal.returns-then-is_binder
returns-then-is_binder c =
    bound_more (byte_of c.args.kind) c.args.env c.args.bound
    c.args.start c.args.end c.requires
    (sym c.is_binder.ensures ∙ c.if-is_binder.true)

pub returns-else-is_binder : goal.returns-else-is_binder
returns-else-is_binder c =
    bound_same (byte_of c.args.kind) c.args.env c.args.bound
    c.args.start c.args.end c.requires
    (sym c.is_binder.ensures ∙ c.if-is_binder.false)
