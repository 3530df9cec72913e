-- `emit::bind` gives the variables of a second operand.
use Rattle.std.proofs.Common.{sym, ◌∙◌}
use Rattle.script_records.specs.Kinds.{byte_of}
use Rattle.paths_emit.proofs.RecordLaws.{bind_one, bind_none}
use Rattle.paths_emit.proofs.emit.bind.Goals as goal

pub returns-then-is_binder : goal.returns-then-is_binder
returns-then-is_binder c =
    bind_one (byte_of c.args.kind) c.args.env c.args.bound c.args.res c.requires
    (sym c.is_binder.ensures ∙ c.if-is_binder.true)

pub returns : goal.returns
returns c =
    bind_none (byte_of c.args.kind) c.args.env c.args.bound c.args.res c.requires
    (sym c.is_binder.ensures ∙ c.if-is_binder.false)
