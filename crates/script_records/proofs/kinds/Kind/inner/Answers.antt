-- `Kind::inner` meets its contract: a binder binds one variable more, and there is room for it.
use Rattle.std.proofs.Common.{sym, ◌∙◌}
use Rattle.script_records.specs.Walk.{inner}
use Rattle.script_records.proofs.kinds.Kind.inner.Goals as goal

pub returns-then-is_binder : goal.returns-then-is_binder
unfolding inner
returns-then-is_binder c =
    rw (sym c.is_binder.ensures ∙ c.if-is_binder.true)

pub returns : goal.returns
unfolding inner
returns c =
    rw (sym c.is_binder.ensures ∙ c.if-is_binder.false)
