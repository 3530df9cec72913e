-- `Positions::push` is one entry more.
use Rattle.std.proofs.Common.{subst, sym, ℕ, ◌+◌, set}
use Rattle.paths_positions.specs.Packed.{fields_in, PushPost}
use Rattle.paths_positions.proofs.PackedLaws.{position_pushed}
use Rattle.paths_positions.proofs.packed.Positions.push.Goals as goal

pub returns : goal.returns
returns c =
    let self = c.args.self.now in
    subst (λ (w : ℕ). PushPost self.items self.count (fields_in c.args.p) (set self.items self.count w) (self.count + 1) self.count)
    (sym c.packed.ensures.value)
    (position_pushed (fields_in c.args.p) c.packed.ensures.fits self.items self.count c.requires.room)
