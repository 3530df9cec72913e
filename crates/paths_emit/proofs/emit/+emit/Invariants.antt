-- `emit::emit`: the measure is how deep it may be.
use Rattle.paths_emit.proofs.emit.+emit.Given as goal

abbrev pub decreases-emit : goal.decreases-emit
decreases-emit l = l.left
