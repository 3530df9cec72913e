-- `read::expression`: the measure is how deep it may be.
use Rattle.script.proofs.read.+expression.Given as goal

abbrev pub decreases-expression : goal.decreases-expression
decreases-expression l = l.left
