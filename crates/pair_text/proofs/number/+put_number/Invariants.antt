-- `number::put_number` places the digits of a number; n falls with each call.
use Rattle.pair_text.proofs.number.+put_number.Given as goal

abbrev pub decreases-put_number : goal.decreases-put_number
decreases-put_number l = l.n
