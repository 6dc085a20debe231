-- a & (a ^ b) has the members of a that b lacks.
use Rattle.sets.proofs.Bits.{difference_is}
use Rattle.sets.proofs.difference.Goals as goal

pub returns : goal.returns
returns c = difference_is _ _
