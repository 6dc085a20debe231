-- a | b has the members of either.
use Rattle.sets.proofs.Bits.{union_is}
use Rattle.sets.proofs.union.Goals as goal

pub returns : goal.returns
returns c = union_is _ _
