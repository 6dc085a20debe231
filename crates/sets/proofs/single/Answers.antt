-- The shift loses nothing, so that the result is 2 ^ i.
use Rattle.sets.proofs.Bits.{one_shl, single_is}
use borrow.Author.Rules.{rules}
use Rattle.sets.proofs.single.Goals as goal

pub returns : goal.returns
returns c = rw (one_shl c.args.i 32 (search rules)) (single_is c.args.i)
