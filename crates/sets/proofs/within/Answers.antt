-- The mask leaves set % 2 ^ n, whose members are those below n.
use Rattle.sets.proofs.Members.{counts_within}
use Rattle.sets.proofs.within.Goals as goal

pub returns : goal.returns
returns c = rw c.set_limit.ensures (counts_within c.args.set c.args.n)
