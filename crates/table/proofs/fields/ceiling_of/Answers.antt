-- The loop keeps `Joined`.
use Rattle.table.proofs.AtOnce.{all_joined}
use borrow.Author.Rules.{rules}
use Rattle.table.proofs.fields.ceiling_of.Goals as goal

pub returns : goal.returns
returns c = rw c.turn32.ensures (all_joined c.loop-k.invariant (search rules))
