-- The largest is below the limit, so that each is.
use Rattle.table.proofs.AtOnce.{each_below}
use borrow.Author.Tests.{ltb-true}
use Rattle.table.proofs.fields.all_below.Goals as goal

pub returns : goal.returns
returns c e = each_below _ _ _ _ c.largest_byte.ensures (ltb-true _ _ e)
