-- Trailing zeros end at the smallest member.
use Rattle.sets.proofs.Smallest.{takes_smallest}
use borrow.Author.Rules.{rules}
use Rattle.sets.proofs.take_smallest.Goals as goal

pub returns : goal.returns
returns c = takes_smallest _ (search rules) (search rules)
