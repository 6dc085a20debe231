-- The cut of the two is not empty exactly when they meet.
use borrow.Author.Rules.{rules}
use Rattle.sets.proofs.Smallest.{cut_meets}
use Rattle.sets.proofs.meet.Goals as goal

pub returns : goal.returns
returns c = cut_meets _ _ (search rules)
