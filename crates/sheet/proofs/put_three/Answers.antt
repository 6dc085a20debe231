-- The word, and the numbers after it.
use borrow.Author.Rules.{rules}
use Rattle.sheet.proofs.Joining.{row_after}
use Rattle.sheet.proofs.put_three.Goals as goal

pub returns : goal.returns
returns c = search (rules, row_after)
