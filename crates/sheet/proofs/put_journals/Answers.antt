-- The word, and the number after it.
use borrow.Author.Rules.{rules}
use Rattle.sheet.proofs.Joining.{row_after}
use Rattle.sheet.proofs.put_journals.Goals as goal

pub returns : goal.returns
returns c = record { puts = search (rules, row_after); short = search rules }
