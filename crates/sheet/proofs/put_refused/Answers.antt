-- The word, the name, and the quote after it.
use borrow.Author.Rules.{rules}
use Rattle.line.proofs.Puts.{puts_both}
use Rattle.sheet.proofs.put_refused.Goals as goal

pub returns : goal.returns
returns c = record { puts = search (rules, puts_both); short = search rules }
