-- The line is short, since state and input are.
use borrow.Author.Rules.{rules}
use Rattle.sheet.proofs.Rows.{pair_short}
use Rattle.sheet.proofs.put_pair.Goals as goal

pub returns : goal.returns
returns c = let all_of = pair_short _ _ _ (search rules) (search rules) c.put_three.ensures in record { puts = all_of.0; short = all_of.1 }
