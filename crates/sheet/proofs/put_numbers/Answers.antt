-- Number after number, and the line's end.
use borrow.Author.Rules.{rules}
use Rattle.sheet.proofs.Joining.{none_joined, one_joined, row_ended}
use Rattle.sheet.proofs.put_numbers.Goals as goal

pub loop-k-init : goal.loop-k-init
loop-k-init c = none_joined _ _ _ _ _

pub loop-k-preserved : goal.loop-k-preserved
loop-k-preserved c =
    one_joined c.loop-k.invariant (search rules) c.put_number-end.ensures.puts (search rules)

pub returns : goal.returns
returns c = let all_of = row_ended _ c.loop-k.invariant (search rules) c.put_text.ensures in record { puts = all_of.0; short = all_of.1 }
