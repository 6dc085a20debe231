-- Line after line.
use borrow.Author.Rules.{rules}
use Rattle.sheet.proofs.Joining.{none_joined, one_joined, all_joined}
use Rattle.sheet.proofs.Whole.{puts_pair}
use Rattle.sheet.proofs.put_pairs.Goals as goal

pub loop-k-init : goal.loop-k-init
loop-k-init c = none_joined _ _ _ _ _

pub loop-k-preserved : goal.loop-k-preserved
loop-k-preserved c =
    let line = puts_pair _ c.requires.1 _ c.put_pair-end.ensures.puts in
    one_joined c.loop-k.invariant (search rules) line c.put_pair-end.ensures.short

pub returns : goal.returns
returns c = let all_of = all_joined c.loop-k.invariant (search rules) in record { puts = all_of.0; short = all_of.1 }
