-- Line after line.
use borrow.Author.Rules.{rules}
use Rattle.sheet.proofs.Joining.{none_joined, one_joined, all_joined}
use Rattle.sheet.proofs.Rows.{state_short}
use Rattle.sheet.specs.Sheet.{state_line}
use Rattle.sheet.proofs.put_states.Goals as goal

pub loop-k-init : goal.loop-k-init
loop-k-init c = none_joined _ _ _ _ _

pub loop-k-preserved : goal.loop-k-preserved
unfolding state_line
loop-k-preserved c =
    let line = c.put_three-end.ensures in
    one_joined c.loop-k.invariant (search rules) line (state_short _ _ _ (search rules) line)

pub returns : goal.returns
returns c = (all_joined c.loop-k.invariant (search rules)).0
