-- The loop keeps `Seen`.
use borrow.Author.Rules.{rules}
use Rattle.tight.proofs.Largest.{one_seen, all_seen}
use Rattle.tight.proofs.over_moves.largest_of.Goals as goal

pub loop-member-preserved : goal.loop-member-preserved
loop-member-preserved c =
    one_seen c.loop-member.invariant c.in-Some.ensures.steps (search rules)

pub returns : goal.returns
returns c = all_seen c.loop-member.invariant c.in-None.ensures.steps.0
