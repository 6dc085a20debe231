-- The loop keeps `OverMembers`.
use borrow.Author.Rules.{rules}
use Rattle.reaction.proofs.Weights.{one_more}
use Rattle.reaction.proofs.question.Question.largest_weight.Goals as goal

pub loop-state-preserved : goal.loop-state-preserved
loop-state-preserved c = one_more c.loop-state.invariant c.in-Some.ensures.steps (search rules)
