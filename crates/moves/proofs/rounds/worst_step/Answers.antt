-- A call gives the number ahead.
use borrow.Author.Rules.{rules}
use Rattle.moves.proofs.rounds.worst_step.Goals as goal

pub returns : goal.returns
returns c = c.worst.ensures _ (λ i sum in_set post. search rules)
