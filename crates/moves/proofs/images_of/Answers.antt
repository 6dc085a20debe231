-- A call gives what the row has for the state.
use Rattle.moves.proofs.Noting.{follows}
use borrow.Author.Rules.{rules}
use Rattle.moves.proofs.images_of.Goals as goal

pub returns : goal.returns
returns c = follows c.by_state.ensures (λ i n in_set post. search rules)
