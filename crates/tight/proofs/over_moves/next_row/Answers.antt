-- A call gives what the row has for the state.
use Rattle.sets.proofs.Members.{member_below}
use Rattle.moves.proofs.Noting.{follows}
use borrow.Author.Rules.{rules}
use Rattle.tight.proofs.over_moves.next_row.Goals as goal

pub by_state-requires : goal.by_state-requires
by_state-requires c i in_set = (member_below c.args.outside 32 i c.ranges.outside.fits in_set, c.requires.0, c.requires.1)

pub returns : goal.returns
returns c = follows c.by_state.ensures (λ i n in_set post. search rules)
