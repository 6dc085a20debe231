-- Each call is at a member, and what it gives is noted.
use Rattle.sets.proofs.Walk.{taken_in}
use Rattle.moves.proofs.Noting.{none_noted, one_noted, all_noted}
use borrow.Author.Rules.{rules}
use Rattle.moves.proofs.by_state.Goals as goal

pub loop-state-init : goal.loop-state-init
loop-state-init g c = none_noted (search rules)

pub of-requires : goal.of-requires
of-requires g c = c.requires _ (taken_in c.loop-state.invariant.walk c.in-Some.ensures.steps)

pub loop-state-preserved : goal.loop-state-preserved
loop-state-preserved g c = one_noted c.loop-state.invariant c.in-Some.ensures.steps _ c.of.ensures

pub returns : goal.returns
returns g c = all_noted c.loop-state.invariant c.in-None.ensures.steps.0
