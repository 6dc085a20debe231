-- Each call is at a member, and what it gives is that member's number.
use Rattle.sets.proofs.Walk.{goes_on, taken_in}
use Rattle.moves.proofs.Worsts.{one_more, all_seen}
use Rattle.moves.proofs.rounds.worst.Goals as goal

pub sum_of-requires : goal.sum_of-requires
sum_of-requires g c = c.requires _ (taken_in c.loop-member.invariant.0 c.in-Some.ensures.steps)

pub loop-member-preserved : goal.loop-member-preserved
loop-member-preserved g c =
    let inv = c.loop-member.invariant in
    let steps = c.in-Some.ensures.steps in
    (goes_on inv.0 steps, λ f each. one_more (inv.1 f each) steps _ (each _ _ (taken_in inv.0 steps) c.sum_of.ensures) _ c.larger-most.ensures)

pub returns : goal.returns
returns g c f each = all_seen (c.loop-member.invariant.1 f each) c.in-None.ensures.steps.0
