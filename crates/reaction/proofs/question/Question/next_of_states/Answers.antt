-- The loop keeps `OverStates`; each way out is one of its laws.
use Prim.Native.Nat.{◌<◌}
use Rattle.sets.proofs.Walk.{taken_in}
use Rattle.table.specs.Check.{table_in}
use Rattle.reaction.proofs.NextStates.{all_states, leaves_from, one_state_more, no_more, some_leaves}
use Rattle.reaction.proofs.question.Question.next_of_states.Goals as goal
use Rattle.reaction.proofs.question.Question.next_of_states.Goals.{In-Some}

exists : (c : In-Some) → c.in-Some.state < (table_in c.args.self.now.held.table.bytes.now).states
exists c = c.args.self.now.states_known _ (taken_in c.loop-state.invariant.walk c.in-Some.ensures.steps)

pub leaving_input-input-requires : goal.leaving_input-input-requires
leaving_input-input-requires c =
    (exists (goal.at.leaving_input-input-requires c).In-Some, some_leaves c.image_of-image.ensures _ _ c.difference.ensures c.if-difference-ne0.true)

pub returns-then-difference-ne0 : goal.returns-then-difference-ne0
returns-then-difference-ne0 c =
    leaves_from c.loop-state.invariant c.in-Some.ensures.steps c.leaving_input-input.ensures

pub loop-state-preserved : goal.loop-state-preserved
loop-state-preserved c =
    let inside = no_more _ _ _ c.difference.ensures c.if-difference-ne0.false in
    one_state_more c.loop-state.invariant c.in-Some.ensures.steps c.image_of-image.ensures inside c.union-target.ensures

pub returns : goal.returns
returns c = all_states c.loop-state.invariant c.in-None.ensures.steps.0
