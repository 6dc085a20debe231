-- Each way out says what the definition says there.
use mathlib.Core.Bool.{true, false}
use mathlib.Core.Path.{◌≡◌, sym, ◌∙◌}
use native.Mathlib.Omega.{arith}
use Rattle.std.specs.Prelude.{Ok}
use Rattle.table.specs.Check.{table_in}
use Rattle.table.proofs.WellFormed.{well_formed}
use Rattle.reaction.specs.Reaction.{asked_of}
use Rattle.reaction.proofs.Asking.{told}
use Rattle.moves.proofs.InOrder.{turned_down, too_many, states_left, room_decides}
use Rattle.moves.proofs.judging.judge_checked.Goals as goal
use Rattle.moves.proofs.judging.judge_checked.Goals.{In_ok-ask}

passes : (c : In_ok-ask) → asked_of (table_in c.args.table.bytes.now) c.args.states c.args.inputs ≡ Ok tt
passes c = sym c.ask.ensures ∙ c.in_ok-ask.was

pub returns-in_err-ask : goal.returns-in_err-ask
returns-in_err-ask c = turned_down _ _ _ _ _ _ (sym c.ask.ensures ∙ c.in_err-ask.was) _ c.from_residual.ensures.1

pub returns-then-moves-gt-MOST_MOVES : goal.returns-then-moves-gt-MOST_MOVES
returns-then-moves-gt-MOST_MOVES c =
    too_many _ _ _ _ _ _ (passes (goal.at.returns-then-moves-gt-MOST_MOVES c).In_ok-ask) c.if-moves-gt-MOST_MOVES.true

pub invariant_of-question : goal.invariant_of-question
invariant_of-question c =
    let all = (told _ _ _ (well_formed _ c.args.table.passes) (passes (goal.at.invariant_of-question c).In_ok-ask)).all in
    record { states_known = all.states; inputs_known = all.inputs }

pub returns-in_err-target_set : goal.returns-in_err-target_set
returns-in_err-target_set c =
    states_left _ _ _ _ _ _ (passes (goal.at.returns-in_err-target_set c).In_ok-ask) c.if-moves-gt-MOST_MOVES.false
    (rw c.target_set.ensures at c.in_err-target_set.was) _ c.from_residual-in_err-target_set.ensures.1

pub lacks_room-requires : goal.lacks_room-requires
lacks_room-requires c =
    let good = well_formed _ c.args.table.passes in
    (c.if-moves-gt-MOST_MOVES.false, omega (arith, c.layout_of-layout.ensures.states, good.states))

pub returns-then-lacks_room : goal.returns-then-lacks_room
returns-then-lacks_room c =
    room_decides _ _ _ _ _ _ (passes (goal.at.returns-then-lacks_room c).In_ok-ask) c.if-moves-gt-MOST_MOVES.false
    (rw c.target_set.ensures at c.in_ok-target_set.was) true
    (rw c.layout_of-layout.ensures.states at (sym c.lacks_room.ensures ∙ c.if-lacks_room.true))

pub returns : goal.returns
returns c =
    room_decides _ _ _ _ _ _ (passes (goal.at.returns c).In_ok-ask) c.if-moves-gt-MOST_MOVES.false (rw c.target_set.ensures at c.in_ok-target_set.was) false
    (rw c.layout_of-layout.ensures.states at (sym c.lacks_room.ensures ∙ c.if-lacks_room.false))
