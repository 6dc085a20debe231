-- What is asked and its target may be turned down, which is passed up; else the time and the target are the answer.
use mathlib.Core.Path.{◌≡◌, sym, ap, ◌∙◌}
use native.Mathlib.Omega.{arith}
use Prim.Native.Nat.{◌+◌}
use Rattle.std.specs.Prelude.{Ok}
use Rattle.table.specs.Check.{table_in}
use Rattle.table.proofs.WellFormed.{well_formed}
use Rattle.reaction.specs.Answer.{Reacts}
use Rattle.reaction.specs.Reaction.{asked_of}
use Rattle.reaction.proofs.Findings.{outside_known, time_fits, reacts_is}
use Rattle.reaction.proofs.Asking.{Asked, told, next_states, turned_down, states_left, answers}
use Rattle.reaction.proofs.react_checked.Goals as goal
use Rattle.reaction.proofs.react_checked.Goals.{In_ok-ask}

passes : (c : In_ok-ask) → asked_of (table_in c.args.table.bytes.now) c.args.states c.args.inputs ≡ Ok tt
passes c = sym c.ask.ensures ∙ c.in_ok-ask.was

knows : (c : In_ok-ask) → Asked (table_in c.args.table.bytes.now) c.args.states c.args.inputs
knows c = told _ _ _ (well_formed _ c.args.table.passes) (passes c)

pub returns-in_err-ask : goal.returns-in_err-ask
returns-in_err-ask c = turned_down _ _ _ (sym c.ask.ensures ∙ c.in_err-ask.was) _ c.from_residual.ensures.1

pub invariant_of-question : goal.invariant_of-question
invariant_of-question c = let all = (knows (goal.at.invariant_of-question c).In_ok-ask).all in record { states_known = all.states; inputs_known = all.inputs }

pub returns-in_err-target : goal.returns-in_err-target
returns-in_err-target c =
    states_left _ _ _ (passes (goal.at.returns-in_err-target c).In_ok-ask) (rw c.target_set.ensures at c.in_err-target.was) _ c.from_residual-in_err-target.ensures.1

pub largest_weight-slowest-requires : goal.largest_weight-slowest-requires
largest_weight-slowest-requires c =
    let asked = knows (goal.at.largest_weight-slowest-requires c).In_ok-ask in
    (outside_known asked.all c.in_ok-target.target _ c.difference.ensures, asked.no_timers)

pub overflow_add-time : goal.overflow_add-time
overflow_add-time c =
    let all = (knows (goal.at.overflow_add-time c).In_ok-ask).all in
    let fits = time_fits all c.in_ok-target.target _ c.difference.ensures c.largest_weight-slowest.ensures in
    omega (arith, c.layout_of-layout.ensures.bound, fits)

pub returns : goal.returns
returns c =
    let at = (goal.at.returns c).In_ok-ask in
    let all = (knows at).all in
    let next = next_states all (rw c.target_set.ensures at c.in_ok-target.was) in
    let is = reacts_is all c.in_ok-target.target _ c.difference.ensures c.largest_weight-slowest.ensures next in
    answers _ _ _ (passes at) (ap (λ E. Reacts (E + c.largest_weight-slowest.result) c.in_ok-target.target) c.layout_of-layout.ensures.bound ∙ is)
