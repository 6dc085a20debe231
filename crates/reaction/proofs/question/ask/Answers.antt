-- Each test says whether what is asked is turned down.
use mathlib.Core.Path.{◌≡◌, sym, ◌∙◌}
use mathlib.Core.Bool.{true}
use native.Mathlib.Omega.{arith}
use Prim.Native.Nat.{◌^◌}
use Rattle.wire.specs.Choice.{◌<?◌}
use Rattle.table.specs.Check.{table_in}
use Rattle.table.proofs.WellFormed.{well_formed}
use Rattle.reaction.proofs.Entry.{limit}
use Rattle.reaction.proofs.Asking.{timers_refused, states_refused, inputs_refused, none_refused}
use Rattle.reaction.proofs.question.ask.Goals as goal
use Rattle.reaction.proofs.question.ask.Goals.{Else-layout-ne0, Else-not-within, Else-not-within-2}

no_timers : (c : Else-layout-ne0) → (table_in c.args.held.now.table.bytes.now).timers ≡ 0
no_timers c = sym c.args.held.now.laid.timers ∙ c.if-layout-ne0.false

states_in : (c : Else-not-within) → (c.args.states <? 2 ^ (table_in c.args.held.now.table.bytes.now).states) ≡ true
states_in c = limit _ _ _ c.args.held.now.laid.states c.within.ensures ∙ c.if-not-within.false

inputs_in : (c : Else-not-within-2) → (c.args.inputs <? 2 ^ (table_in c.args.held.now.table.bytes.now).inputs) ≡ true
inputs_in c = limit _ _ _ c.args.held.now.laid.inputs c.within-2.ensures ∙ c.if-not-within-2.false

pub returns-then-layout-ne0 : goal.returns-then-layout-ne0
returns-then-layout-ne0 c = sym (timers_refused _ _ _ (λ none. c.if-layout-ne0.true (c.args.held.now.laid.timers ∙ none)))

pub within-requires : goal.within-requires
within-requires c = let good = well_formed _ c.args.held.now.table.passes in omega (arith, c.args.held.now.laid.states, good.states)

pub returns-then-not-within : goal.returns-then-not-within
returns-then-not-within c =
    sym
    (states_refused _ _ _ (no_timers (goal.at.returns-then-not-within c).Else-layout-ne0) (limit _ _ _ c.args.held.now.laid.states c.within.ensures ∙ c.if-not-within.true))

pub within-requires-2 : goal.within-requires-2
within-requires-2 c = let good = well_formed _ c.args.held.now.table.passes in omega (arith, c.args.held.now.laid.inputs, good.inputs)

pub returns-then-not-within-2 : goal.returns-then-not-within-2
returns-then-not-within-2 c =
    let at = goal.at.returns-then-not-within-2 c in
    sym
    (inputs_refused _ _ _ (no_timers at.Else-layout-ne0) (states_in at.Else-not-within) (limit _ _ _ c.args.held.now.laid.inputs c.within-2.ensures ∙ c.if-not-within-2.true))

pub returns : goal.returns
returns c =
    let at = goal.at.returns c in
    sym (none_refused _ _ _ (no_timers at.Else-layout-ne0) (states_in at.Else-not-within) (inputs_in at.Else-not-within-2))
