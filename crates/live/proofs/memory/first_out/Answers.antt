-- Before a run begins there is nothing to look for.
use mathlib.Core.Path.{refl, sym, ap, ◌∙◌}
use borrow.Author.Tests.{ne_eqb}
use Rattle.table.proofs.WellFormed.{well_formed}
use Rattle.live.specs.Memory.{stage_of, first_out}
use Rattle.live.proofs.WaysOut.{fresh_is}
use Rattle.live.proofs.memory.first_out.Goals as goal

pub returns-in-Fresh : goal.returns-in-Fresh
unfolding first_out
returns-in-Fresh c = rw (fresh_is _ (sym c.from.ensures ∙ c.in-Fresh.is)) refl

pub overflow_sub-input : goal.overflow_sub-input
overflow_sub-input c = rw c.inputs-input.ensures (well_formed _ c.args.table.now.passes).inputs.0

pub overflow_sub-state : goal.overflow_sub-state
overflow_sub-state c = rw c.states_of-state.ensures (well_formed _ c.args.table.now.passes).states.0

pub returns : goal.returns
unfolding first_out
returns c =
    rw (ne_eqb _ 0 (λ e. c.in_default.not-Fresh (c.from.ensures ∙ ap stage_of e)), ← c.inputs-input.ensures, ← c.states_of-state.ensures, ← c.bound.ensures) c.first_above.ensures
