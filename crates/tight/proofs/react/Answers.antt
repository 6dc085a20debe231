-- The calculator's refusal is passed on; its time tells the tight one.
use mathlib.Core.Path.{◌≡◌, sym, ap, ◌∙◌}
use Rattle.reaction.specs.Answer.{Reacts}
use Rattle.reaction.specs.Reaction.{react_of}
use Rattle.tight.specs.Below.{tightened}
use Rattle.tight.proofs.Entry.{passed_up, bound_stands, bound_fits, reacts}
use Rattle.tight.proofs.react.Goals as goal
use Rattle.tight.proofs.react.Goals.{In-Ok}

calculated : (c : In-Ok) →
    let args = c.args in
    react_of args.table.now args.states args.inputs ≡ Reacts c.in-Ok.found.time c.in-Ok.found.target
calculated c = sym c.react-reacted.ensures ∙ c.in-Ok.is

pub returns-in_default : goal.returns-in_default
returns-in_default c = passed_up _ _ _ c.react-reacted.ensures c.unwrap_err-refusal.ensures

pub number32-requires : goal.number32-requires
number32-requires c = bound_stands _ _ _ _ _ (calculated (goal.at.number32-requires c).In-Ok)

pub tighten-tight-requires : goal.tighten-tight-requires
tighten-tight-requires c = rw c.number32.ensures (bound_fits _ _ _ _ _ (calculated (goal.at.tighten-tight-requires c).In-Ok))

pub returns : goal.returns
returns c = reacts _ _ _ _ _ (calculated (goal.at.returns c).In-Ok) _ (c.tighten-tight.ensures ∙ ap (tightened _) c.number32.ensures)
