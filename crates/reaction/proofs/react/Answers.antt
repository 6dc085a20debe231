-- The table's refusal is passed up.
use mathlib.Core.Path.{sym, ◌∙◌}
use Rattle.reaction.proofs.Entry.{table_refused, table_passed, reacts_on}
use Rattle.reaction.proofs.react.Goals as goal

pub returns-in_default : goal.returns-in_default
returns-in_default c = table_refused _ _ _ _ (reacts_on _ _ _) c.check-passed.ensures c.unwrap_err.ensures

pub returns : goal.returns
returns c = table_passed _ _ _ _ (reacts_on _ _ _) c.check-passed.ensures c.in-Ok.is c.react_checked.ensures

pub invariant_of-react_checked : goal.invariant_of-react_checked
invariant_of-react_checked c = record { passes = sym c.check-passed.ensures ∙ c.in-Ok.is }
