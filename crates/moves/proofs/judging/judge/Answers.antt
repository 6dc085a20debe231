-- The table's refusal is passed up.
use mathlib.Core.Path.{sym, ◌∙◌}
use Rattle.reaction.proofs.Entry.{table_refused, table_passed}
use Rattle.moves.proofs.Judges.{judges_on}
use Rattle.moves.proofs.judging.judge.Goals as goal

pub returns-in_default : goal.returns-in_default
returns-in_default c = table_refused _ _ _ _ (judges_on _ _ _ _ _ _) c.check-passed.ensures c.unwrap_err.ensures

pub returns : goal.returns
returns c = table_passed _ _ _ _ (judges_on _ _ _ _ _ _) c.check-passed.ensures c.in-Ok.is c.judge_checked.ensures

pub invariant_of-table : goal.invariant_of-table
invariant_of-table c = record { passes = sym c.check-passed.ensures ∙ c.in-Ok.is }
