-- Another tag is not 07, and a field that has run out has none.
use mathlib.Core.Path.{sym, ap, ◌∙◌}
use mathlib.Core.Logic.{inl, inr}
use Rattle.table.specs.Check.{tagged}
use Rattle.table.proofs.Rows.{no_tag, untagged}
use Rattle.table.proofs.timed.Goals as goal

pub returns-then-s-at : goal.returns-then-s-at
returns-then-s-at c = no_tag _ _ (inl c.if-s-at.true)

pub returns-then-s-at-ne7 : goal.returns-then-s-at-ne7
returns-then-s-at-ne7 c = no_tag _ _ (inr c.if-s-at-ne7.true)

pub returns-in_default : goal.returns-in_default
returns-in_default c = untagged _ _ _ c.read_field.ensures c.in_default.is

pub returns : goal.returns
unfolding tagged
returns c = sym (ap tagged (sym c.read_field.ensures ∙ c.in-Some.is))
