-- Each way out is one outcome of `field_answer`.
use mathlib.Core.Path.{sym, ◌∙◌}
use Rattle.table.proofs.Rows.{runs_out, another_field, stands_as_expected}
use Rattle.table.proofs.fields.expect_field.Goals as goal

pub returns-then-stands : goal.returns-then-stands
returns-then-stands c = stands_as_expected _ _ _ _ (sym c.stands.ensures ∙ c.if-stands.true)

pub returns-in_default : goal.returns-in_default
returns-in_default c = runs_out _ _ _ _ _ c.read_field-field.ensures c.in_default.is

pub returns : goal.returns
returns c =
    another_field _ _ _ _ _ c.read_field-field.ensures (sym c.stands.ensures ∙ c.if-stands.false) c.in-Some.is
