-- What passed has the field of counts.
use mathlib.Core.Path.{ap, ◌∙◌}
use mathlib.Core.Bool.{false}
use native.Mathlib.Omega.{arith}
use Rattle.table.specs.Check.{table_with}
use Rattle.table.proofs.Stands.{table_stands}
use Rattle.table.specs.declared.Counts.{Counts}
use Rattle.table.proofs.inputs_in.Goals as goal

pub counts_in-requires : goal.counts_in-requires
counts_in-requires c = omega (arith, (table_stands false _ c.requires).0.counts_field.fits)

pub returns : goal.returns
unfolding table_with
returns c = c.wide.ensures.0 ∙ ap (λ (counts : Counts). counts.inputs) c.counts_in.ensures
