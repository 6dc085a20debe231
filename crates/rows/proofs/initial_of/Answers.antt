-- What passed has the field of counts.
use mathlib.Core.Path.{sym, ap, ◌∙◌}
use native.Mathlib.Omega.{arith}
use Rattle.table.specs.declared.Counts.{Counts}
use Rattle.rows.proofs.InPlace.{stands, initial_is}
use Rattle.rows.proofs.initial_of.Goals as goal

pub counts_in-requires : goal.counts_in-requires
counts_in-requires c = omega (arith, (stands _ c.requires).counts_field.fits)

pub returns : goal.returns
returns c = c.wide.ensures.0 ∙ ap (λ (counts : Counts). counts.initial) c.counts_in.ensures ∙ sym (initial_is _ c.requires)
