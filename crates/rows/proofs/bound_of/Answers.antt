-- What passed has the field of the bound.
use mathlib.Core.Path.{sym, ◌∙◌}
use native.Mathlib.Omega.{arith}
use Rattle.rows.proofs.InPlace.{stands, bound_is}
use Rattle.rows.proofs.bound_of.Goals as goal

pub number32-requires : goal.number32-requires
number32-requires c = omega (arith, (stands _ c.requires).bound_field.fits)

pub returns : goal.returns
returns c = c.number32.ensures ∙ sym (bound_is _ c.requires)
