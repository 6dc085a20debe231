-- Where the delayed sets start.
use native.Mathlib.Omega.{arith}
use Rattle.rows.proofs.InPlace.{stands}
use Rattle.rows.proofs.delayed_of.Goals as goal

pub counts_in-requires : goal.counts_in-requires
counts_in-requires c = omega (arith, (stands _ c.requires.0).counts_field.fits)
