-- What passed has the heads of five fields.
use native.Mathlib.Omega.{arith}
use Rattle.rows.proofs.InPlace.{stands, fit, fifth}
use Rattle.rows.proofs.fifth_field.Goals as goal

pub counts_in-requires : goal.counts_in-requires
counts_in-requires c = omega (arith, (stands _ c.requires).counts_field.fits)

pub places_of-p-requires : goal.places_of-p-requires
places_of-p-requires c = rw c.counts_in.ensures (let f = fit _ c.requires in (f.states.1, f.inputs.1))

pub returns : goal.returns
returns c =
    let is = rw c.counts_in.ensures at c.places_of-p.ensures.hold in
    (is, omega (arith, is, fifth _ c.requires))
