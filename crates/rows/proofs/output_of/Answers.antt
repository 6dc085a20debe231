-- The outputs stand in field 03.
use mathlib.Core.Path.{◌∙◌}
use native.Mathlib.Omega.{arith}
use Rattle.rows.proofs.InPlace.{states_are, fifth, output_at}
use Rattle.rows.proofs.output_of.Goals as goal

pub bounds-s-at : goal.bounds-s-at
bounds-s-at c =
    let pre = c.requires in
    let q = rw (states_are _ pre.0) at pre.1 in
    omega (arith, q, fifth _ pre.0)

pub returns : goal.returns
returns c =
    let pre = c.requires in
    c.wide.ensures.0 ∙ output_at _ pre.0 _ (rw (states_are _ pre.0) at pre.1)
