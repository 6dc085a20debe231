-- Hold and bound are those of a table that passed.
use native.Mathlib.Omega.{arith}
use Rattle.table.proofs.WellFormed.{well_formed}
use Rattle.reaction.proofs.held.Held.state_weight.Goals as goal

pub weight-requires : goal.weight-requires
weight-requires c =
    let h = c.args.self.now in
    let good = well_formed _ h.table.passes in
    (rw c.hold_in-hold.ensures (good.hold _ c.requires.0), omega (arith, h.laid.bound, good.bound))
