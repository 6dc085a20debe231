-- Delayed sets stand in field 06.
use mathlib.Core.Path.{◌∙◌}
use native.Mathlib.Omega.{arith}
use Prim.Native.Nat.{◌+◌, ◌*◌, ◌≤◌}
use lib.ListN.{length}
use Rattle.rows.proofs.InPlace.{states_are, delayed_room, delayed_at}
use Rattle.rows.proofs.delayed_in.Goals as goal
use Rattle.rows.proofs.delayed_in.Goals.{Start}

inside : (c : Start) → c.args.from + 4 * c.args.state + 4 ≤ length c.args.s.now
inside c =
    let pre = c.requires in
    let q = rw (states_are _ pre.0) at pre.1 in
    omega (arith, q, pre.3, delayed_room _ pre.0 pre.2 _ q)

pub number32-requires : goal.number32-requires
number32-requires c = inside (goal.at.number32-requires c).Start

pub returns : goal.returns
returns c =
    let pre = c.requires in
    c.number32.ensures ∙ delayed_at _ pre.0 pre.2 _ (rw (states_are _ pre.0) at pre.1) _ (omega (arith, pre.3))
