-- The next states stand in field 04.
use mathlib.Core.Path.{◌∙◌}
use native.Mathlib.Omega.{arith}
use Prim.Native.Nat.{◌+◌, ◌<◌}
use lib.ListN.{length}
use Rattle.rows.proofs.InPlace.{states_are, inputs_are, fit, fifth, next_at, row_before}
use Rattle.rows.proofs.next_in.Goals as goal
use Rattle.rows.proofs.next_in.Goals.{After-place_in_rows}

inside : (c : After-place_in_rows) → let a = c.args in a.from + c.place_in_rows.result < length a.s.now
inside c =
    let pre = c.requires in
    let q = rw (states_are _ pre.0.passes) at pre.1 in
    let w = rw (inputs_are _ pre.0.passes) at pre.0.wide in
    let place = rw w at c.place_in_rows.ensures.0 in
    let row = row_before _ _ _ _ q (rw w at pre.2) in
    omega (arith, place, row, pre.0.starts, fifth _ pre.0.passes)

pub place_in_rows-requires : goal.place_in_rows-requires
place_in_rows-requires c =
    let pre = c.requires in
    let f = fit _ pre.0.passes in
    let q = rw (states_are _ pre.0.passes) at pre.1 in
    let w = rw (inputs_are _ pre.0.passes) at pre.0.wide in
    (omega (arith, w, f.inputs.1), omega (arith, q, f.states.1), omega (arith, w, pre.2, f.inputs.1))

pub bounds-s-at : goal.bounds-s-at
bounds-s-at c = inside (goal.at.bounds-s-at c).After-place_in_rows

pub returns : goal.returns
returns c =
    let pre = c.requires in
    let q = rw (states_are _ pre.0.passes) at pre.1 in
    let w = rw (inputs_are _ pre.0.passes) at pre.0.wide in
    let place = rw w at c.place_in_rows.ensures.0 in
    c.wide.ensures.0 ∙ next_at _ pre.0.passes _ _ _ q (rw w at pre.2) (omega (arith, place, pre.0.starts))
