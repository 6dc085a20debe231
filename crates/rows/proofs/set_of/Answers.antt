-- The sets of timers stand in field 08, rows by state.
use mathlib.Core.Path.{◌≡◌, ap, ◌∙◌}
use Prim.Native.Nat.{ℕ, ◌*◌, ◌<◌, ◌≤◌}
use Rattle.table.specs.Check.{counts_in, timers_in}
use native.Mathlib.Nat.{mul-le-mul}
use native.Mathlib.Omega.{arith}
use Rattle.rows.proofs.InPlace.{states_are, timers_are, few_timers, fit, sets_room, set_at}
use Rattle.rows.proofs.set_of.Goals as goal
use Rattle.rows.proofs.set_of.Goals.{Start}

-- The row is among 128.
small : (c : Start) → (c.args.state * c.args.timers ≤ 128) × (c.args.timer < 4) × (c.args.timers ≤ 4)
small c =
    let pre = c.requires in
    let q = rw (states_are _ pre.0) at pre.3 in
    let few = rw (← pre.1) at (few_timers _ pre.0) in
    let states = (fit _ pre.0).states.1 in
    let one : c.args.state ≤ 32 = omega (arith, q, states) in
    (mul-le-mul one few, omega (arith, few, pre.2), few)

-- The timers that are handed in are those of the bytes, and so is the row.
as_read : (c : Start) →
    let n = timers_in (counts_in c.args.s.now) c.args.s.now in
    (c.args.timers ≡ n) × (c.args.state * c.args.timers ≡ c.args.state * n)
as_read c =
    let is = c.requires.1 ∙ timers_are _ c.requires.0 in
    (is, ap (λ (n : ℕ). c.args.state * n) is)

pub overflow_mul-row : goal.overflow_mul-row
overflow_mul-row c = omega (arith, small (goal.at.overflow_mul-row c).Start)

pub overflow_add-row : goal.overflow_add-row
overflow_add-row c = omega (arith, small (goal.at.overflow_add-row c).Start)

pub overflow_mul-row-2 : goal.overflow_mul-row-2
overflow_mul-row-2 c = omega (arith, small (goal.at.overflow_mul-row-2 c).Start)

pub overflow_add-fifth_field-3 : goal.overflow_add-fifth_field-3
overflow_add-fifth_field-3 c = omega (arith, small (goal.at.overflow_add-fifth_field-3 c).Start, c.fifth_field.ensures)

pub number32-requires : goal.number32-requires
number32-requires c =
    let pre = c.requires in
    let q = rw (states_are _ pre.0) at pre.3 in
    let is = as_read (goal.at.number32-requires c).Start in
    omega (arith, is, c.fifth_field.ensures.0, sets_room _ pre.0 _ (rw pre.1 at pre.2) _ q)

pub returns : goal.returns
returns c =
    let pre = c.requires in
    let q = rw (states_are _ pre.0) at pre.3 in
    let is = as_read (goal.at.returns c).Start in
    c.number32.ensures ∙ set_at _ pre.0 _ (rw pre.1 at pre.2) _ q _ (omega (arith, is, c.fifth_field.ensures.0))
