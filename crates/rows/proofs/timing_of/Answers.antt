-- Timers stand in field 07.
use mathlib.Core.Path.{◌∙◌}
use Prim.Native.Nat.{◌<◌}
use native.Mathlib.Omega.{arith}
use Rattle.rows.proofs.InPlace.{few_timers, timing_room, timing_at}
use Rattle.rows.proofs.timing_of.Goals as goal
use Rattle.rows.proofs.timing_of.Goals.{Start}

small : (c : Start) → c.args.k < 8
small c = omega (arith, c.requires.1, few_timers _ c.requires.0)

pub overflow_mul-k : goal.overflow_mul-k
overflow_mul-k c = omega (arith, small (goal.at.overflow_mul-k c).Start)

pub overflow_add-fifth_field-2 : goal.overflow_add-fifth_field-2
overflow_add-fifth_field-2 c = omega (arith, small (goal.at.overflow_add-fifth_field-2 c).Start, c.fifth_field.ensures.1)

pub number32-requires : goal.number32-requires
number32-requires c =
    let pre = c.requires in
    omega (arith, c.fifth_field.ensures.0, timing_room _ pre.0 _ pre.1)

pub returns : goal.returns
returns c =
    let pre = c.requires in
    c.number32.ensures ∙ timing_at _ pre.0 _ pre.1 _ (omega (arith, c.fifth_field.ensures.0))
