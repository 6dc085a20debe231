-- The kind decides.
use mathlib.Core.Path.{◌≡◌, sym, ap, ◌∙◌}
use Prim.Native.Nat.{◌/◌}
use Rattle.wire.proofs.Choice.{both}
use mathlib.Core.Bool.{true, not}
use Rattle.wire.specs.Field.{field_at}
use native.Mathlib.Omega.{arith}
use Rattle.table.specs.Check.{tagged}
use Rattle.table.proofs.Rows.{tagged_there, as_timers, as_holds}
use Rattle.table.proofs.check_timing.Goals as goal
use Rattle.table.proofs.check_timing.Goals.{Then-old-timed}

kind : (c : Then-old-timed) → tagged (field_at c.args.s.now c.args.p.hold) ≡ true
kind c = sym c.timed.ensures ∙ (both (not c.args.old) c.timed.result c.if-old-timed.true).1

pub number16-claimed-requires : goal.number16-claimed-requires
number16-claimed-requires c = let there = tagged_there _ _ (kind (goal.at.number16-claimed-requires c).Then-old-timed) in omega arith

pub returns-then-old-timed : goal.returns-then-old-timed
returns-then-old-timed c =
    as_timers _ _ _ _ c.requires.0.hold _ c.timed.ensures c.if-old-timed.true _
    (ap (λ size. size / 8) c.number16-claimed.ensures.0) _ c.check_timed.ensures

pub returns : goal.returns
returns c =
    as_holds _ _ _ _ c.requires.0.hold _ c.timed.ensures c.if-old-timed.false _ c.check_holds.ensures
