-- What the field claims, or 0.
use mathlib.Core.Path.{◌≡◌, refl, sym, ap, ◌∙◌}
use Prim.Native.Nat.{◌/◌}
use mathlib.Core.Bool.{true}
use Rattle.wire.specs.Field.{field_at}
use native.Mathlib.Omega.{arith}
use Rattle.table.specs.Check.{tagged, timers_in}
use Rattle.table.proofs.Rows.{tagged_there}
use Rattle.table.proofs.timers_in.Goals as goal
use Rattle.table.proofs.timers_in.Goals.{Then-timed}

kind : (c : Then-timed) → tagged (field_at c.args.s.now c.args.at) ≡ true
kind c = sym c.timed.ensures ∙ c.if-timed.true

pub number16-requires : goal.number16-requires
number16-requires c = let there = tagged_there _ _ (kind (goal.at.number16-requires c).Then-timed) in omega arith

pub returns-then-timed : goal.returns-then-timed
unfolding timers_in
returns-then-timed c = λ counts e. rw (← e, kind (goal.at.returns-then-timed c).Then-timed) (ap (λ size. size / 8) c.number16.ensures.0)

pub returns : goal.returns
unfolding timers_in
returns c = λ counts e. rw (← e, sym c.timed.ensures ∙ c.if-timed.false) refl
