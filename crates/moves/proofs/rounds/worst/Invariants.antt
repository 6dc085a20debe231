-- The loop keeps `OverMembers`, of whatever numbers the calls can give.
use mathlib.Core.Path.{◌≡◌}
use mathlib.Core.Bool.{true}
use Prim.Native.Nat.{ℕ}
use Rattle.sets.specs.Sets.{member}
use Rattle.sets.proofs.Walk.{Walk}
use Rattle.moves.proofs.Worsts.{OverMembers}
use Rattle.moves.proofs.rounds.worst.Given as goal

abbrev pub invariant-loop-member : goal.invariant-loop-member
invariant-loop-member g l =
    Walk l.set l.member-iterator.rest
    × ((f : ℕ → ℕ) → ((i sum : ℕ) → member l.set i ≡ true → goal.F-post g l.sum_of i sum → sum ≡ f i) →
    OverMembers l.set f l.member-iterator.rest l.most.sum l.most.member)
