-- The loop keeps `Filling`.
use mathlib.Core.Path.{refl}
use Rattle.table.proofs.Values.{none_filled, one_filled}
use borrow.Author.Rules.{rules}
use Rattle.live.proofs.memory.put.Goals as goal

pub loop-k-init : goal.loop-k-init
loop-k-init c = none_filled _ _ _

pub loop-k-preserved : goal.loop-k-preserved
loop-k-preserved c = one_filled c.loop-k.invariant (search rules) (search rules) _ refl
