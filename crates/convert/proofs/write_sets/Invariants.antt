-- The loop keeps `Writing`.
use Prim.Native.Nat.{◌+◌}
use Rattle.convert.specs.Convert.{new_set, change, by_state}
use Rattle.convert.proofs.Writing.{Writing}
use Rattle.convert.proofs.write_sets.Given as goal

abbrev pub invariant-loop-k : goal.invariant-loop-k
invariant-loop-k l = Writing l.initial.out (l.sets + 3) l.n (by_state new_set l.old l.holds l.sets) (by_state change l.old l.holds l.sets) l.out l.changed l.k
