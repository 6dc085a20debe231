-- The loop keeps `Looking`.
use Rattle.live.proofs.Numbers.{Looking}
use Rattle.live.proofs.memory.first_above.Given as goal

abbrev pub invariant-loop-at : goal.invariant-loop-at
invariant-loop-at l = Looking l.most l.memory l.at
