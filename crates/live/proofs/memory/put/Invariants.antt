-- The loop keeps `Filling`.
use lib.ListN.{get_or}
use Rattle.table.proofs.Values.{Filling}
use Rattle.live.proofs.memory.put.Given as goal

abbrev pub invariant-loop-k : goal.invariant-loop-k
invariant-loop-k l = Filling (λ j. get_or l.numbers j 0) 17 l.initial.memory l.memory l.k
