-- The loop keeps `Filling`.
use Prim.Native.Nat.{◌*◌}
use lib.ListN.{get_or}
use Rattle.table.proofs.Values.{Filling}
use Rattle.moves.specs.Walks.{sum_stored}
use Rattle.moves.proofs.rounds.fill_sums.Given as goal

abbrev pub invariant-loop-k : goal.invariant-loop-k
invariant-loop-k l = Filling (sum_stored l.images l.states (λ q. get_or l.weights q 0)) (l.moves * l.states) l.initial.sums l.sums l.k
