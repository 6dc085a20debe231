-- The loop keeps `Row`.
use Rattle.tight.proofs.Along.{Row}
use Rattle.tight.proofs.over_moves.largest_sum.Given as goal

abbrev pub invariant-loop : goal.invariant-loop
invariant-loop l = Row l.images l.weights l.target l.outside l.counter l.moves l.row
