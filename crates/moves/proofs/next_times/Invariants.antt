-- The loop keeps `Moved`.
use Rattle.moves.proofs.Targets.{Moved}
use Rattle.moves.proofs.next_times.Given as goal

abbrev pub invariant-loop : goal.invariant-loop
invariant-loop l = Moved l.images l.states l.moves l.counter l.set
