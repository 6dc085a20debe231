-- The loop keeps `Uniting`.
use Rattle.moves.proofs.Targets.{Uniting}
use Rattle.moves.proofs.united.Given as goal

abbrev pub invariant-loop-state : goal.invariant-loop-state
invariant-loop-state l = Uniting l.sets l.states l.state-iterator.rest l.all
