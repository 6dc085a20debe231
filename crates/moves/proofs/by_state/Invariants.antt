-- The loop keeps `Noting`, of what the calls give.
use Rattle.moves.proofs.Noting.{Noting}
use Rattle.moves.proofs.by_state.Given as goal

abbrev pub invariant-loop-state : goal.invariant-loop-state
invariant-loop-state g l = Noting l.states (goal.F-post g l.of) l.state-iterator.rest l.row
