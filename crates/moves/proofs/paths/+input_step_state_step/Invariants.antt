use Prim.Native.Nat.{◌+◌}
use Rattle.moves.proofs.paths.+input_step_state_step.Given as goal

abbrev pub decreases-input_step : goal.decreases-input_step
decreases-input_step l = l.left + l.left

abbrev pub decreases-state_step : goal.decreases-state_step
decreases-state_step l = l.left + l.left + 1
