-- The byte to repeat stands `count` places before the next place.
use Rattle.std.proofs.Common.{◌≤◌}
use Rattle.arrayvec.specs.ArrayVec.{array_vec_len}
use Rattle.spelling.proofs.repeat.Given as goal

abbrev pub invariant-loop : goal.invariant-loop
invariant-loop l = (l.to ≤ l.at) × (l.at ≤ array_vec_len l.bytes)
