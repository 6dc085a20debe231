-- The digits so far are at most nine.
use Rattle.std.proofs.Common.{◌<◌}
use Rattle.spelling.proofs.words.number.Given as goal

abbrev pub invariant-loop-byte : goal.invariant-loop-byte
invariant-loop-byte l = l.value < 1000000000
