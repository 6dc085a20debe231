-- The next byte comes over another or after all others; none is taken away.
use Rattle.std.proofs.Common.{◌≤◌}
use Rattle.arrayvec.specs.ArrayVec.{array_vec_len}
use Rattle.spelling.proofs.put.Given as goal

abbrev pub invariant-loop-pair : goal.invariant-loop-pair
invariant-loop-pair l =
    (goal.iterator-loop-pair).can_next l.pair-iterator ×
    (goal.iterator-loop-pair).is_finite l.pair-iterator ×
    (array_vec_len l.initial.bytes ≤ array_vec_len l.bytes) ×
    (l.end ≤ array_vec_len l.bytes)
