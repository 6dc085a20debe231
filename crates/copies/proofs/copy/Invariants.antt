-- The first bytes are those of the one slice, and the rest those of the other as it was.
use Rattle.std.proofs.Common.{◌≡◌, ◌++◌, ◌≤◌, length, take, drop}
use Rattle.copies.proofs.copy.Given as goal

abbrev pub invariant-loop-k : goal.invariant-loop-k
invariant-loop-k l = (l.out ≡ take l.k l.from ++ drop l.k l.initial.out) × (l.k ≤ length l.from)
