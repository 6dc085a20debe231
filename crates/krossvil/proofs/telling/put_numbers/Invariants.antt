-- The loop keeps `Put`.
use Rattle.krossvil.proofs.Outcomes.{Put}
use Rattle.krossvil.proofs.telling.put_numbers.Given as goal

abbrev pub invariant-loop-k : goal.invariant-loop-k
invariant-loop-k g l = Put l.numbers l.initial.out l.out l.k
