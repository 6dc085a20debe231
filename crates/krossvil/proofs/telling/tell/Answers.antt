-- 30, or the numbers.
use mathlib.Core.Path.{refl}
use Rattle.krossvil.proofs.Outcomes.{too_short, long_enough}
use Rattle.krossvil.proofs.telling.tell.Goals as goal

pub returns-then-answer-numbers : goal.returns-then-answer-numbers
returns-then-answer-numbers g c = let all_of = too_short _ _ _ c.if-answer-numbers.true c.code.ensures in record { code = all_of.0; bytes = all_of.1 }

pub returns : goal.returns
returns g c = let all_of = long_enough _ _ _ c.if-answer-numbers.false refl _ c.put_numbers.ensures in record { code = all_of.0; bytes = all_of.1 }
