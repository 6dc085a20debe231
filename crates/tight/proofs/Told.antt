-- The three numbers of an answer.
use Prim.Native.Nat.{ℕ}
use Rattle.std.specs.Prelude.{Result, Ok, Err}
use Rattle.tight.specs.declared.Tight.{Tight}

module _ {E : Type 0} where
  abbrev pub time_in : Result Tight E → ℕ
  time_in (Ok r) = r.time
  time_in (Err refusal) = 0

  abbrev pub target_in : Result Tight E → ℕ
  target_in (Ok r) = r.target
  target_in (Err refusal) = 0

  abbrev pub tight_in : Result Tight E → ℕ
  tight_in (Ok r) = r.tight
  tight_in (Err refusal) = 0
