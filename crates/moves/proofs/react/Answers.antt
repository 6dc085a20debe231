-- What the judge turns down is passed up.
use Rattle.moves.proofs.Judges.{passed_up}
use Rattle.moves.proofs.react.Goals as goal

pub returns-in_default-clause-is : goal.returns-in_default-clause-is
returns-in_default-clause-is c = passed_up _ _ _ _ _ _ c.judge-judged.ensures c.unwrap_err-refusal.ensures
