-- What the judge turns down is passed on.
use Rattle.tight.proofs.Judged.{passed_up, reacts}
use Rattle.tight.proofs.over_moves.react.Goals as goal

pub returns-in_default : goal.returns-in_default
returns-in_default c = passed_up _ _ _ _ c.judge-judged.ensures c.unwrap_err-refusal.ensures

pub returns : goal.returns
returns c = reacts _ _ _ _ c.judge-judged.ensures c.in-Ok.is c.react_judged.ensures
