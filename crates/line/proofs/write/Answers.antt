-- One of the two kinds of line, by the answer.
use Rattle.line.proofs.Answers.{puts_accepted, puts_refused}
use Rattle.line.proofs.write.Goals as goal

pub returns-in-Ok : goal.returns-in-Ok
returns-in-Ok c = let o = puts_accepted c.in-Ok.is c.put_accepted.ensures in record { puts = o.0; counts = o.1 }

pub returns-in-Err : goal.returns-in-Err
returns-in-Err c =
    let o = puts_refused c.in-Err.is c.number.ensures c.place.ensures c.put_refused.ensures in record { puts = o.0; counts = o.1 }
