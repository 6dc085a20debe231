-- A refusal touches no buffer; a success is told.
use mathlib.Core.Path.{refl}
use Rattle.live.specs.Answer.{live_ruled, watch_reply}
use Rattle.krossvil.proofs.Outcomes.{owed, refused}
use Rattle.krossvil.proofs.living.tell_watched.Goals as goal

pub code-requires : goal.code-requires
code-requires c = rw c.in-Err.is at c.requires

pub returns-in-Err : goal.returns-in-Err
returns-in-Err c = let all_of = refused watch_reply _ refl c.in-Err.is (live_ruled _) _ _ c.code.ensures in record { code = all_of.0; bytes = all_of.1 }

pub returns-in-Ok : goal.returns-in-Ok
returns-in-Ok c =
    let all_of = owed watch_reply _ refl c.in-Ok.is _ _ _ (rw c.in_order.ensures at c.tell.ensures.code, rw c.in_order.ensures at c.tell.ensures.bytes) in
    record { code = all_of.0; bytes = all_of.1 }
