-- A refusal touches no buffer; a success is told.
use Rattle.krossvil.proofs.Outcomes.{place_fits, owed, refused}
use Rattle.krossvil.proofs.Places.{journal_fits}
use Rattle.journal.specs.Answer.{reply_of, journal_ruled}
use Rattle.krossvil.proofs.checking.krossvil_check_journal.Goals as goal

pub code-requires : goal.code-requires
code-requires c = place_fits reply_of _ c.check.ensures c.in-Err.is (journal_fits _ _)

pub returns-in-Err : goal.returns-in-Err
returns-in-Err c = let all_of = refused reply_of _ c.check.ensures c.in-Err.is (journal_ruled _) _ _ c.code.ensures in record { code = all_of.0; bytes = all_of.1 }

pub returns-in-Ok : goal.returns-in-Ok
returns-in-Ok c = let all_of = owed reply_of _ c.check.ensures c.in-Ok.is _ _ _ (rw c.in_order.ensures at c.tell.ensures.code, rw c.in_order.ensures at c.tell.ensures.bytes) in record { code = all_of.0; bytes = all_of.1 }
