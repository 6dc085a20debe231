-- A refusal touches no buffer; a success is told.
use Rattle.reaction.specs.Answer.{reaction_ruled}
use Rattle.tight.specs.Answer.{reply_of}
use Rattle.krossvil.proofs.Outcomes.{place_fits, owed, refused}
use Rattle.krossvil.proofs.Tights.{tight_fits}
use Rattle.krossvil.proofs.reacting.krossvil_reaction_tight.Goals as goal

pub code-requires : goal.code-requires
code-requires c = place_fits reply_of _ c.react.ensures c.in-Err.is (tight_fits _ _ _)

pub returns-in-Err : goal.returns-in-Err
returns-in-Err c = let all_of = refused reply_of _ c.react.ensures c.in-Err.is (reaction_ruled _) _ _ c.code.ensures in record { code = all_of.0; bytes = all_of.1 }

pub returns-in-Ok : goal.returns-in-Ok
returns-in-Ok c = let all_of = owed reply_of _ c.react.ensures c.in-Ok.is _ _ _ (c.tell.ensures.code, c.tell.ensures.bytes) in record { code = all_of.0; bytes = all_of.1 }
