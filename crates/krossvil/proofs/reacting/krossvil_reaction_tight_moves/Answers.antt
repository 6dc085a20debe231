-- A refusal touches no buffer; a success is told.
use Rattle.moves.specs.Answer.{moves_ruled}
use Rattle.tight.specs.Answer.{over_reply}
use Rattle.krossvil.proofs.Outcomes.{place_fits, owed, refused}
use Rattle.krossvil.proofs.Tights.{over_fits}
use Rattle.krossvil.proofs.reacting.krossvil_reaction_tight_moves.Goals as goal

pub code-requires : goal.code-requires
code-requires c = place_fits over_reply _ c.react.ensures c.in-Err.is (over_fits _ _ _ _)

pub returns-in-Err : goal.returns-in-Err
returns-in-Err c = let all_of = refused over_reply _ c.react.ensures c.in-Err.is (moves_ruled _) _ _ c.code.ensures in record { code = all_of.0; bytes = all_of.1 }

pub returns-in-Ok : goal.returns-in-Ok
returns-in-Ok c = let all_of = owed over_reply _ c.react.ensures c.in-Ok.is _ _ _ (c.tell.ensures.code, c.tell.ensures.bytes) in record { code = all_of.0; bytes = all_of.1 }
