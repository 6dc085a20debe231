-- A refusal touches no buffer; a success is told.
use mathlib.Core.Path.{refl}
use Rattle.krossvil.specs.Small.{sized}
use Rattle.krossvil.proofs.Outcomes.{refused}
use Rattle.krossvil.proofs.telling.tell_size.Goals as goal

pub returns-in-Err : goal.returns-in-Err
returns-in-Err g c =
    let all_of = refused (sized g.R.Refused.refused) _ refl c.in-Err.is (g.met.R.Refused.ruled c.in-Err.refusal) _ _ c.code.ensures in
    record { code = all_of.0; bytes = all_of.1 }
