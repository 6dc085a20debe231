-- The refusals of the tight calculators are the calculators' own: they fit.
use mathlib.Core.List.{List}
use Prim.Native.Nat.{ℕ}
use native.Mathlib.Omega.{arith}
use Rattle.std.specs.Prelude.{Ok, Err}
use Rattle.table.specs.Check.{table_in}
use Rattle.reaction.specs.Answer as reaction
use Rattle.reaction.specs.Reaction.{react_of}
use Rattle.moves.specs.Answer.{Judged, judged_reply, judged_then}
use Rattle.moves.specs.Moves.{judge_of}
use Rattle.tight.specs.Answer.{reply_of, over_reply}
use Rattle.tight.specs.Several.{room_for_sums, room_for_path, times_over, tight_moves_of}
use Rattle.tight.specs.Tight.{tight_time, beside, react_tight_of}
use Rattle.krossvil.specs.Small.{Fits}
use Rattle.krossvil.proofs.Places.{reaction_fits}
use Rattle.krossvil.proofs.Several.{judge_fits}

pub tight_fits : (table : List ℕ) (P A : ℕ) → Fits (reply_of (react_tight_of table P A))
unfolding react_tight_of
tight_fits table P A = go (react_of table P A) (reaction_fits table P A)
  where
    go : (a : reaction.ReactionAnswer) → Fits (reaction.reply_of a) → Fits (reply_of (beside (tight_time (table_in table) P A) a))
    go (Ok r) f = record { number = omega arith; place = omega arith }
    go (Err refusal) f = f

pub over_fits : (table : List ℕ) (P A n : ℕ) → Fits (over_reply (tight_moves_of table P A n))
unfolding tight_moves_of
over_fits table P A n = go (judge_of table P A n room_for_sums room_for_path) (judge_fits table P A n room_for_sums room_for_path)
  where
    go : (j : Judged) → Fits (judged_reply j) → Fits (over_reply (judged_then j (times_over (table_in table) P A n)))
    go (Ok passed) f = record { number = omega arith; place = omega arith }
    go (Err refusal) f = f
