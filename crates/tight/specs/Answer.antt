-- What the calculator of tight times replies: docs/RULES.md, "Reaction times" and "Refusals".
use Rattle.std.specs.Prelude.{[], ◌∷◌, ℕ, Result, Ok, Err}
use Rattle.wire.specs.Reply.{Reply, gives}
use Rattle.reaction.specs.declared.Refusal as reaction'
use Rattle.reaction.specs.Answer as reaction
use Rattle.moves.specs.declared.Refusal as moves'
use Rattle.moves.specs.Answer as moves
use Rattle.tight.specs.declared.Tight.{Tight}

abbrev pub TightAnswer : Type 0
TightAnswer = Result Tight reaction'.Refusal

abbrev pub Over : Type 0
Over = Result Tight moves'.Refusal

abbrev pub ReactsTight : {E : Type 0} → (time target tight : ℕ) → Result Tight E
ReactsTight time target tight = Ok (record { time = time; target = target; tight = tight })

abbrev pub reply_of : TightAnswer → Reply
reply_of (Ok r) = gives (r.time ∷ r.target ∷ r.tight ∷ [])
reply_of (Err refusal) = reaction.reaction_refusal refusal

abbrev pub over_reply : Over → Reply
over_reply (Ok r) = gives (r.time ∷ r.target ∷ r.tight ∷ [])
over_reply (Err refusal) = moves.moves_refusal refusal
