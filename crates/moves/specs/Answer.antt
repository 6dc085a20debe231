-- What the calculator for several moves replies: docs/RULES.md, "Reaction times" and "Refusals".
use Rattle.std.proofs.Common.{arith}
use Rattle.std.specs.Prelude.{Bool, true, false, [], ◌∷◌, Result, Ok, Err}
use Rattle.wire.specs.Reply.{Reply, gives, refuses, Ruled}
use Rattle.table.specs.Answer as table
use Rattle.reaction.specs.declared.Refusal as asked
use Rattle.reaction.specs.declared.Refusal.TheVariants as why
use Rattle.moves.specs.declared.Reaction.{Reaction}
use Rattle.moves.specs.declared.Refusal.{Refusal}
use Rattle.moves.specs.declared.Refusal.TheVariants.{Table, HasTimers, UnknownState, UnknownInput, TooManyMoves, LeavesStates, NoRoom}

-- What the judge says: nothing is turned down, or why.
abbrev pub Judged : Type 0
Judged = Result Unit Refusal

abbrev pub MovesAnswer : Type 0
MovesAnswer = Result Reaction Refusal

abbrev pub moves_refusal : Refusal → Reply
moves_refusal (Table refusal) = table.table_refusal refusal
moves_refusal HasTimers = refuses 14 0
moves_refusal UnknownState = refuses 9 0
moves_refusal UnknownInput = refuses 9 1
moves_refusal TooManyMoves = refuses 32 0
moves_refusal (LeavesStates at) = refuses 10 at
moves_refusal NoRoom = refuses 33 0

pub moves_ruled : (refusal : Refusal) → Ruled (moves_refusal refusal)
moves_ruled (Table refusal) = table.table_ruled refusal
moves_ruled HasTimers = omega arith
moves_ruled UnknownState = omega arith
moves_ruled UnknownInput = omega arith
moves_ruled TooManyMoves = omega arith
moves_ruled (LeavesStates at) = omega arith
moves_ruled NoRoom = omega arith

-- What the question turns down.
abbrev pub asked_refusal : asked.Refusal → Refusal
asked_refusal (why.Table refusal) = Table refusal
asked_refusal why.HasTimers = HasTimers
asked_refusal why.UnknownState = UnknownState
asked_refusal why.UnknownInput = UnknownInput
asked_refusal (why.LeavesStates at) = LeavesStates at

abbrev pub judged_reply : Judged → Reply
judged_reply (Ok passed) = gives []
judged_reply (Err refusal) = moves_refusal refusal

abbrev pub judged_passes? : Judged → Bool
judged_passes? (Ok passed) = true
judged_passes? (Err refusal) = false

-- The answer where nothing is turned down.
abbrev pub judged_then : {A : Type 0} → Judged → A → Result A Refusal
judged_then (Ok passed) answer = Ok answer
judged_then (Err refusal) answer = Err refusal

abbrev pub reply_of : MovesAnswer → Reply
reply_of (Ok r) = gives (r.time ∷ r.target ∷ r.length ∷ [])
reply_of (Err refusal) = moves_refusal refusal
