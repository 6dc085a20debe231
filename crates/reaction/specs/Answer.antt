-- What the calculator replies: docs/RULES.md, "Reaction times" and "Refusals".
use Rattle.std.proofs.Common.{arith}
use Rattle.std.specs.Prelude.{[], ◌∷◌, ℕ, Result, Ok, Err}
use Rattle.wire.specs.Reply.{Reply, gives, refuses, Ruled}
use Rattle.table.specs.Answer as table
use Rattle.reaction.specs.declared.Reaction.{Reaction}
use Rattle.reaction.specs.declared.Refusal.{Refusal}
use Rattle.reaction.specs.declared.Refusal.TheVariants.{Table, HasTimers, UnknownState, UnknownInput, LeavesStates}

abbrev pub ReactionAnswer : Type 0
ReactionAnswer = Result Reaction Refusal

abbrev pub Reacts : (time target : ℕ) → ReactionAnswer
Reacts time target = Ok (record { time = time; target = target })

abbrev pub reaction_refusal : Refusal → Reply
reaction_refusal (Table refusal) = table.table_refusal refusal
reaction_refusal HasTimers = refuses 14 0
reaction_refusal UnknownState = refuses 9 0
reaction_refusal UnknownInput = refuses 9 1
reaction_refusal (LeavesStates at) = refuses 10 at

pub reaction_ruled : (refusal : Refusal) → Ruled (reaction_refusal refusal)
reaction_ruled (Table refusal) = table.table_ruled refusal
reaction_ruled HasTimers = omega arith
reaction_ruled UnknownState = omega arith
reaction_ruled UnknownInput = omega arith
reaction_ruled (LeavesStates at) = omega arith

abbrev pub reply_of : ReactionAnswer → Reply
reply_of (Ok r) = gives (r.time ∷ r.target ∷ [])
reply_of (Err refusal) = reaction_refusal refusal
