-- What the converter replies: how many states it changed, or the number and place of what is turned down.
use Rattle.std.proofs.Common.{arith}
use Rattle.std.specs.Prelude.{[], ◌∷◌, ℕ, Result, Ok, Err}
use Rattle.wire.specs.Reply.{Reply, gives, refuses, Ruled}
use Rattle.table.specs.Answer as table
use Rattle.convert.specs.declared.Refusal.{Refusal}
use Rattle.convert.specs.declared.Refusal.TheVariants.{Table, BufferTooShort}

abbrev pub ConvertAnswer : Type 0
ConvertAnswer = Result ℕ Refusal

abbrev pub convert_refusal : Refusal → Reply
convert_refusal (Table refusal) = table.table_refusal refusal
convert_refusal BufferTooShort = refuses 30 0

pub convert_ruled : (refusal : Refusal) → Ruled (convert_refusal refusal)
convert_ruled (Table refusal) = table.table_ruled refusal
convert_ruled BufferTooShort = omega arith

abbrev pub reply_of : ConvertAnswer → Reply
reply_of (Ok changed) = gives (changed ∷ [])
reply_of (Err refusal) = convert_refusal refusal
