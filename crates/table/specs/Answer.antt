-- The table check's replies: docs/RULES.md, "Refusals". And checks one after another.
use Rattle.std.proofs.Common.{arith}
use Rattle.std.specs.Prelude.{[], Bool, true, false, Result, Ok, Err, if◌then◌else◌}
use Rattle.wire.specs.Reply.{Reply, gives, refuses, Ruled}
use Rattle.table.specs.declared.Refusal.{Refusal}
use Rattle.table.specs.declared.Refusal.TheVariants.{RunsOut, WrongTagOrLength, CountOutOfRange, BoundOutOfRange}
use Rattle.table.specs.declared.Refusal.TheVariants.{EntryOutOfRange, HoldTooLong, UnknownInputDelayed, IdleSet, UnknownMember, TimerOutOfRange, BytesAfter}

infixr 20 ◌and_then◌
infix 22 ◌or_else◌
-- What the check answers: the table passes, or why it does not.
abbrev pub TableAnswer : Type 0
TableAnswer = Result Unit Refusal

abbrev pub table_refusal : Refusal → Reply
table_refusal (RunsOut at) = refuses 1 at
table_refusal (WrongTagOrLength at) = refuses 2 at
table_refusal (CountOutOfRange at) = refuses 3 at
table_refusal (BoundOutOfRange at) = refuses 4 at
table_refusal (EntryOutOfRange at) = refuses 5 at
table_refusal (HoldTooLong at) = refuses 6 at
table_refusal (UnknownInputDelayed at) = refuses 7 at
table_refusal (IdleSet at) = refuses 11 at
table_refusal (UnknownMember at) = refuses 12 at
table_refusal (TimerOutOfRange at) = refuses 13 at
table_refusal (BytesAfter at) = refuses 8 at

pub table_ruled : (refusal : Refusal) → Ruled (table_refusal refusal)
table_ruled (RunsOut at) = omega arith
table_ruled (WrongTagOrLength at) = omega arith
table_ruled (CountOutOfRange at) = omega arith
table_ruled (BoundOutOfRange at) = omega arith
table_ruled (EntryOutOfRange at) = omega arith
table_ruled (HoldTooLong at) = omega arith
table_ruled (UnknownInputDelayed at) = omega arith
table_ruled (IdleSet at) = omega arith
table_ruled (UnknownMember at) = omega arith
table_ruled (TimerOutOfRange at) = omega arith
table_ruled (BytesAfter at) = omega arith

abbrev pub reply_of : TableAnswer → Reply
reply_of (Ok passed) = gives []
reply_of (Err refusal) = table_refusal refusal

abbrev pub passes? : TableAnswer → Bool
passes? (Ok passed) = true
passes? (Err refusal) = false

-- A test that fails turns the table down.
unfoldable pub ◌or_else◌ : Bool → Refusal → TableAnswer
test or_else refusal = if test then Ok tt else Err refusal

-- Checks in order: the first that turns the table down gives the answer.
unfoldable pub ◌and_then◌ : TableAnswer → TableAnswer → TableAnswer
a and_then b = if passes? a then b else a
