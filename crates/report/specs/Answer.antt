-- What is replied when a journal is added: that it was taken, or the number and place of what is turned down.
use Rattle.std.proofs.Common.{arith}
use Rattle.std.specs.Prelude.{[], Result, Ok, Err}
use Rattle.wire.specs.Reply.{Reply, gives, refuses, Ruled}
use Rattle.journal.specs.Answer as journal
use Rattle.report.specs.declared.Refusal.{Refusal}
use Rattle.report.specs.declared.Refusal.TheVariants.{Check, Full}

abbrev pub ReportAnswer : Type 0
ReportAnswer = Result Unit Refusal

abbrev pub report_refusal : Refusal → Reply
report_refusal (Check refusal) = journal.journal_refusal refusal
report_refusal Full = refuses 35 0

pub report_ruled : (refusal : Refusal) → Ruled (report_refusal refusal)
report_ruled (Check refusal) = journal.journal_ruled refusal
report_ruled Full = omega arith

abbrev pub reply_of : ReportAnswer → Reply
reply_of (Ok taken) = gives []
reply_of (Err refusal) = report_refusal refusal
