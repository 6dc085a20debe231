-- The check's refusals are passed up, then what is wrong with the report. The numbers are added only where there is room for all.
use mathlib.Core.Path.{refl}
use native.Mathlib.Omega.{arith}
use Rattle.table.specs.Check.{table_in}
use Rattle.records.specs.Form.{journal}
use Rattle.journal.specs.Accepted.{AcceptedIn}
use Rattle.report.specs.Rows.{places_of}
use Rattle.krossvil.proofs.Accepting.{accepted_zero}
use Rattle.krossvil.proofs.Reports.{HasRoom, has_room, place_small, report_passed, report_lacks, report_added}
use Rattle.krossvil.proofs.reporting.krossvil_report_add.Goals as goal
use Rattle.krossvil.proofs.reporting.krossvil_report_add.Goals.{Else-refusal-ne0, In-Ok}

-- Where the check accepts.
module _ (c : Else-refusal-ne0) where
  went : AcceptedIn journal c.args.table.now c.args.journal.now
  went =
      accepted_zero journal c.args.table.now c.args.journal.now 28 _ c.krossvil_check_journal-refusal.ensures.code
      (omega (arith, c.if-refusal-ne0.false))

-- And where there is room.
module _ (c : In-Ok) where
  room : HasRoom (places_of (table_in c.args.table.now)) c.args.report.now
  room = has_room _ _ (rw c.in-Ok.is at c.room_for.ensures)

pub returns-then-refusal-ne0 : goal.returns-then-refusal-ne0
returns-then-refusal-ne0 c =
    let args = c.args in
    let all_of = report_passed args.table.now args.journal.now args.report.now _ c.krossvil_check_journal-refusal.ensures.code (λ zero. omega (arith, c.if-refusal-ne0.true)) in
    record { code = all_of.0; numbers = all_of.1 }

pub room_for-requires : goal.room_for-requires
room_for-requires c = (went (goal.at.room_for-requires c).Else-refusal-ne0).passes

pub code-requires : goal.code-requires
code-requires c = place_small c.in-Err.refusal

pub returns-in-Err : goal.returns-in-Err
returns-in-Err c =
    let args = c.args in
    let all_of = report_lacks args.table.now args.journal.now args.report.now _ (went (goal.at.returns-in-Err c).Else-refusal-ne0) c.in-Err.refusal
    (rw c.in-Err.is at c.room_for.ensures) c.code.ensures in record { code = all_of.0; numbers = all_of.1 }

pub add_row-requires : goal.add_row-requires
add_row-requires c = (went (goal.at.add_row-requires c).Else-refusal-ne0, (room (goal.at.add_row-requires c).In-Ok).room)

pub returns-in-Ok : goal.returns-in-Ok
returns-in-Ok c =
    let args = c.args in
    let all_of = report_added args.table.now args.journal.now args.report.now 0 (went (goal.at.returns-in-Ok c).Else-refusal-ne0) (room (goal.at.returns-in-Ok c).In-Ok) refl _ c.add_row.ensures in
    record { code = all_of.0; numbers = all_of.1 }
