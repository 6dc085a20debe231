-- The check's refusals are passed up. Of the buffer only the room beside the answer is lent.
use mathlib.Core.Path.{◌≡◌}
use native.Mathlib.Omega.{arith}
use Rattle.table.specs.Check.{table_in}
use Rattle.records.specs.Form.{journal, short}
use Rattle.machine.specs.Walk.{run_over}
use Rattle.journal.specs.Accepted.{AcceptedIn}
use Rattle.restate.specs.Restate.{restated, within_limit, lengthen_of}
use Rattle.krossvil.proofs.Accepting.{accepted_zero}
use Rattle.krossvil.proofs.Writers.{tellable, size_owed}
use Rattle.krossvil.proofs.Restates.{lengthen_sizes, lengthen_passed, lengthen_under}
use Rattle.krossvil.proofs.restating.krossvil_lengthen.Goals as goal
use Rattle.krossvil.proofs.restating.krossvil_lengthen.Goals.{Else-refusal-ne0}

-- Where the check accepts.
module _ (c : Else-refusal-ne0) where
  went : AcceptedIn short c.args.table.now c.args.shortened.now
  went = accepted_zero short c.args.table.now c.args.shortened.now 28 _ c.krossvil_check_short-refusal.ensures.code (omega arith)

  same : within_limit (restated journal (run_over short (table_in c.args.table.now) c.args.shortened.now)) ≡ lengthen_of c.args.table.now c.args.shortened.now
  same = lengthen_under c.args.table.now c.args.shortened.now went

pub returns-then-refusal-ne0 : goal.returns-then-refusal-ne0
returns-then-refusal-ne0 c =
    let args = c.args in
    let all_of = lengthen_passed args.table.now args.shortened.now _ c.krossvil_check_short-refusal.ensures.code (λ zero. omega arith) args.journal.now args.answer.now in
    record { code = all_of.0; bytes = all_of.1.0; written = all_of.1.1 }

pub lengthen_accepted-requires : goal.lengthen_accepted-requires
lengthen_accepted-requires c = went (goal.at.lengthen_accepted-requires c).Else-refusal-ne0

pub tell_size-requires : goal.tell_size-requires
tell_size-requires c = tellable (lengthen_sizes c.args.table.now c.args.shortened.now) _ (rw (same (goal.at.tell_size-requires c).Else-refusal-ne0) at c.lengthen_accepted.ensures.is)

pub returns : goal.returns
returns c =
    let made = same (goal.at.returns c).Else-refusal-ne0 in
    let all_of = size_owed (lengthen_sizes c.args.table.now c.args.shortened.now) c.args.journal.now c.args.answer.now c.room_beside-room.ensures.is
    (rw made at c.lengthen_accepted.ensures.is, rw made at c.lengthen_accepted.ensures.holds) (c.tell_size.ensures.code, c.tell_size.ensures.bytes) in
    record { code = all_of.0; bytes = all_of.1.0; written = all_of.1.1 }
