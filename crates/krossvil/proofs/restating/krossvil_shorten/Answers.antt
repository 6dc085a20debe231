-- The check's refusals are passed up. Of the buffer only the room beside the answer is lent.
use mathlib.Core.Path.{◌≡◌}
use native.Mathlib.Omega.{arith}
use Rattle.wire.specs.Encode.{Bytes}
use Rattle.table.specs.Check.{table_in}
use Rattle.records.specs.Form.{journal, short}
use Rattle.machine.specs.Walk.{run_over}
use Rattle.journal.specs.Accepted.{AcceptedIn}
use Rattle.restate.specs.Restate.{restated, shorten_of}
use Rattle.krossvil.proofs.Accepting.{accepted_zero}
use Rattle.krossvil.proofs.Writers.{tellable, size_owed}
use Rattle.krossvil.proofs.Restates.{shorten_sizes, shorten_passed, shorten_under}
use Rattle.krossvil.proofs.restating.krossvil_shorten.Goals as goal
use Rattle.krossvil.proofs.restating.krossvil_shorten.Goals.{Else-refusal-ne0}

-- Where the check accepts.
module _ (c : Else-refusal-ne0) where
  went : AcceptedIn journal c.args.table.now c.args.journal.now
  went = accepted_zero journal c.args.table.now c.args.journal.now 28 _ c.krossvil_check_journal-refusal.ensures.code (omega arith)

  same : restated short (run_over journal (table_in c.args.table.now) c.args.journal.now) ≡ shorten_of c.args.table.now c.args.journal.now
  same = shorten_under c.args.table.now c.args.journal.now went

  bytes : Bytes c.args.journal.now
  bytes = λ k. omega (arith, c.type_inv.journal k)

pub returns-then-refusal-ne0 : goal.returns-then-refusal-ne0
returns-then-refusal-ne0 c =
    let args = c.args in
    let all_of = shorten_passed args.table.now args.journal.now _ c.krossvil_check_journal-refusal.ensures.code (λ zero. omega arith) args.shortened.now args.answer.now in
    record { code = all_of.0; bytes = all_of.1.0; written = all_of.1.1 }

pub shorten_accepted-requires : goal.shorten_accepted-requires
shorten_accepted-requires c = went (goal.at.shorten_accepted-requires c).Else-refusal-ne0

pub tell_size-requires : goal.tell_size-requires
tell_size-requires c = tellable (shorten_sizes c.args.table.now c.args.journal.now (bytes (goal.at.tell_size-requires c).Else-refusal-ne0)) _ (rw (same (goal.at.tell_size-requires c).Else-refusal-ne0) at c.shorten_accepted.ensures.is)

pub returns : goal.returns
returns c =
    let made = same (goal.at.returns c).Else-refusal-ne0 in
    let all_of = size_owed (shorten_sizes c.args.table.now c.args.journal.now (bytes (goal.at.returns c).Else-refusal-ne0)) c.args.shortened.now c.args.answer.now c.room_beside-room.ensures.is
    (rw made at c.shorten_accepted.ensures.is, rw made at c.shorten_accepted.ensures.holds) (c.tell_size.ensures.code, c.tell_size.ensures.bytes) in
    record { code = all_of.0; bytes = all_of.1.0; written = all_of.1.1 }
