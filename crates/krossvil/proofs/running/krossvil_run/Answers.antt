-- Of the journal buffer only the room beside the answer is lent.
use Rattle.krossvil.proofs.Writers.{tellable, size_owed}
use Rattle.krossvil.proofs.Runs.{run_sizes}
use Rattle.krossvil.proofs.running.krossvil_run.Goals as goal

pub tell_size-requires : goal.tell_size-requires
tell_size-requires c = tellable (run_sizes c.args.table.now c.args.stimulus.now) _ c.run.ensures.is

pub returns : goal.returns
returns c =
    let args = c.args in
    let all_of = size_owed (run_sizes args.table.now args.stimulus.now) args.journal.now args.answer.now c.room_beside-room.ensures.is (c.run.ensures.is, c.run.ensures.holds)
    (c.tell_size.ensures.code, c.tell_size.ensures.bytes) in record { code = all_of.0; bytes = all_of.1.0; written = all_of.1.1 }
