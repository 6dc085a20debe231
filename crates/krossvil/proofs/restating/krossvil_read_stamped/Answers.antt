-- Of the journal buffer only the room beside the answer is lent.
use Rattle.krossvil.proofs.Writers.{tellable, size_owed}
use Rattle.krossvil.proofs.Stamps.{stamped_sizes}
use Rattle.krossvil.proofs.restating.krossvil_read_stamped.Goals as goal

pub tell_size-requires : goal.tell_size-requires
tell_size-requires c = tellable (stamped_sizes c.args.stamped.now) _ c.read.ensures.is

pub returns : goal.returns
returns c =
    let all_of = size_owed (stamped_sizes c.args.stamped.now) c.args.journal.now c.args.answer.now c.room_beside-room.ensures.is (c.read.ensures.is, c.read.ensures.holds)
    (c.tell_size.ensures.code, c.tell_size.ensures.bytes) in record { code = all_of.0; bytes = all_of.1.0; written = all_of.1.1 }
