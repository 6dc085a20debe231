-- Of the buffer only the room beside the answer is lent; the memory is kept by what is told.
use Rattle.live.specs.Answer.{live_ruled}
use Rattle.live.specs.Live.{live_of}
use Rattle.krossvil.proofs.Writers.{place_small, refusal_owed, success_owed}
use Rattle.krossvil.proofs.Lives.{known, live_writer, size_small, live_kept}
use Rattle.krossvil.proofs.living.krossvil_live.Goals as goal

pub overflow_cast-bytes : goal.overflow_cast-bytes
overflow_cast-bytes c =
    let args = c.args in
    record { fits = size_small (live_of args.table.now args.memory.now args.event.now) (known args.table.now args.memory.now args.event.now) _ c.take_event.ensures.is c.in-Ok.is }

pub code-requires : goal.code-requires
code-requires c = let args = c.args in place_small (live_writer args.table.now args.memory.now args.event.now) _ c.take_event.ensures.is c.in-Err.is

pub returns-in-Ok : goal.returns-in-Ok
returns-in-Ok c =
    let lent = c.room_beside-room.ensures.is in
    let args = c.args in
    let did = c.take_event.ensures in
    let owed = success_owed (live_writer args.table.now args.memory.now args.event.now) args.out.now args.answer.now lent (did.is, did.writes)
    c.in-Ok.is (c.tell.ensures.code, c.tell.ensures.bytes)
    in
    record { code = owed.0; bytes = owed.1.0; written = owed.1.1; kept = live_kept args.table.now args.memory.now args.event.now args.out.now args.answer.now _ lent did.keeps }

pub returns-in-Err : goal.returns-in-Err
returns-in-Err c =
    let lent = c.room_beside-room.ensures.is in
    let args = c.args in
    let did = c.take_event.ensures in
    let owed = refusal_owed (live_writer args.table.now args.memory.now args.event.now) args.out.now args.answer.now lent (did.is, did.writes) c.in-Err.is
    (live_ruled _) c.code.ensures
    in
    record { code = owed.0; bytes = owed.1.0; written = owed.1.1; kept = live_kept args.table.now args.memory.now args.event.now args.out.now args.answer.now _ lent did.keeps }
