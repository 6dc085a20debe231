-- Of the buffer only the room beside the answer is lent.
use Rattle.convert.specs.Answer.{convert_ruled}
use Rattle.krossvil.proofs.Writers.{place_small, refusal_owed, success_owed}
use Rattle.krossvil.proofs.Converts.{convert_writer}
use Rattle.krossvil.proofs.tables.krossvil_convert_table.Goals as goal

pub code-requires : goal.code-requires
code-requires c = place_small (convert_writer c.args.table.now) _ c.convert.ensures.is c.in-Err.is

pub returns-in-Err : goal.returns-in-Err
returns-in-Err c =
    let all_of = refusal_owed (convert_writer c.args.table.now) c.args.converted.now c.args.answer.now c.room_beside-room.ensures.is (c.convert.ensures.is, c.convert.ensures.holds) c.in-Err.is
    (convert_ruled _) c.code.ensures in record { code = all_of.0; bytes = all_of.1.0; written = all_of.1.1 }

pub returns-in-Ok : goal.returns-in-Ok
returns-in-Ok c =
    let all_of = success_owed (convert_writer c.args.table.now) c.args.converted.now c.args.answer.now c.room_beside-room.ensures.is (c.convert.ensures.is, c.convert.ensures.holds) c.in-Ok.is
    (c.tell.ensures.code, c.tell.ensures.bytes) in record { code = all_of.0; bytes = all_of.1.0; written = all_of.1.1 }
