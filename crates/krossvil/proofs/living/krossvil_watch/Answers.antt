-- Without room for the numbers the check only looks.
use mathlib.Core.Path.{refl}
use Rattle.live.specs.Answer.{watch_reply}
use Rattle.krossvil.proofs.Outcomes.{owed}
use Rattle.krossvil.proofs.Lives.{watch_says, watch_looks, watch_keeps_lem}
use Rattle.krossvil.proofs.living.krossvil_watch.Goals as goal

pub tell_watched-requires : goal.tell_watched-requires
tell_watched-requires c =
    let args = c.args in
    rw c.look_at_record.ensures (watch_says args.table.now args.memory.now args.bytes.now)

pub returns-then-answer-lt-ACCEPTED_ANSWER : goal.returns-then-answer-lt-ACCEPTED_ANSWER
returns-then-answer-lt-ACCEPTED_ANSWER c =
    let args = c.args in
    let owed = owed watch_reply _ c.look_at_record.ensures refl _ _ _ (c.tell_watched.ensures.code, c.tell_watched.ensures.bytes) in
    record { code = owed.0; bytes = owed.1; kept = watch_looks args.table.now args.memory.now args.bytes.now args.answer.now c.if-answer-lt-ACCEPTED_ANSWER.true }

pub tell_watched-requires-2 : goal.tell_watched-requires-2
tell_watched-requires-2 c =
    let args = c.args in
    rw c.watch_record.ensures.is (watch_says args.table.now args.memory.now args.bytes.now)

pub returns : goal.returns
returns c =
    let args = c.args in
    let owed = owed watch_reply _ c.watch_record.ensures.is refl _ _ _ (c.tell_watched-2.ensures.code, c.tell_watched-2.ensures.bytes) in
    record { code = owed.0; bytes = owed.1; kept = watch_keeps_lem args.table.now args.memory.now args.bytes.now args.answer.now c.if-answer-lt-ACCEPTED_ANSWER.false c.watch_record.ensures.keeps }
