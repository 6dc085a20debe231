-- What a host program in C gets: docs/RULES.md, "In C".
use Rattle.std.specs.Prelude.{List, [], ◌++◌, ℕ, ◌+◌, ◌*◌, ◌^◌, length, drop, get_or, Err, if◌then◌else◌}
use Rattle.wire.specs.Choice.{◌<?◌, ◌≤?◌, ◌=?◌}
use Rattle.wire.specs.Made.{Made, answer_in, buffer_in}
use Rattle.wire.specs.Reply.{Reply, gives, refuses, number_in, place_in, values_in}
use Rattle.table.specs.Check.{table_in}
use Rattle.table.specs.Encode.{words}
use Rattle.records.specs.Form as form
use Rattle.machine.specs.Walk.{run_over}
use Rattle.journal.specs.Answer as journal
use Rattle.journal.specs.Check.{check_of, check_short_of}
use Rattle.runtime.specs.declared.Refusal.TheVariants as ran
use Rattle.runtime.specs.Answer as runtime
use Rattle.runtime.specs.Run.{run_of}
use Rattle.salvage.specs.declared.Refusal.TheVariants as salvaged
use Rattle.salvage.specs.Answer as salvage
use Rattle.salvage.specs.Salvage.{salvage_of}
use Rattle.convert.specs.declared.Refusal.TheVariants as converted
use Rattle.convert.specs.Answer as convert
use Rattle.convert.specs.Convert.{made_of}
use Rattle.writing.specs.declared.Refusal.TheVariants as read
use Rattle.writing.specs.Answer as stamped
use Rattle.stamped.specs.Stamped.{read_of}
use Rattle.restate.specs.declared.Refusal.TheVariants as restated
use Rattle.restate.specs.Answer as restate
use Rattle.restate.specs.Restate.{shorten_of, lengthen_of}
use Rattle.tally.specs.Tally.{tally_in}
use Rattle.tally.specs.Sums.{summed}
use Rattle.report.specs.Report.{most_journals}
use Rattle.report.specs.Rows.{places_of, row_of}
use Rattle.live.specs.declared.NotTaken.TheVariants.{NoRoom}
use Rattle.live.specs.Answer as live
use Rattle.live.specs.Live.{live_of, live_memory, watch_of, watch_memory}
use Rattle.reaction.specs.Answer as reaction
use Rattle.reaction.specs.Reaction.{react_of}
use Rattle.moves.specs.Answer as moves
use Rattle.moves.specs.Moves.{moves_of, sums_after, path_after}
use Rattle.tight.specs.Answer as tight
use Rattle.tight.specs.Tight.{react_tight_of}
use Rattle.tight.specs.Several.{tight_moves_of}

-- What the host is told of a reply with an answer buffer of so many bytes: 30 at 0 if it is too short for the numbers, four bytes each.
-- That comes last, and a refusal has no numbers.
unfoldable pub told : Reply → ℕ → Reply
told reply room = if room <? 4 * length (values_in reply) then refuses 30 0 else reply

-- Refusal number × 2^32 + place; a success has number 0 and place 0.
abbrev pub numbered : ℕ → ℕ → ℕ
numbered number place = number * 2 ^ 32 + place

abbrev pub code_of : Reply → ℕ
code_of reply = numbered (number_in reply) (place_in reply)

-- The numbers stand at the start of the answer buffer, and its other bytes are unchanged.
abbrev pub answer_after : Reply → List ℕ → List ℕ
answer_after reply answer = words (values_in reply) ++ drop (4 * length (values_in reply)) answer

-- A buffer that an entry writes to changes only if the host is told of a success.
unfoldable pub buffer_after : Reply → List ℕ → List ℕ → List ℕ
buffer_after reply written buffer = if number_in reply =? 0 then written else buffer

-- What the host is told of what was made for a buffer, and what is in the buffer then.
abbrev pub made_told : {A : Type 0} → (A → Reply) → (short : A) → Made A → List ℕ → ℕ → Reply
made_told reply_of short m buffer room = told (reply_of (answer_in short m (length buffer))) room

abbrev pub made_buffer : {A : Type 0} → (A → Reply) → (short : A) → Made A → List ℕ → ℕ → List ℕ
made_buffer reply_of short m buffer room = buffer_after (made_told reply_of short m buffer room) (buffer_in m buffer) buffer

-- ---- What each entry tells. The table check has no numbers.

abbrev pub journal_told : List ℕ → List ℕ → ℕ → Reply
journal_told table records room = told (journal.reply_of (check_of table records)) room

abbrev pub short_told : List ℕ → List ℕ → ℕ → Reply
short_told table records room = told (journal.reply_of (check_short_of table records)) room

-- With a journal buffer and room for the answer.
abbrev pub run_told : List ℕ → List ℕ → List ℕ → ℕ → Reply
run_told table stimulus = made_told runtime.reply_of (Err (ran.Journal read.BufferTooShort)) (run_of table stimulus)

abbrev pub run_journal : List ℕ → List ℕ → List ℕ → ℕ → List ℕ
run_journal table stimulus = made_buffer runtime.reply_of (Err (ran.Journal read.BufferTooShort)) (run_of table stimulus)

abbrev pub reaction_told : List ℕ → ℕ → ℕ → ℕ → Reply
reaction_told table P A room = told (reaction.reply_of (react_of table P A)) room

-- With slices for the sums and for the path.
abbrev pub moves_told : List ℕ → (P A n sums path room : ℕ) → Reply
moves_told table P A n sums path room = told (moves.reply_of (moves_of table P A n sums path)) room

abbrev pub moves_sums : List ℕ → (P A n : ℕ) → (sums : List ℕ) → (path room : ℕ) → List ℕ
moves_sums table P A n sums path room = buffer_after (moves_told table P A n (length sums) path room) (sums_after table P A n sums path) sums

abbrev pub moves_path : List ℕ → (P A n sums : ℕ) → (path : List ℕ) → (room : ℕ) → List ℕ
moves_path table P A n sums path room = buffer_after (moves_told table P A n sums (length path) room) (path_after table P A n sums path) path

abbrev pub convert_told : List ℕ → List ℕ → ℕ → Reply
convert_told table = made_told convert.reply_of (Err converted.BufferTooShort) (made_of table)

abbrev pub stamped_told : List ℕ → List ℕ → ℕ → Reply
stamped_told bytes = made_told stamped.reply_of (Err read.BufferTooShort) (read_of bytes)

abbrev pub shorten_told : List ℕ → List ℕ → List ℕ → ℕ → Reply
shorten_told table bytes = made_told restate.reply_of (Err restated.BufferTooShort) (shorten_of table bytes)

abbrev pub lengthen_told : List ℕ → List ℕ → List ℕ → ℕ → Reply
lengthen_told table bytes = made_told restate.reply_of (Err restated.BufferTooShort) (lengthen_of table bytes)

abbrev pub tight_told : List ℕ → ℕ → ℕ → ℕ → Reply
tight_told table P A room = told (tight.reply_of (react_tight_of table P A)) room

abbrev pub tight_moves_told : List ℕ → ℕ → ℕ → ℕ → ℕ → Reply
tight_moves_told table P A n room = told (tight.over_reply (tight_moves_of table P A n)) room

abbrev pub salvage_told : List ℕ → List ℕ → List ℕ → ℕ → Reply
salvage_told table records = made_told salvage.reply_of (Err salvaged.BufferTooShort) (salvage_of table records)

-- ---- The report, which the host keeps. It has no answer buffer.

-- Where there is no number at all 35 could not be told: this 30 comes before it.
unfoldable pub room_for : (places : ℕ) → (report : List ℕ) → Reply
room_for places report =
    if length report =? 0 then refuses 30 0
    else if most_journals ≤? get_or report 0 0 then refuses 35 0
    else if length report <? places then refuses 30 0
    else gives []

-- The checker's refusals come first.
abbrev pub after_check : (checked later : Reply) → Reply
after_check (gives values) later = later
after_check (refuses number place) later = refuses number place

unfoldable pub report_told : List ℕ → List ℕ → List ℕ → Reply
report_told table records report = after_check (journal.reply_of (check_of table records)) (room_for (places_of (table_in table)) report)

-- What the journal adds to it, number by number.
abbrev pub report_row : List ℕ → List ℕ → List ℕ
report_row table records = row_of (table_in table) (tally_in (table_in table) (run_over form.journal (table_in table) records))

abbrev pub report_after : List ℕ → List ℕ → List ℕ → List ℕ
report_after table records report = buffer_after (report_told table records report) (summed report (report_row table records)) report

-- ---- Live runs, whose memory the host keeps

abbrev pub live_told : (table memory event buffer : List ℕ) → ℕ → Reply
live_told table memory event = made_told live.reply_of (Err NoRoom) (live_of table memory event)

abbrev pub live_record : (table memory event buffer : List ℕ) → ℕ → List ℕ
live_record table memory event = made_buffer live.reply_of (Err NoRoom) (live_of table memory event)

-- The memory changes only if the host is told of a success, as every buffer does.
abbrev pub live_keeps : (table memory event buffer : List ℕ) → ℕ → List ℕ
live_keeps table memory event buffer room =
    buffer_after (live_told table memory event buffer room) (live_memory table memory event (length buffer)) memory

abbrev pub watch_told : (table memory bytes : List ℕ) → ℕ → Reply
watch_told table memory bytes room = told (live.watch_reply (watch_of table memory bytes)) room

abbrev pub watch_keeps : (table memory bytes : List ℕ) → ℕ → List ℕ
watch_keeps table memory bytes room = buffer_after (watch_told table memory bytes room) (watch_memory table memory bytes) memory
