-- What holds of the journals of controllers with a short clock; proofs/Stamps proves each. Of two records that are 65,536 ticks apart or
-- more nothing is claimed: their stamps do not tell.
use Rattle.std.specs.Prelude.{◌≡◌, List, [], ◌++◌, ℕ, ◌≤◌, length, drop, Ok, Err}
use Rattle.wire.specs.Encode.{Bytes}
use Rattle.wire.specs.Field.{byte_at}
use Rattle.wire.specs.Made.{made, answer_in, buffer_in}
use Rattle.records.specs.declared.Record.{Record}
use Rattle.records.specs.Form.{journal, stamped, longest_stamped}
use Rattle.records.specs.Reading.{any_record, items_of}
use Rattle.records.specs.Encode.{written_in}
use Rattle.journal.specs.declared.Numbers.{Numbers}
use Rattle.journal.specs.Check.{check_of}
use Rattle.writing.specs.declared.Refusal.TheVariants.{BufferTooShort}
use Rattle.writing.specs.Answer.{WritingAnswer}
use Rattle.stamped.specs.Stamped.{Listed, listed, stopped, list_of, read_of}

-- The records of bytes that were read to their end.
abbrev pub records_in : Listed → List Record
records_in (listed rs) = rs
records_in (stopped refusal place) = []

-- A journal as such a controller writes it: the same records, each time modulo 65,536. No entry makes it.
abbrev pub stamped_form : List ℕ → List ℕ
stamped_form j = written_in stamped (byte_at j 3) (records_in (list_of (items_of journal any_record j)))

-- An accepted journal has a stamped form of at most 49,152 bytes. Read back into any buffer that has room for it, it is itself, byte for
-- byte, and past it the buffer is as it was.
abbrev pub StampedComesBack : Type 0
StampedComesBack = (table j buffer : List ℕ) → Bytes j → (n : Numbers) → check_of table j ≡ Ok n → length j ≤ length buffer →
    (length (stamped_form j) ≤ longest_stamped)
    × (answer_in (Err BufferTooShort) (read_of (stamped_form j)) (length buffer) ≡ Ok (length j))
    × (buffer_in (read_of (stamped_form j)) buffer ≡ j ++ drop (length j) buffer)

-- Whatever it reads, it writes no more than a journal may have.
abbrev pub ReadsNoLonger : Type 0
ReadsNoLonger = (s bytes : List ℕ) (answer : WritingAnswer) → read_of s ≡ made answer bytes → length bytes ≤ 65531
