-- What holds of the runtime as a whole; proofs/Runtimes proves each.
use Rattle.std.specs.Prelude.{◌≡◌, List, map, ◌↔◌, ℕ, ◌+◌, ◌*◌, ◌≤◌, length, take, Ok, Err}
use Rattle.wire.specs.Encode.{Bytes}
use Rattle.wire.specs.Made.{buffer_in}
use Rattle.table.specs.declared.Table.{Table}
use Rattle.table.specs.Table.{WellFormed}
use Rattle.table.specs.Check.{table_answer, table_in}
use Rattle.table.specs.Encode.{table_bytes}
use Rattle.records.specs.declared.Record.{Record}
use Rattle.records.specs.declared.Refusal.TheVariants.{Differs}
use Rattle.records.specs.Refusal.{stopped}
use Rattle.journal.specs.declared.Numbers.{Numbers}
use Rattle.journal.specs.Check.{check_under, check_of}
use Rattle.records.specs.Form as form
use Rattle.records.specs.Form.{longest_stimulus}
use Rattle.records.specs.Encode.{encode, kept, WrittenAs}
use Rattle.writing.specs.declared.Refusal.TheVariants as why
use Rattle.runtime.specs.declared.Refusal.TheVariants.{Journal}
use Rattle.runtime.specs.Run.{journal_made, made_under, run_of, answer_of}
use Rattle.machine.specs.Run.{ticks_of}
use Rattle.machine.specs.Walk.{in_table}
use Rattle.laws.specs.Journals.{JournalOf}

-- ---- Stimuli

-- The bytes are a stimulus of these events, in range of the table.
abbrev pub StimulusOf : Table → List ℕ → ℕ → List Record → ℕ → Type 0
StimulusOf t s input es end = WrittenAs form.stimulus (in_table form.stimulus t) t.inputs s input es end

-- What a stimulus keeps of a record: all but the polled input, the verdict and the state.
abbrev pub event_for : Record → Record
event_for r = kept form.stimulus r

-- The bytes j are a journal of these records, and the bytes s are its stimulus: the same opening input, changes and times, record by record.
pub record JournalFor (t : Table) (s j : List ℕ) (input : ℕ) (rs : List Record) (end : ℕ) : Type 0 where
  pub journal : JournalOf t j input rs end
  pub stimulus : s ≡ encode form.stimulus input (map event_for rs) end

-- ---- What the runtime writes under a table

-- It is a journal whose stimulus is the one that was given.
abbrev pub KeepsTheStimulus : Type 0
KeepsTheStimulus = (t : Table) → WellFormed t → (s : List ℕ) → Bytes s → (j : List ℕ) → made_under t s ≡ journal_made j →
    (input : ℕ) × (rs : List Record) × (end : ℕ) × JournalFor t s j input rs end

-- The journal check accepts it under the same table, with the stimulus's T and number of ticks.
abbrev pub WritesAccepted : Type 0
WritesAccepted = (t : Table) → WellFormed t → (s : List ℕ) (input : ℕ) (es : List Record) (end : ℕ) → StimulusOf t s input es end →
    (j : List ℕ) → made_under t s ≡ journal_made j →
    (n : Numbers) × (n.end ≡ end) × (n.ticks ≡ ticks_of es) × (check_under form.journal t j ≡ Ok n)

-- The bytes j are an accepted journal, and s is its stimulus.
pub record AcceptedFor (t : Table) (s j : List ℕ) : Type 0 where
  pub input : ℕ
  pub records : List Record
  pub end : ℕ
  pub for : JournalFor t s j input records end
  pub numbers : Numbers
  pub accepted : check_under form.journal t j ≡ Ok numbers
  pub end_is : numbers.end ≡ end

-- There is no other accepted journal with that stimulus.
abbrev pub WritesTheOnly : Type 0
WritesTheOnly = (t : Table) (s j : List ℕ) → made_under t s ≡ journal_made j → (j' : List ℕ) → AcceptedFor t s j' → j' ≡ j

-- An accepted journal of this many bytes exists for the stimulus; it fits the buffer, and the stimulus is within its limit.
pub record Writable (t : Table) (s : List ℕ) (room size : ℕ) : Type 0 where
  pub journal : List ℕ
  pub accepted : AcceptedFor t s journal
  pub size_is : length journal ≡ size
  pub fits : size ≤ room
  pub short : length s ≤ longest_stimulus

-- The runtime succeeds exactly then.
abbrev pub SucceedsExactly : Type 0
SucceedsExactly = (t : Table) → WellFormed t → (s : List ℕ) → Bytes s → (room size : ℕ) →
    (answer_of (made_under t s) room ≡ Ok size) ↔ Writable t s room size

-- ---- The entry

-- It succeeds exactly on the bytes of a well-formed table under which the runtime does.
abbrev pub RunsExactly : Type 0
RunsExactly = (table s : List ℕ) → Bytes table → Bytes s → (room size : ℕ) →
    (answer_of (run_of table s) room ≡ Ok size) ↔ ((t : Table) × WellFormed t × (table ≡ table_bytes t) × Writable t s room size)

-- The bytes j are the journal for the stimulus s: the journal check accepts them on the same table bytes, with the stimulus's T and
-- number of ticks, and no other accepted journal has that stimulus.
pub record OnlyJournal (table s j : List ℕ) : Type 0 where
  pub under : Table
  pub well_formed : WellFormed under
  pub table_is : table ≡ table_bytes under
  pub input : ℕ
  pub records : List Record
  pub end : ℕ
  pub for : JournalFor under s j input records end
  pub numbers : Numbers
  pub accepted : check_of table j ≡ Ok numbers
  pub end_is : numbers.end ≡ end
  pub ticks_are : numbers.ticks ≡ ticks_of (map event_for records)
  pub only : (j' : List ℕ) → AcceptedFor under s j' → j' ≡ j

-- On success just that stands at the start of the buffer.
abbrev pub WritesTheJournal : Type 0
WritesTheJournal = (table s before : List ℕ) → Bytes table → Bytes s → (size : ℕ) → answer_of (run_of table s) (length before) ≡ Ok size →
    OnlyJournal table s (take size (buffer_in (run_of table s) before))

-- It never gives 28.
abbrev pub NeverDiffers : Type 0
NeverDiffers = (table s : List ℕ) (room place : ℕ) → answer_of (run_of table s) room ≡ Err (Journal (why.Record (stopped Differs place))) → ⊥

-- ---- How long the journal is

-- Of a stimulus with n events it has 11 + 8 × n bytes: opening and end as they are there, and eight for each event.
abbrev pub EightForAnEvent : Type 0
EightForAnEvent = (table s j : List ℕ) → run_of table s ≡ journal_made j →
    (input : ℕ) (es : List Record) (end : ℕ) → StimulusOf (table_in table) s input es end → length j ≡ 11 + 8 * length es

-- In a stimulus an event has at least seven bytes, so that 57,344 have room for 8,190 events.
abbrev pub longest_made : ℕ
longest_made = 65531

-- No journal that is made is longer, so that none passes the 65,536 bytes that a journal may have;
abbrev pub NeverTooLong : Type 0
NeverTooLong = (table s j : List ℕ) → run_of table s ≡ journal_made j → length j ≤ longest_made

-- and under every table that passes one is that long.
abbrev pub LongestIsMade : Type 0
LongestIsMade = (table : List ℕ) → table_answer table ≡ Ok tt →
    (s : List ℕ) × (j : List ℕ) × Bytes s × (run_of table s ≡ journal_made j) × (length j ≡ longest_made)
