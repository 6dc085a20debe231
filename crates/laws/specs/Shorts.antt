-- What holds of journals and their short forms; proofs/Shorts proves each.
use Rattle.std.specs.Prelude.{◌≡◌, List, [], ◌∷◌, ◌++◌, ℕ, ◌+◌, ◌*◌, ◌/◌, ◌<◌, ◌≤◌, length, Ok, Err}
use Rattle.wire.specs.Encode.{Bytes}
use Rattle.wire.specs.Made.{refused, made}
use Rattle.table.specs.declared.Table.{Table}
use Rattle.table.specs.Table.{WellFormed}
use Rattle.table.specs.Check.{table_in}
use Rattle.records.specs.declared.Record.{Record}
use Rattle.records.specs.declared.Record.TheVariants.{End}
use Rattle.records.specs.Form.{Form, short, longest_journal}
use Rattle.records.specs.Encode.{written_in}
use Rattle.machine.specs.declared.Machine.{Machine}
use Rattle.machine.specs.Walk.{ran, run_over}
use Rattle.machine.specs.Gaps.{Spaced}
use Rattle.journal.specs.declared.Numbers.{Numbers}
use Rattle.journal.specs.Check.{check_in, check_of}
use Rattle.restate.specs.declared.Refusal.TheVariants.{OldFormTooLong}
use Rattle.restate.specs.Answer.{RestateAnswer}
use Rattle.restate.specs.Restate.{shorten_of, lengthen_of}
use Rattle.laws.specs.Journals.{JournalOf}

-- ---- One run in two forms

-- The records of an accepted journal are at most 65,535 apart, the first counted from 0: each gap fits in two bytes.
abbrev pub GapsFit : Type 0
GapsFit = (table j : List ℕ) (n : Numbers) → check_of table j ≡ Ok n →
    (input : ℕ) (rs : List Record) (end : ℕ) → JournalOf (table_in table) j input rs end → Spaced 65535 0 (rs ++ End end ∷ [])

-- What the machine takes in the form F it takes in the form G too, unless that has more bytes than it may have, and is the same after it.
abbrev pub SameRun : Form → Form → Type 0
SameRun F G = (t : Table) → WellFormed t → (s : List ℕ) → Bytes s → (input : ℕ) (taken : List Record) (last : Machine) → run_over F t s ≡ ran input taken last →
    length (written_in G input taken) ≤ G.most → run_over G t (written_in G input taken) ≡ ran input taken last

-- So the check accepts both forms of a journal with the same numbers.
abbrev pub ShortenedSame : Type 0
ShortenedSame = (table j s : List ℕ) (answer : RestateAnswer) → Bytes j → shorten_of table j ≡ made answer s → check_in short table s ≡ check_of table j

abbrev pub LengthenedSame : Type 0
LengthenedSame = (table s j : List ℕ) (answer : RestateAnswer) → Bytes s → lengthen_of table s ≡ made answer j → check_of table j ≡ check_in short table s

-- ---- There and back

-- Every accepted journal is shortened, and comes back byte for byte.
abbrev pub JournalsComeBack : Type 0
JournalsComeBack = (table j : List ℕ) (n : Numbers) → Bytes j → check_of table j ≡ Ok n →
    (s : List ℕ) × (shorten_of table j ≡ made (Ok (length s)) s) × (lengthen_of table s ≡ made (Ok (length j)) j)

-- How long the old form of an accepted short journal is: eight bytes for every six, and the end seven for five.
abbrev pub old_length : List ℕ → ℕ
old_length s = length s / 6 * 8 + 3

-- Every accepted short journal comes back byte for byte whose old form has at most 65,536 bytes;
abbrev pub ShortsComeBack : Type 0
ShortsComeBack = (table s : List ℕ) (n : Numbers) → Bytes s → check_in short table s ≡ Ok n → old_length s ≤ longest_journal →
    (j : List ℕ) × (length j ≡ old_length s) × (lengthen_of table s ≡ made (Ok (length j)) j) × (shorten_of table j ≡ made (Ok (length s)) s)

-- and for every other there is 34.
abbrev pub OthersTooLong : Type 0
OthersTooLong = (table s : List ℕ) (n : Numbers) → Bytes s → check_in short table s ≡ Ok n → longest_journal < old_length s →
    lengthen_of table s ≡ refused (Err OldFormTooLong)

-- In 65,536 bytes a journal has an opening field and at most 8,191 records, the end among them: short, 3 + 6 × 8,191 bytes.
abbrev pub ShortensWell : Type 0
ShortensWell = (table j s : List ℕ) (answer : RestateAnswer) → Bytes j → shorten_of table j ≡ made answer s → length s ≤ 49149
