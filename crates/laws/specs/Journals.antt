-- What holds of the journal check as a whole; proofs/Journals proves each.
use Rattle.std.specs.Prelude.{◌≡◌, List, [], ◌∷◌, ◌++◌, ◌↔◌, true, ℕ, ◌≤◌, length, Ok}
use Rattle.wire.specs.Encode.{Bytes}
use Rattle.table.specs.declared.Table.{Table}
use Rattle.table.specs.Table.{output_of, WellFormed}
use Rattle.table.specs.Encode.{table_bytes}
use Rattle.machine.specs.declared.Machine.{Machine}
use Rattle.records.specs.declared.Record.{Record}
use Rattle.records.specs.declared.Record.TheVariants.{End}
use Rattle.machine.specs.Machine.{start}
use Rattle.machine.specs.Run.{Runs, ticks_of, moves_from, most_left}
use Rattle.machine.specs.Walk.{in_table}
use Rattle.journal.specs.declared.Numbers.{Numbers}
use Rattle.records.specs.Form.{Form, journal}
use Rattle.records.specs.Encode.{WrittenAs, Recovers}
use Rattle.journal.specs.Check.{check_under, check_in}

-- ---- Bytes and records: records/specs/Encode states it for every form

-- The bytes are a journal of these records, in range of the table.
abbrev pub JournalOf : Table → List ℕ → ℕ → List Record → ℕ → Type 0
JournalOf t s input rs end = WrittenAs journal (in_table journal t) t.inputs s input rs end

-- ---- Acceptance

-- The bytes are records, in this form, that the machine runs to their end, and the numbers are those of the run.
pub record AcceptedRun (F : Form) (t : Table) (s : List ℕ) (n : Numbers) : Type 0 where
  pub short : length s ≤ F.most
  pub input : ℕ
  pub records : List Record
  pub written : WrittenAs F (in_table F t) t.inputs s input records n.end
  pub last : Machine
  pub runs : Runs t (start t.initial input) (records ++ End n.end ∷ []) last
  pub ticks_are : n.ticks ≡ ticks_of records
  pub moves_are : n.moves ≡ moves_from t.initial records
  pub state_is : n.state ≡ last.state
  pub output_is : n.output ≡ output_of t n.state
  pub left_is : n.left ≡ most_left t (start t.initial input) records
  pub longest_is : n.longest ≡ last.longest

-- Under a table the bytes that are accepted are exactly the records, in this form, that its machine runs. The form says every value.
abbrev pub AcceptsExactly : Form → Type 0
AcceptsExactly F = F.valued ≡ true → Recovers F → (t : Table) (s : List ℕ) → Bytes s → (n : Numbers) →
    (check_under F t s ≡ Ok n) ↔ AcceptedRun F t s n

-- On the bytes of a table: the check in this form accepts exactly those of a well-formed table with records that the table's machine runs.
-- The check of a journal is this of the form `journal`, that of a short journal this of `short`.
abbrev pub ChecksExactly : Form → Type 0
ChecksExactly F = (table s : List ℕ) → Bytes table → Bytes s → (n : Numbers) →
    (check_in F table s ≡ Ok n) ↔ ((t : Table) × WellFormed t × (table ≡ table_bytes t) × AcceptedRun F t s n)
