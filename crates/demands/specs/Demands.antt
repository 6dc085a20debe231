-- Acceptance and demand 3, for any bytes of a table and of a journal; proofs/Demands proves each. What demand 3 says of their records stands in
-- specs/Runs, where it is said of every run.
use Rattle.std.specs.Prelude.{◌≡◌, List, [], ◌∷◌, ◌++◌, ◌↔◌, ℕ, ◌<◌, ◌≤◌, length, Ok}
use Rattle.wire.specs.Encode.{Bytes}
use Rattle.table.specs.declared.Table.{Table}
use Rattle.table.specs.Table.{WellFormed}
use Rattle.table.specs.Encode.{table_bytes}
use Rattle.records.specs.declared.Record.{Record}
use Rattle.records.specs.declared.Record.TheVariants.{End}
use Rattle.records.specs.Form.{longest_journal}
use Rattle.records.specs.Record.{is_test}
use Rattle.machine.specs.declared.Machine.{Machine}
use Rattle.machine.specs.Machine.{start, left, after}
use Rattle.machine.specs.Left.{UntilFree}
use Rattle.machine.specs.Most.{Has, MostOf}
use Rattle.machine.specs.Longest.{LongestOf}
use Rattle.journal.specs.declared.Numbers.{Numbers}
use Rattle.journal.specs.Check.{check_of}
use Rattle.reaction.specs.Answer.{Reacts}
use Rattle.reaction.specs.Reaction.{react_of}
use Rattle.moves.specs.declared.Reaction.{Reaction}
use Rattle.moves.specs.Moves.{moves_of}
use Rattle.runs.specs.Automaton.{RunOf}
use Rattle.laws.specs.Journals.{JournalOf}
use Rattle.demands.specs.Runs.{KeepsHolds, KeepsTimer, InTime}

-- ---- Acceptance

-- The journal check accepts, and gives T as the end.
pub record Accepts (table journal : List ℕ) (T : ℕ) : Type 0 where
  pub numbers : Numbers
  pub answer : check_of table journal ≡ Ok numbers
  pub end_is : numbers.end ≡ T

-- What the bytes hold: a well-formed table; an opening input, then records in range, of which the last and no other is the end, at T.
pub record Holds (table journal : List ℕ) (t : Table) (input : ℕ) (records : List Record) (T : ℕ) : Type 0 where
  pub well_formed : WellFormed t
  pub table_is : table ≡ table_bytes t
  pub before_end : List Record
  pub journal_is : JournalOf t journal input before_end T
  pub records_are : records ≡ before_end ++ End T ∷ []

-- The journal is not too long, and its records are a run of the table's timed automaton ending at T: the report's, or with timers that
-- with their clocks.
pub record HoldsRun (table journal : List ℕ) (T : ℕ) : Type 0 where
  pub short : length journal ≤ longest_journal
  pub t : Table
  pub input : ℕ
  pub records : List Record
  pub holds : Holds table journal t input records T
  pub run : RunOf t input records T

-- Any bytes are accepted exactly when they hold such a run.
abbrev pub AcceptedIsRun : Type 0
AcceptedIsRun = (table journal : List ℕ) → Bytes table → Bytes journal → (T : ℕ) → Accepts table journal T ↔ HoldsRun table journal T

-- The most ticks left: no test of the journal's records has more, some test has it if there is one, and else it is 0. So many ticks after
-- a test as it has left the same machine's test would be free, and not before.
pub record LeftTold (table journal : List ℕ) (n : Numbers) : Type 0 where
  pub t : Table
  pub input : ℕ
  pub records : List Record
  pub holds : Holds table journal t input records n.end
  pub most : MostOf (after t) is_test (left t) (start t.initial input) records n.left
  pub until_free : (before : Machine) (time : ℕ) → Has (after t) is_test (left t) (start t.initial input) records before time → UntilFree t before time

abbrev pub LeftIsMost : Type 0
LeftIsMost = (table journal : List ℕ) → Bytes table → Bytes journal → (n : Numbers) → check_of table journal ≡ Ok n → LeftTold table journal n

-- The longest cycle: at most E; no completed cycle of the records is longer, some has that length if there was a tick, and else it is 0.
pub record LongestTold (table journal : List ℕ) (n : Numbers) : Type 0 where
  pub t : Table
  pub input : ℕ
  pub records : List Record
  pub holds : Holds table journal t input records n.end
  pub longest : LongestOf t records n.longest

abbrev pub LongestIsCycle : Type 0
LongestIsCycle = (table journal : List ℕ) → Bytes table → Bytes journal → (n : Numbers) → check_of table journal ≡ Ok n → LongestTold table journal n

-- ---- Demand 3

-- An accepted journal, with what its bytes and those of its table hold.
pub record AcceptedJournal (table journal : List ℕ) (t : Table) (input : ℕ) (records : List Record) (T : ℕ) : Type 0 where
  pub bytes : Bytes journal
  pub accepted : Accepts table journal T
  pub holds : Holds table journal t input records T

-- Not too soon, by the hold of the state ..
abbrev pub NotTooSoon : Type 0
NotTooSoon =
    (table journal : List ℕ) (t : Table) (input : ℕ) (records : List Record) (T : ℕ) → AcceptedJournal table journal t input records T →
    KeepsHolds t input records T

-- .. and by each timer k.
abbrev pub NotTooSoonBy : Type 0
NotTooSoonBy =
    (table journal : List ℕ) (t : Table) (input : ℕ) (records : List Record) (T : ℕ) → AcceptedJournal table journal t input records T →
    (k : ℕ) → k < t.timers → KeepsTimer t k input records T

-- Not too late, with every time and target that the calculator gives for P and A, for one move ..
abbrev pub NotTooLate : Type 0
NotTooLate =
    (table journal : List ℕ) (t : Table) (input : ℕ) (records : List Record) (T : ℕ) → AcceptedJournal table journal t input records T →
    (P A c target : ℕ) → react_of table P A ≡ Reacts c target → InTime t input records T P A c target

-- .. and for any number of moves, whatever room there is for sums and path.
abbrev pub NotTooLateByMoves : Type 0
NotTooLateByMoves =
    (table journal : List ℕ) (t : Table) (input : ℕ) (records : List Record) (T : ℕ) → AcceptedJournal table journal t input records T →
    (P A n sums path : ℕ) (r : Reaction) → moves_of table P A n sums path ≡ Ok r → InTime t input records T P A r.time r.target
