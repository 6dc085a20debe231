-- Tight reaction times in the slots of accepted journals, for any bytes; and three journals, two under the classroom's table and one under the
-- mixer's, which show that a tick less would be too short. Nothing is claimed of other tables: there a shorter time may be enough. proofs/Tight proves each.
use Rattle.std.specs.Prelude.{◌≡◌, List, [], ◌∷◌, ◌++◌, false, ℕ, zero, suc, ◌+◌, ◌-◌, ◌<◌, ◌≤◌}
use Rattle.sets.specs.Sets.{member}
use Rattle.table.specs.declared.Table.{Table}
use Rattle.table.specs.Entries.{zeros, padded}
use Rattle.table.specs.Encode.{table_bytes}
use Rattle.records.specs.declared.Record.{Record}
use Rattle.records.specs.declared.Record.TheVariants.{Change, Poll, Test, Tick, End}
use Rattle.runs.specs.Slots.{state_at}
use Rattle.tight.specs.Answer.{ReactsTight}
use Rattle.tight.specs.Tight.{react_tight_of}
use Rattle.tight.specs.Several.{tight_moves_of}
use Rattle.demands.specs.Runs.{StaysIn, InTime}
use Rattle.demands.specs.Demands.{AcceptedJournal}
use Rattle.demands.specs.Cases.{classroom, journal_bytes}

-- ---- Demand 3 with the tight time

-- The time c is enough: every accepted journal is in time with c and the target.
abbrev pub Enough : List ℕ → (P A target c : ℕ) → Type 0
Enough table P A target c =
    (journal : List ℕ) (t : Table) (input : ℕ) (records : List Record) (T : ℕ) → AcceptedJournal table journal t input records T →
    InTime t input records T P A c target

-- The tight time that the entry gives is: the second half of demand 3.
abbrev pub TightNotTooLate : Type 0
TightNotTooLate =
    (table : List ℕ) (P A time target tight : ℕ) → react_tight_of table P A ≡ ReactsTight time target tight → Enough table P A target tight

-- And so is the one over several moves.
abbrev pub TightNotTooLateByMoves : Type 0
TightNotTooLateByMoves =
    (table : List ℕ) (P A n time target tight : ℕ) → tight_moves_of table P A n ≡ ReactsTight time target tight → Enough table P A target tight

-- So is every longer one.
abbrev pub LongerIsEnough : Type 0
LongerIsEnough = (table : List ℕ) (P A target c longer : ℕ) → c ≤ longer → Enough table P A target c → Enough table P A target longer

-- ---- Least, for the classroom's table

-- What a journal of these records shows: it is accepted, the slots from s to s + c - 1 stay in P and A, and yet slot s + c has its state
-- outside the target.
pub record TooShort (table journal : List ℕ) (input : ℕ) (records : List Record) (P A target c : ℕ) : Type 0 where
  pub t : Table
  pub T : ℕ
  pub accepted : AcceptedJournal table journal t input records T
  pub s : ℕ
  pub ends_later : s + c < T
  pub stays_in : StaysIn t input records P A s c
  pub outside : member target (state_at t input records (s + c)) ≡ false

-- A time is enough; the journal shows that a tick less is too short, and so no shorter time is enough.
pub record IsLeast (table : List ℕ) (P A target tight : ℕ) (journal : List ℕ) (input : ℕ) (records : List Record) : Type 0 where
  pub enough : Enough table P A target tight
  pub shown : TooShort table journal input records P A target (tight - 1)
  pub least : (c : ℕ) → c < tight → Enough table P A target c → ⊥

-- It is the tight time that the entry gives, for one move ..
pub record Least (table : List ℕ) (P A time target tight : ℕ) (journal : List ℕ) (input : ℕ) (records : List Record) : Type 0 where
  pub answer : react_tight_of table P A ≡ ReactsTight time target tight
  pub is : IsLeast table P A target tight journal input records

-- .. or for several.
pub record LeastOver (table : List ℕ) (P A n time target tight : ℕ) (journal : List ℕ) (input : ℕ) (records : List Record) : Type 0 where
  pub answer : tight_moves_of table P A n ≡ ReactsTight time target tight
  pub is : IsLeast table P A target tight journal input records

-- Input 0 is present from 1 on, after input 1 was polled. State 1 is entered at 3, and its hold of 5 is not passed at 4, at 7 and at 8;
-- it is at 11, and the state is left at 13.
abbrev pub records_of_twelve : List Record
records_of_twelve =
    Poll 1 1 ∷ Test 1 1 ∷ Change 1 0 ∷ Tick 3 1 ∷ Poll 4 0 ∷ Test 4 0 ∷ Tick 6 1 ∷ Poll 7 0 ∷ Test 7 0 ∷ Tick 7 1 ∷
    Poll 8 0 ∷ Test 8 0 ∷ Tick 10 1 ∷ Poll 11 0 ∷ Test 11 1 ∷ Tick 13 0 ∷ End 13 ∷ []

-- With input 1 present at first, in bytes, as in examples/tight-times/twelve.
abbrev pub journal_of_twelve : List ℕ
journal_of_twelve =
    0x10 ∷ 0x00 ∷ 0x01 ∷ 0x01 ∷
    0x12 ∷ 0x00 ∷ 0x05 ∷ 0x00 ∷ 0x00 ∷ 0x00 ∷ 0x01 ∷ 0x01 ∷
    0x13 ∷ 0x00 ∷ 0x05 ∷ 0x00 ∷ 0x00 ∷ 0x00 ∷ 0x01 ∷ 0x01 ∷
    0x11 ∷ 0x00 ∷ 0x05 ∷ 0x00 ∷ 0x00 ∷ 0x00 ∷ 0x01 ∷ 0x00 ∷
    0x14 ∷ 0x00 ∷ 0x05 ∷ 0x00 ∷ 0x00 ∷ 0x00 ∷ 0x03 ∷ 0x01 ∷
    0x12 ∷ 0x00 ∷ 0x05 ∷ 0x00 ∷ 0x00 ∷ 0x00 ∷ 0x04 ∷ 0x00 ∷
    0x13 ∷ 0x00 ∷ 0x05 ∷ 0x00 ∷ 0x00 ∷ 0x00 ∷ 0x04 ∷ 0x00 ∷
    0x14 ∷ 0x00 ∷ 0x05 ∷ 0x00 ∷ 0x00 ∷ 0x00 ∷ 0x06 ∷ 0x01 ∷
    0x12 ∷ 0x00 ∷ 0x05 ∷ 0x00 ∷ 0x00 ∷ 0x00 ∷ 0x07 ∷ 0x00 ∷
    0x13 ∷ 0x00 ∷ 0x05 ∷ 0x00 ∷ 0x00 ∷ 0x00 ∷ 0x07 ∷ 0x00 ∷
    0x14 ∷ 0x00 ∷ 0x05 ∷ 0x00 ∷ 0x00 ∷ 0x00 ∷ 0x07 ∷ 0x01 ∷
    0x12 ∷ 0x00 ∷ 0x05 ∷ 0x00 ∷ 0x00 ∷ 0x00 ∷ 0x08 ∷ 0x00 ∷
    0x13 ∷ 0x00 ∷ 0x05 ∷ 0x00 ∷ 0x00 ∷ 0x00 ∷ 0x08 ∷ 0x00 ∷
    0x14 ∷ 0x00 ∷ 0x05 ∷ 0x00 ∷ 0x00 ∷ 0x00 ∷ 0x0A ∷ 0x01 ∷
    0x12 ∷ 0x00 ∷ 0x05 ∷ 0x00 ∷ 0x00 ∷ 0x00 ∷ 0x0B ∷ 0x00 ∷
    0x13 ∷ 0x00 ∷ 0x05 ∷ 0x00 ∷ 0x00 ∷ 0x00 ∷ 0x0B ∷ 0x01 ∷
    0x14 ∷ 0x00 ∷ 0x05 ∷ 0x00 ∷ 0x00 ∷ 0x00 ∷ 0x0D ∷ 0x00 ∷
    0x1F ∷ 0x00 ∷ 0x04 ∷ 0x00 ∷ 0x00 ∷ 0x00 ∷ 0x0D ∷ []

-- Input 1 is present from 1 on, after input 0 was polled; the next poll takes it up, and state 0 is left at 6.
abbrev pub records_of_five : List Record
records_of_five = Poll 1 0 ∷ Test 1 1 ∷ Change 1 1 ∷ Tick 3 0 ∷ Poll 4 1 ∷ Test 4 1 ∷ Tick 6 1 ∷ End 6 ∷ []

-- With input 0 present at first, in bytes, as in examples/tight-times/five.
abbrev pub journal_of_five : List ℕ
journal_of_five =
    0x10 ∷ 0x00 ∷ 0x01 ∷ 0x00 ∷
    0x12 ∷ 0x00 ∷ 0x05 ∷ 0x00 ∷ 0x00 ∷ 0x00 ∷ 0x01 ∷ 0x00 ∷
    0x13 ∷ 0x00 ∷ 0x05 ∷ 0x00 ∷ 0x00 ∷ 0x00 ∷ 0x01 ∷ 0x01 ∷
    0x11 ∷ 0x00 ∷ 0x05 ∷ 0x00 ∷ 0x00 ∷ 0x00 ∷ 0x01 ∷ 0x01 ∷
    0x14 ∷ 0x00 ∷ 0x05 ∷ 0x00 ∷ 0x00 ∷ 0x00 ∷ 0x03 ∷ 0x00 ∷
    0x12 ∷ 0x00 ∷ 0x05 ∷ 0x00 ∷ 0x00 ∷ 0x00 ∷ 0x04 ∷ 0x01 ∷
    0x13 ∷ 0x00 ∷ 0x05 ∷ 0x00 ∷ 0x00 ∷ 0x00 ∷ 0x04 ∷ 0x01 ∷
    0x14 ∷ 0x00 ∷ 0x05 ∷ 0x00 ∷ 0x00 ∷ 0x00 ∷ 0x06 ∷ 0x01 ∷
    0x1F ∷ 0x00 ∷ 0x04 ∷ 0x00 ∷ 0x00 ∷ 0x00 ∷ 0x06 ∷ []

-- P = {0,1} and A = {0}: 12 is least, and 11 too short. A = {1}: 5 is least, and 4 too short.
abbrev pub LeastTimes : Type 0
LeastTimes = Least classroom 3 1 14 1 12 journal_of_twelve 1 records_of_twelve × Least classroom 3 2 6 2 5 journal_of_five 0 records_of_five

-- ---- Least, for the mixer's table

abbrev pub mixer_table : Table
mixer_table = record {
  states = 5;
  inputs = 2;
  outputs = 5;
  initial = 0;
  bound = 2;
  output = padded 32 (0 ∷ 1 ∷ 2 ∷ 3 ∷ 4 ∷ []);
  next = padded 1024 (0 ∷ 1 ∷ 3 ∷ 2 ∷ 3 ∷ 2 ∷ 4 ∷ 4 ∷ 0 ∷ 1 ∷ []);
  hold = padded 32 (0 ∷ 0 ∷ 5 ∷ 30 ∷ 12 ∷ []);
  delayed = padded 32 (0 ∷ 0 ∷ 1 ∷ 3 ∷ 3 ∷ []);
  timers = 0;
  timing = zeros 8;
  sets = zeros 128;
}

-- So many cycles of two ticks from a time on, in each of which stop is polled and held.
abbrev pub held_cycles : (state from n : ℕ) → List Record
held_cycles state from zero = []
held_cycles state from (suc n) = Poll (from + 1) 0 ∷ Test (from + 1) 0 ∷ Tick (from + 2) state ∷ held_cycles state (from + 2) n

-- Stop is present from 2 on, after go was polled. Mixing is entered at 3, emptying at 11 and rinsing at 44; each is held up to the last tick
-- of its hold, in a cycle that began just before it, and idle is entered at 59.
abbrev pub records_of_mixer : List Record
records_of_mixer =
    Poll 1 1 ∷ Test 1 1 ∷ Tick 1 1 ∷ Poll 2 1 ∷ Test 2 1 ∷ Change 2 0 ∷ Tick 3 2 ∷ held_cycles 2 3 3
    ++ Poll 10 0 ∷ Test 10 1 ∷ Tick 11 3 ∷ Poll 12 0 ∷ Test 12 0 ∷ Tick 12 3 ∷ held_cycles 3 12 15
    ++ Poll 43 0 ∷ Test 43 1 ∷ Tick 44 4 ∷ Poll 45 0 ∷ Test 45 0 ∷ Tick 45 4 ∷ held_cycles 4 45 6
    ++ Poll 58 0 ∷ Test 58 1 ∷ Tick 59 0 ∷ []

-- From any state back to idle in three moves: 57 is least, and 56 too short. With go present at first.
abbrev pub LeastOverMoves : Type 0
LeastOverMoves = LeastOver (table_bytes mixer_table) 31 1 3 61 1 57 (journal_bytes 1 records_of_mixer 59) 1 (records_of_mixer ++ End 59 ∷ [])
