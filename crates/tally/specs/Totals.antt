-- What the numbers of a tally sum to, and how large they are, for a journal that was accepted; proofs/Totals proves each.
use Rattle.std.specs.Prelude.{◌≡◌, ℕ, ◌+◌, ◌*◌, ◌<◌, ◌≤◌, true, List, [], ◌∷◌, slice_index}
use Rattle.table.specs.declared.Table.{Table}
use Rattle.table.specs.Table.{WellFormed}
use Rattle.table.specs.Entries.{total}
use Rattle.records.specs.declared.Record.{Record}
use Rattle.records.specs.Record.{latest}
use Rattle.records.specs.Form.{journal}
use Rattle.machine.specs.Run.{moves_from}
use Rattle.machine.specs.Walk.{in_table}
use Rattle.runs.specs.Accepted.{Accepted}
use Rattle.tally.specs.Tally.{dwell_in, slots_with, entries_into, tally_of}

-- The numbers of each record are the table's.
abbrev pub InTable : Table → List Record → Type 0
InTable t [] = Unit
InTable t (r ∷ rs) = (in_table journal t r ≡ true) × InTable t rs

-- A journal that was accepted, without its bytes: its input and its records are of the table, and the machine takes them up to T.
pub record AcceptedRecords (t : Table) (input : ℕ) (rs : List Record) (T : ℕ) : Type 0 where
  pub well_formed : WellFormed t
  pub opens : input < t.inputs
  pub in_the_table : InTable t rs
  pub accepted : Accepted t input rs T

-- Over all states the slots are all T.
abbrev pub DwellSumsToEnd : Type 0
DwellSumsToEnd = (t : Table) (input : ℕ) (rs : List Record) (T : ℕ) → AcceptedRecords t input rs T →
    total (dwell_in t input rs T) t.states ≡ T

-- Over all inputs the slots of a state are its dwell.
abbrev pub PairsSumToDwell : Type 0
PairsSumToDwell = (t : Table) (input : ℕ) (rs : List Record) (T : ℕ) → AcceptedRecords t input rs T →
    (q : ℕ) → total (slots_with t input rs T q) t.inputs ≡ dwell_in t input rs T q

-- Over all states the entries are the moves, and the one at 0.
abbrev pub EntriesSumToMoves : Type 0
EntriesSumToMoves = (t : Table) (input : ℕ) (rs : List Record) (T : ℕ) → AcceptedRecords t input rs T →
    total (entries_into t rs) t.states ≡ moves_from t.initial rs + 1

-- No number is above T + 1, and T is at most 2,000,000,000: a thousand journals stay far below 2^64.
abbrev pub TallyIsSmall : Type 0
TallyIsSmall = (t : Table) (input : ℕ) (rs : List Record) (T : ℕ) → AcceptedRecords t input rs T → (k : ℕ) →
    (slice_index (tally_of t input rs T).dwell k ≤ T) × (slice_index (tally_of t input rs T).pairs k ≤ T) × (slice_index (tally_of t input rs T).entries k ≤ T + 1) ×
    (T ≤ latest)

-- Where each number of the tally stands.
abbrev pub PlacesOfTally : Type 0
PlacesOfTally = (t : Table) → WellFormed t → (input : ℕ) (rs : List Record) (T q : ℕ) → q < t.states →
    (slice_index (tally_of t input rs T).dwell q ≡ dwell_in t input rs T q)
    × ((a : ℕ) → a < t.inputs → slice_index (tally_of t input rs T).pairs (q * t.inputs + a) ≡ slots_with t input rs T q a)
    × (slice_index (tally_of t input rs T).entries q ≡ entries_into t rs q)

-- And what the table does not have is 0.
abbrev pub RestIsZero : Type 0
RestIsZero = (t : Table) (input : ℕ) (rs : List Record) (T : ℕ) → AcceptedRecords t input rs T → (k : ℕ) →
    (t.states ≤ k → slice_index (tally_of t input rs T).dwell k ≡ 0)
    × (t.states * t.inputs ≤ k → slice_index (tally_of t input rs T).pairs k ≡ 0)
    × (t.states ≤ k → slice_index (tally_of t input rs T).entries k ≡ 0)
