-- Where the time of a journal went: docs/RULES.md, "Where the time went". Slots are counted from 0 to T - 1, entries over all records.
use Rattle.std.specs.Prelude.{ℕ, zero, suc, ◌+◌, ◌/◌, ◌%◌, Bool, not, List, [], ◌∷◌, if◌then◌else◌}
use Rattle.wire.specs.Choice.{◌=?◌, ◌and◌}
use Rattle.table.specs.declared.Table.{Table}
use Rattle.table.specs.Entries.{values, zeros}
use Rattle.records.specs.declared.Record.{Record}
use Rattle.machine.specs.Run.{state_from}
use Rattle.machine.specs.Walk.{RunOverBytes, ran, too_long, refused}
use Rattle.runs.specs.Slots.{state_at, input_at}
use Rattle.tally.specs.declared.Tally.{Tally}

-- How many of the slots 0 to T - 1 pass the test.
unfoldable pub slots_before : (T : ℕ) → (ℕ → Bool) → ℕ
slots_before zero passes = 0
slots_before (suc k) passes = slots_before k passes + (if passes k then 1 else 0)

-- The slots with state q, and those with input a besides.
module _ (t : Table) (input : ℕ) (rs : List Record) (T : ℕ) where
  unfoldable pub dwell_in : (q : ℕ) → ℕ
  dwell_in q = slots_before T (λ k. state_at t input rs k =? q)

  unfoldable pub slots_with : (q a : ℕ) → ℕ
  slots_with q a = slots_before T (λ k. (state_at t input rs k =? q) and (input_at t input rs k =? a))

-- The records that lead to q from another state, where p is the state before them.
unfoldable pub moves_into : (q p : ℕ) → List Record → ℕ
moves_into q p [] = 0
moves_into q p (r ∷ rs) = (if (state_from p r =? q) and not (p =? q) then 1 else 0) + moves_into q (state_from p r) rs

-- The entry of the initial state at 0 is the first.
unfoldable pub entries_into : Table → List Record → (q : ℕ) → ℕ
entries_into t rs q = (if t.initial =? q then 1 else 0) + moves_into q t.initial rs

-- All of them. The pairs stand in rows by state, as the table's next states do.
unfoldable pub tally_of : Table → (input : ℕ) → List Record → (T : ℕ) → Tally
tally_of t input rs T = record {
  dwell = values (dwell_in t input rs T) 32;
  pairs = values (λ k. slots_with t input rs T (k / t.inputs) (k % t.inputs)) 1024;
  entries = values (entries_into t rs) 32;
}

-- Nothing was counted.
abbrev pub no_tally : Tally
no_tally = record { dwell = zeros 32; pairs = zeros 1024; entries = zeros 32 }

-- Of a run over bytes, which ends at the time of its last record.
unfoldable pub tally_in : Table → RunOverBytes → Tally
tally_in t (ran input taken last) = tally_of t input taken last.time
tally_in t too_long = no_tally
tally_in t (refused refusal place) = no_tally
