-- Slots, and demand 3 in slots: docs/RULES.md, "Slots" and "Not too soon, not too late".
use Rattle.std.specs.Prelude.{◌≡◌, ◌⊎◌, List, [], ◌∷◌, Bool, true, not, ℕ, ◌+◌, ◌<◌, ◌≤◌, if◌then◌else◌}
use Rattle.wire.specs.Choice.{◌≤?◌, ◌and◌}
use Rattle.table.specs.declared.Table.{Table}
use Rattle.table.specs.Table.{hold_of, delays, most_timers, length_of, in_region, timer_delays}
use Rattle.machine.specs.declared.Machine.{Machine}
use Rattle.records.specs.declared.Record.{Record}
use Rattle.records.specs.declared.Record.TheVariants.{Tick}
use Rattle.records.specs.Record.{time_of}
use Rattle.machine.specs.Machine.{start, entry_into, after}
use Rattle.machine.specs.Run.{state_from}
use Rattle.runs.specs.Accepted.{Accepted}

-- The machine after every record with time at most k.
unfoldable pub slot : Table → Machine → List Record → ℕ → Machine
slot t m [] k = m
slot t m (r ∷ rs) k = slot t (if time_of r ≤? k then after t m r else m) rs k

-- Slot k's input and state.
abbrev pub input_at : Table → ℕ → List Record → ℕ → ℕ
input_at t input rs k = (slot t (start t.initial input) rs k).input

abbrev pub state_at : Table → ℕ → List Record → ℕ → ℕ
state_at t input rs k = (slot t (start t.initial input) rs k).state

-- A tick at e makes q the state from another: its record names q, and the machine before it has another state.
abbrev pub Enters : Table → Machine → List Record → ℕ → ℕ → Type 0
Enters t m [] q e = ⊥
Enters t m (r ∷ rs) q e = ((r ≡ Tick e q) × (m.state ≡ q → ⊥)) ⊎ Enters t (after t m r) rs q e

-- q is entered at e; the initial state is entered at 0.
abbrev pub EnteredAt : Table → ℕ → List Record → ℕ → ℕ → Type 0
EnteredAt t input rs q e = ((q ≡ t.initial) × (e ≡ 0)) ⊎ Enters t (start t.initial input) rs q e

-- When the region of timer k was last entered, with a record more: one that leads from p, outside, to a state of the region enters it.
abbrev pub entry_from : Table → (k p last : ℕ) → Record → ℕ
entry_from t k p last r = if in_region t k (state_from p r) and not (in_region t k p) then time_of r else last

-- The same with every record up to time f, by what the records name alone.
unfoldable pub last_entry : Table → (k f p last : ℕ) → List Record → ℕ
last_entry t k f p last [] = last
last_entry t k f p last (r ∷ rs) = if time_of r ≤? f then last_entry t k f (state_from p r) (entry_from t k p last r) rs else last

-- The last entry up to time f; a region that has the initial state is entered at 0.
abbrev pub region_entry : Table → (k f : ℕ) → List Record → ℕ
region_entry t k f rs = last_entry t k f t.initial 0 rs

-- The machine of slot f has it.
abbrev pub KeepsEntries : Table → Type 0
KeepsEntries t =
    (input : ℕ) (rs : List Record) (T : ℕ) → Accepted t input rs T →
    (k f : ℕ) → k < most_timers → entry_into (slot t (start t.initial input) rs f).regions k ≡ region_entry t k f rs

-- q is entered at e, e ≤ k ≤ e + hold, k < T, and each slot from e to k - 1 has an input delayed in q. Then slot k has state q.
abbrev pub SlotsNotTooSoon : Table → Type 0
SlotsNotTooSoon t =
    (input : ℕ) (rs : List Record) (T : ℕ) → Accepted t input rs T →
    (q e k : ℕ) → EnteredAt t input rs q e → e ≤ k → k ≤ e + hold_of t q → k < T →
    ((j : ℕ) → e ≤ j → j < k → delays t q (input_at t input rs j) ≡ true) →
    state_at t input rs k ≡ q

-- For timer k: q of its region is entered at f, the region's last entry up to f is at e, f ≤ n ≤ e + length, n < T, and each slot from f
-- to n - 1 has an input that the timer delays in q. Then slot n has state q.
abbrev pub SlotsNotTooSoonBy : Table → (k : ℕ) → Type 0
SlotsNotTooSoonBy t k =
    (input : ℕ) (rs : List Record) (T : ℕ) → Accepted t input rs T →
    (q f e n : ℕ) → in_region t k q ≡ true → EnteredAt t input rs q f → region_entry t k f rs ≡ e → f ≤ n → n ≤ e + length_of t k → n < T →
    ((j : ℕ) → f ≤ j → j < n → timer_delays t k q (input_at t input rs j) ≡ true) →
    state_at t input rs n ≡ q

-- s + c < T, and each slot from s to s + c - 1 has its state in P and its input in A. Then slot s + c has its state in N.
abbrev pub SlotsNotTooLate : Table → (ℕ → Bool) → (ℕ → Bool) → (ℕ → Bool) → ℕ → Type 0
SlotsNotTooLate t P A N c =
    (input : ℕ) (rs : List Record) (T : ℕ) → Accepted t input rs T →
    (s : ℕ) → s + c < T →
    ((k : ℕ) → s ≤ k → k < s + c → (P (state_at t input rs k) ≡ true) × (A (input_at t input rs k) ≡ true)) →
    N (state_at t input rs (s + c)) ≡ true
