-- What a table says, and which tables are well formed: docs/RULES.md, "Bytes".
use Rattle.std.specs.Prelude.{◌≡◌, List, Bool, true, false, ℕ, ◌+◌, ◌*◌, ◌<◌, ◌≤◌, length, get_or, if◌then◌else◌}
use Rattle.wire.specs.Choice.{◌=?◌}
pub use Rattle.sets.specs.Sets.{member}
use Rattle.table.specs.declared.Table.{Table}

-- The largest cycle bound E, and the longest hold, which is a timer's greatest length too.
abbrev pub largest_bound : ℕ
largest_bound = 60000

abbrev pub longest_hold : ℕ
longest_hold = 3600000

abbrev pub output_of : Table → ℕ → ℕ
output_of t q = get_or t.output q 0

abbrev pub next_of : Table → ℕ → ℕ → ℕ
next_of t q i = get_or t.next (q * t.inputs + i) 0

abbrev pub hold_of : Table → ℕ → ℕ
hold_of t q = get_or t.hold q 0

abbrev pub delayed_of : Table → ℕ → ℕ
delayed_of t q = get_or t.delayed q 0

-- A table has holds, or from one to four timers.
abbrev pub most_timers : ℕ
most_timers = 4

-- Input i is delayed in state q.
abbrev pub delays : Table → ℕ → ℕ → Bool
delays t q i = member (delayed_of t q) i

-- Timer k: its length, the set of states that is its region, and the set of inputs that it delays in state q.
abbrev pub length_of : Table → ℕ → ℕ
length_of t k = get_or t.timing (2 * k) 0

abbrev pub region_of : Table → ℕ → ℕ
region_of t k = get_or t.timing (2 * k + 1) 0

abbrev pub timer_set_of : Table → ℕ → ℕ → ℕ
timer_set_of t k q = get_or t.sets (q * t.timers + k) 0

-- The region of timer k has state q, and there the timer delays input i.
abbrev pub in_region : Table → ℕ → ℕ → Bool
in_region t k q = member (region_of t k) q

abbrev pub timer_delays : Table → ℕ → ℕ → ℕ → Bool
timer_delays t k q i = member (timer_set_of t k q) i

-- The table with other holds, or with other timers.
abbrev pub timed_with : Table → (hold delayed : List ℕ) → (timers : ℕ) → (timing sets : List ℕ) → Table
timed_with t hold delayed timers timing sets = record {
  states = t.states;
  inputs = t.inputs;
  outputs = t.outputs;
  initial = t.initial;
  bound = t.bound;
  output = t.output;
  next = t.next;
  hold = hold;
  delayed = delayed;
  timers = timers;
  timing = timing;
  sets = sets;
}

-- How many states have a hold of their own: all, or, with timers, none.
abbrev pub holders : Table → ℕ
holders t = if t.timers =? 0 then t.states else 0

-- An array of `size` places of which n are used; the rest are 0.
pub record Uses (n size : ℕ) (array : List ℕ) : Type 0 where
  pub places : length array ≡ size
  pub rest : (k : ℕ) → n ≤ k → get_or array k 0 ≡ 0

-- By the old rules there are no timers, and a set may stand where there is no hold.
pub record WellFormedBy (old : Bool) (t : Table) : Type 0 where
  pub states : (1 ≤ t.states) × (t.states ≤ 32)
  pub inputs : (1 ≤ t.inputs) × (t.inputs ≤ 32)
  pub outputs : (1 ≤ t.outputs) × (t.outputs ≤ 32)
  pub initial : t.initial < t.states
  pub bound : (1 ≤ t.bound) × (t.bound ≤ largest_bound)
  pub output : (q : ℕ) → q < t.states → output_of t q < t.outputs
  pub next : (q i : ℕ) → q < t.states → i < t.inputs → next_of t q i < t.states
  pub hold : (q : ℕ) → q < t.states → hold_of t q ≤ longest_hold
  pub delayed : (q i : ℕ) → q < t.states → delays t q i ≡ true → i < t.inputs
  pub not_idle : old ≡ false → (q : ℕ) → q < t.states → hold_of t q ≡ 0 → delayed_of t q ≡ 0
  pub timers : t.timers ≤ most_timers
  pub no_timers : old ≡ true → t.timers ≡ 0
  pub length : (k : ℕ) → k < t.timers → (1 ≤ length_of t k) × (length_of t k ≤ longest_hold)
  pub region : (k q : ℕ) → k < t.timers → in_region t k q ≡ true → q < t.states
  pub sets : (k q i : ℕ) → k < t.timers → q < t.states → timer_delays t k q i ≡ true → i < t.inputs
  pub output_uses : Uses t.states 32 t.output
  pub next_uses : Uses (t.states * t.inputs) 1024 t.next
  pub hold_uses : Uses (holders t) 32 t.hold
  pub delayed_uses : Uses (holders t) 32 t.delayed
  pub timing_uses : Uses (2 * t.timers) 8 t.timing
  pub sets_uses : Uses (t.states * t.timers) 128 t.sets

abbrev pub WellFormed : Table → Type 0
WellFormed = WellFormedBy false
