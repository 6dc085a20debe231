-- The timed automaton of report CSI-R9813 (section 3 with Table 1, appendix A), with time in whole ticks. In a table with timers a test
-- looks at the clocks of the generalisation (section 4; docs/RULES.md, "Sources") in place of the report's, one for each timer.
-- Where docs/RULES.md, "The machine", differs from the report it decides; each such place is noted.
use Rattle.std.specs.Prelude.{◌≡◌, ◌⊎◌, ◌↔◌, List, [], ◌∷◌, true, false, not, ℕ, zero, suc, ◌+◌, ◌-◌, ◌<◌, ◌≤◌, if◌then◌else◌}
use Rattle.wire.specs.Choice.{◌and◌}
use Rattle.table.specs.declared.Table.{Table}
use Rattle.table.specs.Table.{hold_of, delays, next_of, length_of, in_region, timer_delays, WellFormed}
use Rattle.records.specs.declared.Record.{Record}
use Rattle.records.specs.declared.Record.TheVariants.{Change, Poll, Test, Tick, End}
use Rattle.records.specs.Record.{time_of}
use Rattle.machine.specs.declared.Machine.{Machine}
use Rattle.machine.specs.declared.Rule.TheVariants.{Running, Passed, NoHold}
use Rattle.machine.specs.Machine.{entry_into, rule}
use Rattle.runs.specs.Accepted.{Accepted}

-- ---- The clocks y, which a test looks at

pub record Clocks : Type 1 where
  -- What they show, and what at first.
  pub Y : Type 0
  pub zero : Y
  -- d ticks later.
  pub pass : (d : ℕ) → Y → Y
  -- After a tick that leads from q to another state p.
  pub move : (q p : ℕ) → Y → Y
  -- When each of the three edges of a test is open, which polled b in state q.
  pub Open-3 : (b q : ℕ) → Y → Type 0
  pub Open-4 : (b q : ℕ) → Y → Type 0
  pub Open-5 : (b q : ℕ) → Y → Type 0

-- The report's one: y since the entry into the state. It has y < hold in ta-3, and y ≥ hold in ta-4. Here the hold ends when it is passed.
abbrev pub hold_clocks : Table → Clocks
hold_clocks t = record {
  Y = ℕ;
  zero = 0;
  pass = λ d y. y + d;
  move = λ q p y. 0;
  Open-3 = λ b q y. (y ≤ hold_of t q) × (0 < hold_of t q) × (delays t q b ≡ true);
  Open-4 = λ b q y. (hold_of t q < y) × (0 < hold_of t q) × (delays t q b ≡ true);
  Open-5 = λ b q y. (hold_of t q ≡ 0) ⊎ (delays t q b ≡ false);
}

-- The region of timer k has q, and there the timer delays b.
abbrev pub Delaying : Table → (k b q : ℕ) → Type 0
Delaying t k b q = (k < t.timers) × (in_region t k q ≡ true) × (timer_delays t k q b ≡ true)

-- The generalisation's: y k since the last tick that led into the region of timer k from outside. There a test notes which timers run, and
-- a timer ends when it is reached. Here it ends when it is passed, and the report's edges tell of the timers that delay b: one still runs;
-- there are some, and each is passed; there is none.
abbrev pub timer_clocks : Table → Clocks
timer_clocks t = record {
  Y = ℕ → ℕ;
  zero = λ k. 0;
  pass = λ d y k. y k + d;
  move = λ q p y k. if in_region t k p and not (in_region t k q) then 0 else y k;
  Open-3 = λ b q y. (k : ℕ) × Delaying t k b q × (y k ≤ length_of t k);
  Open-4 = λ b q y. ((k : ℕ) × Delaying t k b q) × ((k : ℕ) → Delaying t k b q → length_of t k < y k);
  Open-5 = λ b q y. (k : ℕ) → Delaying t k b q → ⊥;
}

-- A table with timers has their clocks, and one without the report's.
abbrev pub clocks_by : (timers : ℕ) → Table → Clocks
clocks_by zero t = hold_clocks t
clocks_by (suc more) t = timer_clocks t

abbrev pub clocks_of : Table → Clocks
clocks_of t = clocks_by t.timers t

-- ---- The automaton

-- A location (i, a, b, q), which is the phase, the present input, the polled input and the state; and the clocks: x since the last
-- change, y of the test, z since the cycle start.
pub data Configuration (C : Clocks) : Type 0 where
  at : (i a b q x : ℕ) (y : C.Y) (z : ℕ) → Configuration C

-- At first every clock is 0. The report leaves b open; here it is the given input too.
abbrev pub initially : (C : Clocks) → Table → ℕ → Configuration C
initially C t input = at 0 input input t.initial 0 C.zero 0

-- d ticks later.
abbrev pub later : {C : Clocks} → ℕ → Configuration C → Configuration C
later {C} d (at i a b q x y z) = at i a b q (x + d) (C.pass d y) (z + d)

-- The invariant of every location: z ≤ E.
abbrev pub Invariant : {C : Clocks} → Table → Configuration C → Type 0
Invariant t (at i a b q x y z) = z ≤ t.bound

-- Table 1. The label of an edge is a record, which names the polled input, the verdict or the state afterwards too.
pub data Edge (C : Clocks) (t : Table) : Configuration C → Record → Configuration C → Type 0 where
  ta_1 : {i a b q x z c time : ℕ} {y : C.Y} → (c ≡ a → ⊥) → Edge C t (at i a b q x y z) (Change time c) (at i c b q 0 y z)
  -- No edge of the report's. A card may repeat its reading; that x is reset only when the input changes is the rule of the generalised
  -- automata (docs/RULES.md, "Sources").
  repeat : {i a b q x z time : ℕ} {y : C.Y} → Edge C t (at i a b q x y z) (Change time a) (at i a b q x y z)
  ta_2 : {a b q x z time : ℕ} {y : C.Y} → 0 < x → 0 < z → Edge C t (at 0 a b q x y z) (Poll time a) (at 1 a a q x y z)
  ta_3 : {a b q x z time : ℕ} {y : C.Y} → C.Open-3 b q y → Edge C t (at 1 a b q x y z) (Test time 0) (at 2 a b q x y z)
  ta_4 : {a b q x z time : ℕ} {y : C.Y} → C.Open-4 b q y → Edge C t (at 1 a b q x y z) (Test time 1) (at 3 a b q x y z)
  ta_5 : {a b q x z time : ℕ} {y : C.Y} → C.Open-5 b q y → Edge C t (at 1 a b q x y z) (Test time 1) (at 3 a b q x y z)
  ta_6 : {a b q x z time : ℕ} {y : C.Y} → Edge C t (at 2 a b q x y z) (Tick time q) (at 0 a b q x y 0)
  ta_7 : {a b q x z time : ℕ} {y : C.Y} → next_of t q b ≡ q → Edge C t (at 3 a b q x y z) (Tick time q) (at 0 a b q x y 0)
  ta_8 : {a b q x z p time : ℕ} {y : C.Y} → next_of t q b ≡ p → (p ≡ q → ⊥) →
      Edge C t (at 3 a b q x y z) (Tick time p) (at 0 a b p x (C.move q p y) 0)
  -- The report's runs never end. Here the end may come in every location.
  end : {i a b q x z time : ℕ} {y : C.Y} → Edge C t (at i a b q x y z) (End time) (at i a b q x y z)

-- From c at time `now`: ticks pass until the record's time, the invariant holds to their end, and an edge leads to c'.
pub record Transition (C : Clocks) (t : Table) (now : ℕ) (c : Configuration C) (r : Record) (c' : Configuration C) : Type 0 where
  pub ticks : ℕ
  pub time : time_of r ≡ now + ticks
  pub invariant : Invariant t (later ticks c)
  pub edge : Edge C t (later ticks c) r c'

-- A run from c at time `now`, ending at T.
abbrev pub Run : (C : Clocks) → Table → ℕ → Configuration C → List Record → ℕ → Type 0
Run C t now c [] T = now ≡ T
Run C t now c (r ∷ rs) T = (c' : Configuration C) × Transition C t now c r c' × Run C t (time_of r) c' rs T

-- A run of the table's automaton, from time 0 with this input present.
abbrev pub RunOf : Table → (input : ℕ) → List Record → ℕ → Type 0
RunOf t input rs T = Run (clocks_of t) t 0 (initially (clocks_of t) t input) rs T

-- ---- Beside the machine

-- Its three rules for a test are the three edges: where the clocks show y, it goes by each exactly when its edge is open.
module _ (C : Clocks) (t : Table) (m : Machine) (now : ℕ) (y : C.Y) where
  abbrev pub RunningIsTa3 : Type 0
  RunningIsTa3 = rule t m now ≡ Running ↔ C.Open-3 m.polled m.state y

  abbrev pub PassedIsTa4 : Type 0
  PassedIsTa4 = rule t m now ≡ Passed ↔ C.Open-4 m.polled m.state y

  abbrev pub NoHoldIsTa5 : Type 0
  NoHoldIsTa5 = rule t m now ≡ NoHold ↔ C.Open-5 m.polled m.state y

  abbrev pub RulesAreEdges : Type 0
  RulesAreEdges = RunningIsTa3 × PassedIsTa4 × NoHoldIsTa5

-- Without timers y is the time since the entry into the state; with timers y k is the time since the entry into the region of timer k.
abbrev pub HoldRules : Type 0
HoldRules = (t : Table) → WellFormed t → t.timers ≡ 0 → (m : Machine) (now : ℕ) → RulesAreEdges (hold_clocks t) t m now (now - m.entry)

abbrev pub TimerRules : Type 0
TimerRules =
    (t : Table) → WellFormed t → (t.timers ≡ 0 → ⊥) → (m : Machine) (now : ℕ) →
    RulesAreEdges (timer_clocks t) t m now (λ k. now - entry_into m.regions k)

-- The machine accepts exactly the automaton's runs.
abbrev pub MachineIsAutomaton : Type 0
MachineIsAutomaton = (t : Table) → WellFormed t → (input : ℕ) (rs : List Record) (T : ℕ) → Accepted t input rs T ↔ RunOf t input rs T
