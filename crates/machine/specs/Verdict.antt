-- The verdict of a test, in three rules: docs/RULES.md, "The verdict". The report has them as ta-3, ta-4 and ta-5
-- (crates/runs/specs/Automaton.antt).
use Rattle.std.specs.Prelude.{◌≡◌, ◌↔◌, Bool, true, not, List, [], ◌∷◌, ℕ, ◌+◌, ◌-◌, max, if◌then◌else◌}
use Rattle.wire.specs.Choice.{◌<?◌, ◌≤?◌, ◌=?◌, ◌and◌, ◌or◌}
use Rattle.table.specs.Table.{member}
use Rattle.machine.specs.declared.Rule.{Rule}
use Rattle.machine.specs.declared.Rule.TheVariants.{Running, Passed, NoHold}

-- The state's hold and delayed set, the polled input, the entry into the state, the time of the test.
module _ (hold delayed polled entry time : ℕ) where
  -- Hold running: there is a hold, the polled input is delayed, and the time since the entry is at most the hold.
  abbrev pub hold_running : Bool
  hold_running = (0 <? hold) and member delayed polled and (time - entry ≤? hold)

  -- Hold passed: there is a hold, the polled input is delayed, and the time since the entry is above the hold.
  abbrev pub hold_passed : Bool
  hold_passed = (0 <? hold) and member delayed polled and (hold <? time - entry)

  -- No hold, or an input that is not delayed.
  abbrev pub no_hold : Bool
  no_hold = (hold =? 0) or not (member delayed polled)

  unfoldable pub rule_by : Rule
  rule_by = if hold_running then Running else if hold_passed then Passed else NoHold

  -- Exactly one of the three holds, the one that is told.
  abbrev pub ExactlyOne : Type 0
  ExactlyOne = (hold_running ≡ true ↔ rule_by ≡ Running) × (hold_passed ≡ true ↔ rule_by ≡ Passed) × (no_hold ≡ true ↔ rule_by ≡ NoHold)

-- 0 held, 1 free.
abbrev pub verdict_by : Rule → ℕ
verdict_by Running = 0
verdict_by Passed = 1
verdict_by NoHold = 1

-- The ticks left until the hold is passed, while it is running; else 0.
abbrev pub left_by : (hold entry time : ℕ) → Rule → ℕ
left_by hold entry time Running = hold - (time - entry) + 1
left_by hold entry time Passed = 0
left_by hold entry time NoHold = 0

-- ---- Over all that may hold

-- What may hold a polled input: the state's own hold, or a timer. How long it holds, which inputs it delays in the state, and since when.
pub record Watch : Type 0 where
  pub hold : ℕ
  pub delayed : ℕ
  pub since : ℕ

abbrev pub rule_of : ℕ → ℕ → Watch → Rule
rule_of polled time w = rule_by w.hold w.delayed polled w.since time

abbrev pub left_of : ℕ → ℕ → Watch → ℕ
left_of polled time w = left_by w.hold w.since time (rule_of polled time w)

-- Running if one of them is running; passed if none is running and one is passed; else no hold.
abbrev pub stronger : Rule → Rule → Rule
stronger Running other = Running
stronger Passed Running = Running
stronger Passed Passed = Passed
stronger Passed NoHold = Passed
stronger NoHold other = other

unfoldable pub strongest : (Watch → Rule) → List Watch → Rule
strongest by [] = NoHold
strongest by (w ∷ ws) = stronger (by w) (strongest by ws)

unfoldable pub largest_over : (Watch → ℕ) → List Watch → ℕ
largest_over by [] = 0
largest_over by (w ∷ ws) = max (by w) (largest_over by ws)
