-- A table with holds, turned into timers whose regions have one state each; proofs/AsTimers proves that it judges everything alike.
use Rattle.std.specs.Prelude.{◌≡◌, List, [], ◌∷◌, ◌++◌, ℕ, zero, suc, ◌+◌, ◌*◌, ◌/◌, ◌%◌, ◌^◌, ◌<◌, ◌≤◌, length, get_or, if◌then◌else◌}
use Rattle.wire.specs.Choice.{◌<?◌, ◌=?◌}
use Rattle.table.specs.declared.Table.{Table}
use Rattle.table.specs.Table.{most_timers, hold_of, delayed_of, timed_with, in_region, WellFormed}
use Rattle.table.specs.Entries.{filled_to, zeros}
use Rattle.records.specs.declared.Record.{Record}
use Rattle.records.specs.declared.Refusal.{Refusal}
use Rattle.records.specs.Form.{Form}
use Rattle.machine.specs.declared.Machine.{Machine}
use Rattle.machine.specs.Becomes.{◌regions_becomes◌}
use Rattle.machine.specs.Machine.{start, entry_into}
use Rattle.machine.specs.Run.{most_left}
use Rattle.machine.specs.Walk.{RunOverBytes, ran, too_long, refused, run_over}

-- Those of the states q, q + 1, .., q + n - 1 that have a hold.
unfoldable pub holding_from : Table → (n q : ℕ) → List ℕ
holding_from t zero q = []
holding_from t (suc n) q = (if 0 <? hold_of t q then q ∷ [] else []) ++ holding_from t n (q + 1)

-- The states with a hold, in order. Each gets a timer.
abbrev pub holding : Table → List ℕ
holding t = holding_from t t.states 0

-- The state that timer k stands for.
abbrev pub state_of : Table → ℕ → ℕ
state_of t k = get_or (holding t) k 0

-- A timer's row: the hold of its state as length, and that state alone as region.
abbrev pub timer_row : Table → (k place : ℕ) → ℕ
timer_row t k zero = hold_of t (state_of t k)
timer_row t k (suc place) = 2 ^ state_of t k

-- A state's row: what each timer delays there.
abbrev pub set_row : Table → (q k : ℕ) → ℕ
set_row t q k = if state_of t k =? q then delayed_of t q else 0

-- Rows of n places, one after another.
abbrev pub in_rows : ℕ → (ℕ → ℕ → ℕ) → ℕ → ℕ
in_rows n row place = row (place / n) (place % n)

-- The same table with timers instead of holds.
unfoldable pub as_timers : Table → Table
as_timers t =
    let n = length (holding t) in
    timed_with t (zeros 32) (zeros 32) n (filled_to (in_rows 2 (timer_row t)) (2 * n) (zeros 8)) (filled_to (in_rows n (set_row t)) (t.states * n) (zeros 128))

-- ---- The same run

-- Of two machines only the regions may differ. Where the present state has a timer, its region was entered when the state was.
pub record Alike (t : Table) (m' m : Machine) : Type 0 where
  pub same : m' ≡ (m regions_becomes m'.regions)
  pub since : (k : ℕ) → k < length (holding t) → state_of t k ≡ m.state → entry_into m'.regions k ≡ m.entry

-- Both took the same records, and the last machines are alike; both are too long; or both refuse alike.
pub data SameOverBytes (t : Table) : RunOverBytes → RunOverBytes → Type 0 where
  both_ran : {input : ℕ} {taken : List Record} {last' last : Machine} → Alike t last' last → SameOverBytes t (ran input taken last') (ran input taken last)
  both_too_long : SameOverBytes t too_long too_long
  both_refused : {refusal : Refusal} {place : ℕ} → SameOverBytes t (refused refusal place) (refused refusal place)

-- A table with holds, of which there are from one to four.
pub record FewHolds (t : Table) : Type 0 where
  pub no_timers : t.timers ≡ 0
  pub at_least_one : 1 ≤ length (holding t)
  pub at_most_four : length (holding t) ≤ most_timers

-- What it is turned into is a table with timers, whose regions have one state each, and has the same runs in every form, with the same
-- most ticks left.
pub record JudgesAlike (t : Table) : Type 0 where
  pub well_formed : WellFormed (as_timers t)
  pub has_timers : 1 ≤ (as_timers t).timers
  pub one_state : (k q : ℕ) → k < length (holding t) → in_region (as_timers t) k q ≡ (q =? state_of t k)
  pub run_same : (F : Form) (s : List ℕ) → SameOverBytes t (run_over F (as_timers t) s) (run_over F t s)
  pub left_same : (input : ℕ) (rs : List Record) → most_left (as_timers t) (start t.initial input) rs ≡ most_left t (start t.initial input) rs

abbrev pub AsTimersJudgeAlike : Type 0
AsTimersJudgeAlike = (t : Table) → WellFormed t → FewHolds t → JudgesAlike t
