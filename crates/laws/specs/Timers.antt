-- What holds of a table with holds that is turned into timers; proofs/Timers proves it.
use Rattle.std.specs.Prelude.{◌≡◌, List, ℕ, Ok}
use Rattle.table.specs.Check.{table_answer, table_in}
use Rattle.table.specs.Encode.{table_bytes}
use Rattle.machine.specs.AsTimers.{FewHolds, as_timers}
use Rattle.journal.specs.Check.{check_of}
use Rattle.runtime.specs.Run.{run_of}

-- The bytes of the table with a timer for each state that has a hold.
abbrev pub timers_for : List ℕ → List ℕ
timers_for table = table_bytes (as_timers (table_in table))

-- It passes, and every journal gets the same answer, with the same numbers, as under the table itself; so does every stimulus. The table
-- has from one to four states with a hold.
abbrev pub TimersForHolds : Type 0
TimersForHolds = (table : List ℕ) → table_answer table ≡ Ok tt → FewHolds (table_in table) →
    (table_answer (timers_for table) ≡ Ok tt)
    × ((s : List ℕ) → check_of (timers_for table) s ≡ check_of table s)
    × ((s : List ℕ) → run_of (timers_for table) s ≡ run_of table s)
