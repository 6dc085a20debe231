-- What the longest cycle means; proofs/Longest proves it.
use Rattle.std.specs.Prelude.{List, ℕ, ◌≤◌}
use Rattle.table.specs.declared.Table.{Table}
use Rattle.records.specs.declared.Record.{Record}
use Rattle.records.specs.Record.{is_tick}
use Rattle.machine.specs.declared.Machine.{Machine}
use Rattle.machine.specs.Machine.{start}
use Rattle.machine.specs.Most.{MostOf}
use Rattle.machine.specs.Run.{Runs, start_from, cycle_length}

-- It is at most E. No completed cycle is longer, some completed cycle has that length if there was a tick, and else it is 0.
pub record LongestOf (t : Table) (rs : List Record) (longest : ℕ) : Type 0 where
  pub in_bound : longest ≤ t.bound
  pub most : MostOf start_from is_tick cycle_length 0 rs longest

abbrev pub LongestOfRunIsCycle : Type 0
LongestOfRunIsCycle = (t : Table) (initial input : ℕ) (rs : List Record) (last : Machine) → Runs t (start initial input) rs last → LongestOf t rs last.longest
