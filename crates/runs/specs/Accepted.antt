-- A journal that is accepted, without its bytes: its records, and the machine that takes them.
use Rattle.std.specs.Prelude.{◌≡◌, List, ℕ}
use Rattle.table.specs.declared.Table.{Table}
use Rattle.machine.specs.declared.Machine.{Machine}
use Rattle.records.specs.declared.Record.{Record}
use Rattle.machine.specs.Machine.{start}
use Rattle.machine.specs.Run.{Runs}

-- From time 0, with this input present, the machine takes every record; the last is at T.
pub record Accepted (t : Table) (input : ℕ) (rs : List Record) (T : ℕ) : Type 0 where
  pub last : Machine
  pub runs : Runs t (start t.initial input) rs last
  pub ends : last.time ≡ T
