-- What the ticks left mean; proofs/Left proves each.
use Rattle.std.specs.Prelude.{◌≡◌, List, ◌↔◌, ℕ, ◌+◌, ◌<◌}
use Rattle.table.specs.declared.Table.{Table}
use Rattle.records.specs.declared.Record.{Record}
use Rattle.records.specs.Record.{is_test}
use Rattle.machine.specs.declared.Machine.{Machine}
use Rattle.machine.specs.Machine.{start, verdict, left, after}
use Rattle.machine.specs.Most.{Has, MostOf}
use Rattle.machine.specs.Run.{Runs, most_left}

-- Held exactly when some are left.
abbrev pub HeldIsLeft : Type 0
HeldIsLeft = (t : Table) (m : Machine) (time : ℕ) → (verdict t m time ≡ 0) ↔ (0 < left t m time)

-- So many ticks later the same machine's test is free, and at any time before that it is held.
abbrev pub UntilFree : Table → Machine → ℕ → Type 0
UntilFree t m time = (verdict t m (time + left t m time) ≡ 1) × ((d : ℕ) → d < left t m time → verdict t m (time + d) ≡ 0)

-- So it is at each test of a run, by the machine before it.
abbrev pub LeftUntilFree : Type 0
LeftUntilFree = (t : Table) (initial input : ℕ) (rs : List Record) (last : Machine) → Runs t (start initial input) rs last →
    (before : Machine) (time : ℕ) → Has (after t) is_test (left t) (start initial input) rs before time → UntilFree t before time

-- Over a run no test has more than `most_left`, some test has it if there was one, and else it is 0.
abbrev pub LeftOfRunIsMost : Type 0
LeftOfRunIsMost = (t : Table) (m : Machine) (rs : List Record) → MostOf (after t) is_test (left t) m rs (most_left t m rs)
