-- How far apart the records of a run are; proofs/Gaps proves it.
use Rattle.std.specs.Prelude.{List, [], ◌∷◌, ℕ, ◌+◌, ◌≤◌}
use Rattle.table.specs.declared.Table.{Table}
use Rattle.records.specs.declared.Record.{Record}
use Rattle.records.specs.Record.{time_of}
use Rattle.machine.specs.declared.Machine.{Machine}
use Rattle.machine.specs.Machine.{start}
use Rattle.machine.specs.Run.{Runs}

-- Each record comes not before the one before it, and at most so much later.
abbrev pub Spaced : (most before : ℕ) → List Record → Type 0
Spaced most before [] = Unit
Spaced most before (r ∷ rs) = (before ≤ time_of r) × (time_of r ≤ before + most) × Spaced most (time_of r) rs

-- In a run it is at most the cycle bound later, and the first is so from 0: at the record before the cycle had begun.
abbrev pub GapsWithinBound : Type 0
GapsWithinBound = (t : Table) (input : ℕ) (rs : List Record) (last : Machine) → Runs t (start t.initial input) rs last → Spaced t.bound 0 rs
