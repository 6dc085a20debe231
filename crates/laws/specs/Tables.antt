-- What holds of the table check as a whole; proofs/Tables proves each.
use Rattle.std.specs.Prelude.{◌≡◌, List, ◌↔◌, ℕ, Ok}
use Rattle.wire.specs.Encode.{Bytes}
use Rattle.table.specs.declared.Table.{Table}
use Rattle.table.specs.Table.{WellFormed}
use Rattle.table.specs.Encode.{table_bytes}
use Rattle.table.specs.Check.{table_answer, table_in}

-- The bytes that pass are exactly the encodings of well-formed tables.
abbrev pub PassesExactly : Type 0
PassesExactly = (s : List ℕ) → Bytes s → (table_answer s ≡ Ok tt) ↔ ((t : Table) × WellFormed t × (s ≡ table_bytes t))

-- A well-formed table's encoding passes, and that table is read from it.
abbrev pub HoldsThatTable : Type 0
HoldsThatTable = (s : List ℕ) (t : Table) → WellFormed t → s ≡ table_bytes t → (table_answer s ≡ Ok tt) × (table_in s ≡ t)
