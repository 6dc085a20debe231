-- A report as a host program keeps it: docs/RULES.md, "In C".
use Rattle.std.specs.Prelude.{◌≡◌, ℕ, ◌+◌, ◌*◌, ◌≤◌, List, ◌∷◌, ◌++◌, length, take}
use Rattle.table.specs.declared.Table.{Table}
use Rattle.tally.specs.declared.Tally.{Tally}
use Rattle.tally.specs.Sums.{summed}
use Rattle.report.specs.declared.host.Row.{Row}

-- The number of journals; for each state its dwell; for each state and each input the slots; for each state its entries.
abbrev pub places_of : Table → ℕ
places_of t = 1 + 2 * t.states + t.states * t.inputs

-- What one journal adds to them.
unfoldable pub row_of : Table → Tally → List ℕ
row_of t y = 1 ∷ take t.states y.dwell ++ (take (t.states * t.inputs) y.pairs ++ take t.states y.entries)

-- ---- As its slots and entries are counted

-- The same without the journal itself.
unfoldable pub slots_of : Table → Tally → List ℕ
slots_of t y = 0 ∷ take t.states y.dwell ++ (take (t.states * t.inputs) y.pairs ++ take t.states y.entries)

abbrev pub RowFits : Table → Row → Type 0
RowFits t row =
    (places_of t ≤ length row.numbers.now) × (row.pairs ≡ 1 + t.states) × (row.entries ≡ 1 + t.states + t.states * t.inputs)

abbrev pub row_with : Table → Row → Tally → Row
row_with t row y = record row { numbers = record row.numbers { now = summed row.numbers.now (slots_of t y) } }
