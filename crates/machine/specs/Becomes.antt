-- The machine with another value in one of its fields, for which docs/RULES.md, "Each record", says that the field becomes it.
use Rattle.std.specs.Prelude.{ℕ}
use Rattle.machine.specs.declared.Regions.{Regions}
use Rattle.machine.specs.declared.Machine.{Machine}

infixl 5 ◌phase_becomes◌
infixl 5 ◌input_becomes◌
infixl 5 ◌polled_becomes◌
infixl 5 ◌state_becomes◌
infixl 5 ◌change_becomes◌
infixl 5 ◌entry_becomes◌
infixl 5 ◌start_becomes◌
infixl 5 ◌time_becomes◌
infixl 5 ◌longest_becomes◌
infixl 5 ◌regions_becomes◌
abbrev pub ◌phase_becomes◌ : Machine → ℕ → Machine
m phase_becomes x = record { phase = x; input = m.input; polled = m.polled; state = m.state; change = m.change; entry = m.entry; start = m.start; time = m.time; longest = m.longest; regions = m.regions }

abbrev pub ◌input_becomes◌ : Machine → ℕ → Machine
m input_becomes x = record { phase = m.phase; input = x; polled = m.polled; state = m.state; change = m.change; entry = m.entry; start = m.start; time = m.time; longest = m.longest; regions = m.regions }

abbrev pub ◌polled_becomes◌ : Machine → ℕ → Machine
m polled_becomes x = record { phase = m.phase; input = m.input; polled = x; state = m.state; change = m.change; entry = m.entry; start = m.start; time = m.time; longest = m.longest; regions = m.regions }

abbrev pub ◌state_becomes◌ : Machine → ℕ → Machine
m state_becomes x = record { phase = m.phase; input = m.input; polled = m.polled; state = x; change = m.change; entry = m.entry; start = m.start; time = m.time; longest = m.longest; regions = m.regions }

abbrev pub ◌change_becomes◌ : Machine → ℕ → Machine
m change_becomes x = record { phase = m.phase; input = m.input; polled = m.polled; state = m.state; change = x; entry = m.entry; start = m.start; time = m.time; longest = m.longest; regions = m.regions }

abbrev pub ◌entry_becomes◌ : Machine → ℕ → Machine
m entry_becomes x = record { phase = m.phase; input = m.input; polled = m.polled; state = m.state; change = m.change; entry = x; start = m.start; time = m.time; longest = m.longest; regions = m.regions }

abbrev pub ◌start_becomes◌ : Machine → ℕ → Machine
m start_becomes x = record { phase = m.phase; input = m.input; polled = m.polled; state = m.state; change = m.change; entry = m.entry; start = x; time = m.time; longest = m.longest; regions = m.regions }

abbrev pub ◌time_becomes◌ : Machine → ℕ → Machine
m time_becomes x = record { phase = m.phase; input = m.input; polled = m.polled; state = m.state; change = m.change; entry = m.entry; start = m.start; time = x; longest = m.longest; regions = m.regions }

abbrev pub ◌longest_becomes◌ : Machine → ℕ → Machine
m longest_becomes x = record { phase = m.phase; input = m.input; polled = m.polled; state = m.state; change = m.change; entry = m.entry; start = m.start; time = m.time; longest = x; regions = m.regions }

abbrev pub ◌regions_becomes◌ : Machine → Regions → Machine
m regions_becomes x = record { phase = m.phase; input = m.input; polled = m.polled; state = m.state; change = m.change; entry = m.entry; start = m.start; time = m.time; longest = m.longest; regions = x }
