-- Where the entries of a table start in bytes that passed: a helper of contracts, no rule.
use Rattle.std.specs.Prelude.{Ok, ◌≡◌, List, ℕ, ◌+◌}
use Rattle.table.specs.Check.{table_answer, table_in, counts_in, next_field, hold_field, delayed_field}
use Rattle.rows.specs.declared.Layout.{Layout}

-- The rows of next states start at `from`, with so many inputs to a row.
pub record NextRows (s : List ℕ) (from width : ℕ) : Type 0 where
  pub passes : table_answer s ≡ Ok tt
  pub starts : from ≡ next_field (counts_in s) + 3
  pub wide : width ≡ (table_in s).inputs

pub record LaidOut (s : List ℕ) (l : Layout) : Type 0 where
  pub states : l.states ≡ (table_in s).states
  pub inputs : l.inputs ≡ (table_in s).inputs
  pub bound : l.bound ≡ (table_in s).bound
  pub timers : l.timers ≡ (table_in s).timers
  pub next : l.next ≡ next_field (counts_in s) + 3
  pub hold : l.hold ≡ hold_field (counts_in s) + 3
  pub delayed : l.delayed ≡ delayed_field (counts_in s) + 3
