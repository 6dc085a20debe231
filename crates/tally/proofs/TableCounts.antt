-- A table that passes, by its counts.
use Rattle.std.proofs.Common.{◌≡◌, ℕ, ◌≤◌, false, List, length, ap, arith, Ok}
use Rattle.table.specs.declared.Counts.{Counts}
use Rattle.table.specs.Check.{counts_in, table_with, table_in, table_answer}
use Rattle.table.proofs.Stands.{table_stands}

module _ (table : List ℕ) (passes : table_answer table ≡ Ok tt) where
  pub has_counts : 7 ≤ length table
  has_counts = omega (arith, (table_stands false table passes).0.counts_field.fits)

module _ (table : List ℕ) (counts : Counts) (is : counts ≡ counts_in table) where
  pub states_are : counts.states ≡ (table_in table).states
  unfolding table_with
  states_are = ap (λ (c : Counts). c.states) is

  pub inputs_are : counts.inputs ≡ (table_in table).inputs
  unfolding table_with
  inputs_are = ap (λ (c : Counts). c.inputs) is

  pub initial_is : counts.initial ≡ (table_in table).initial
  unfolding table_with
  initial_is = ap (λ (c : Counts). c.initial) is
