-- Of a timer that the table has not got, length and region are 0, in bytes as in a value.
use mathlib.Core.Path.{◌≡◌, sym, ◌∙◌}
use mathlib.Core.List.{List}
use mathlib.Core.Bool.{true}
use mathlib.Core.Logic.{⊎_elim}
use Prim.Native.Nat.{ℕ, ◌+◌, ◌*◌, ◌<◌, ◌≤◌}
use native.Mathlib.Omega.{arith}
use Rattle.std.specs.Prelude.{Ok}
use Rattle.std.proofs.lemmas.Bool.{cases_lt}
use Rattle.wire.proofs.Choice.{never}
use Rattle.sets.proofs.Bits.{none_in_empty}
use Rattle.table.specs.declared.Table.{Table}
use Rattle.table.specs.Table.{length_of, region_of, member, WellFormed}
use Rattle.table.specs.Check.{table_answer, table_in}
use Rattle.table.proofs.WellFormed.{well_formed}

module _ (s : List ℕ) (n k : ℕ) (passed : table_answer s ≡ Ok tt) (is : n ≡ (table_in s).timers) (none : n ≤ k) where
  good : WellFormed (table_in s)
  good = well_formed s passed

  pub length_none : 0 ≡ length_of (table_in s) k
  length_none = sym (good.timing_uses.rest (2 * k) (omega (arith, is, none)))

  pub region_none : 0 ≡ region_of (table_in s) k
  region_none = sym (good.timing_uses.rest (2 * k + 1) (omega (arith, is, none)))

-- A state is only in the region of a timer that the table has.
pub timer_there : {t : Table} (good : WellFormed t) (k q : ℕ) → member (region_of t k) q ≡ true → k < t.timers
timer_there {t = t} good k q m = ⊎_elim (λ l. l) (λ l. absurd (never (sym (none_in_empty q) ∙ (rw (good.timing_uses.rest (2 * k + 1) (omega (arith, l))) at m)))) (cases_lt k t.timers)
