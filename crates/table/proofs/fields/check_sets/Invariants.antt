-- The loop keeps `Checking`; each way out is one of its laws.
use Prim.Native.Nat.{◌*◌}
use Rattle.table.specs.Check.{set_entry}
use Rattle.table.proofs.Rows.{Checking}
use Rattle.table.proofs.fields.check_sets.Given as goal

abbrev pub invariant-loop-k : goal.invariant-loop-k
invariant-loop-k l = Checking l.s l.at 0x06 (4 * l.n) (set_entry l.old l.s l.holds l.at l.limit) l.n l.k
