-- The loop keeps `Checking`; each way out is one of its laws.
use Prim.Native.Nat.{◌*◌}
use Rattle.table.specs.Check.{timer_entry}
use Rattle.table.proofs.Rows.{Checking}
use Rattle.table.proofs.fields.check_timers.Given as goal

abbrev pub invariant-loop-k : goal.invariant-loop-k
invariant-loop-k l = Checking l.s l.at 0x07 (8 * l.n) (timer_entry l.s l.at l.limit) l.n l.k
