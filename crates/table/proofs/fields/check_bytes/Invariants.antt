-- The loop keeps `Checking`; each way out is one of its laws.
use Prim.Native.Nat.{◌+◌}
use Rattle.table.specs.declared.Refusal.TheVariants.{EntryOutOfRange}
use Rattle.table.specs.Check.{below, byte_entry}
use Rattle.table.proofs.Rows.{Checking}
use Rattle.table.proofs.fields.check_bytes.Given as goal

abbrev pub invariant-loop-k : goal.invariant-loop-k
invariant-loop-k l = Checking l.s l.at l.tag l.n (below l.limit (byte_entry l.s l.at) (λ j. EntryOutOfRange (l.at + 3 + j))) l.n l.k
