-- The loop keeps `Largest`.
use Rattle.table.specs.Check.{byte_entry}
use Rattle.table.proofs.AtOnce.{Largest}
use Rattle.table.proofs.fields.largest_byte.Given as goal

abbrev pub invariant-loop-byte : goal.invariant-loop-byte
invariant-loop-byte l = Largest (byte_entry l.s l.at) l.n l.byte-index l.top
