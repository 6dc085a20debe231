-- Byte after byte.
use Rattle.sheet.proofs.Joining.{Joining}
use lib.ListN.{get_or}
use Rattle.sheet.specs.Sheet.{quoted_byte}
use Rattle.sheet.proofs.put_name.Given as goal

abbrev pub invariant-loop-byte : goal.invariant-loop-byte
invariant-loop-byte l = Joining (λ k. quoted_byte (get_or l.name k 0)) 2 l.n l.initial.out l.at l.out l.end l.byte-index
