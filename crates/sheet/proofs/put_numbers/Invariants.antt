-- Number after number, and the line's end.
use lib.ListN.{length}
use Rattle.sheet.proofs.Joining.{Joining, after_comma}
use Rattle.sheet.proofs.put_numbers.Given as goal

abbrev pub invariant-loop-k : goal.invariant-loop-k
invariant-loop-k l = Joining (after_comma l.numbers) 21 (length l.numbers) l.initial.out l.at l.out l.end l.k
