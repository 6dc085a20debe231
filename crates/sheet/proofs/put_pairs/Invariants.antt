-- Line after line.
use Rattle.sheet.proofs.Joining.{Joining}
use Rattle.sheet.specs.Sheet.{pair_line}
use Rattle.sheet.proofs.put_pairs.Given as goal

abbrev pub invariant-loop-k : goal.invariant-loop-k
invariant-loop-k l = Joining (pair_line l.report) 32 l.n l.initial.out l.at l.out l.end l.k
