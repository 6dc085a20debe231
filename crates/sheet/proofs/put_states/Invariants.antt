-- Line after line.
use Rattle.sheet.proofs.Joining.{Joining}
use Rattle.sheet.specs.Sheet.{state_line}
use Rattle.sheet.proofs.put_states.Given as goal

abbrev pub invariant-loop-k : goal.invariant-loop-k
invariant-loop-k l = Joining (state_line l.report) 51 l.n l.initial.out l.at l.out l.end l.k
