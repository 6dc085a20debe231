-- The loop keeps `OverStates`; each way out is one of its laws.
use Rattle.table.specs.Table.{next_of}
use Rattle.table.specs.Check.{table_in}
use Rattle.reaction.proofs.NextStates.{OverStates}
use Rattle.reaction.proofs.question.Question.next_of_states.Given as goal

abbrev pub invariant-loop-state : goal.invariant-loop-state
invariant-loop-state l = OverStates (next_of (table_in l.self.held.table.bytes.now)) l.self.states l.self.inputs l.state-iterator.rest l.target
