-- The loop keeps `Staying`, and does not come to its end.
use Rattle.table.specs.Table.{next_of}
use Rattle.table.specs.Check.{table_in}
use Rattle.reaction.proofs.NextStates.{Staying}
use Rattle.reaction.proofs.question.Question.leaving_input.Given as goal

abbrev pub invariant-loop-input : goal.invariant-loop-input
invariant-loop-input l = Staying (next_of (table_in l.self.held.table.bytes.now)) l.self.states l.self.inputs l.state l.input-iterator.rest
