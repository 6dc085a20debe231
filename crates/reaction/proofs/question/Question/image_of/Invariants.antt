-- The loop keeps `OverInputs`.
use Rattle.table.specs.Table.{next_of}
use Rattle.table.specs.Check.{table_in}
use Rattle.reaction.proofs.NextStates.{OverInputs}
use Rattle.reaction.proofs.question.Question.image_of.Given as goal

abbrev pub invariant-loop-input : goal.invariant-loop-input
invariant-loop-input l = OverInputs (next_of (table_in l.self.held.table.bytes.now)) l.self.inputs l.state l.input-iterator.rest l.image
