-- The loop keeps `OverMembers`; it ends where every state is covered.
use Rattle.table.specs.Check.{table_in}
use Rattle.reaction.specs.Walks.{weight_in}
use Rattle.reaction.proofs.Weights.{OverMembers}
use Rattle.reaction.proofs.question.Question.largest_weight.Given as goal

abbrev pub invariant-loop-state : goal.invariant-loop-state
invariant-loop-state l = OverMembers l.states (weight_in (table_in l.self.held.table.bytes.now) l.self.inputs) l.state-iterator.rest l.largest
