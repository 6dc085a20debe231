-- The loop keeps `Joined`.
use Rattle.table.specs.Check.{word_entry}
use Rattle.table.proofs.AtOnce.{Joined}
use Rattle.table.proofs.fields.ceiling_of.Given as goal

abbrev pub invariant-loop-k : goal.invariant-loop-k
invariant-loop-k l = Joined (word_entry l.s l.at) l.n l.k l.all
