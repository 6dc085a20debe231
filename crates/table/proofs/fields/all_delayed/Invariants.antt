-- The loop keeps `Joined` twice: of every set, and of those where the hold is 0.
use Rattle.table.specs.Check.{word_entry}
use Rattle.table.specs.Inner.{idle_set}
use Rattle.table.proofs.AtOnce.{Joined}
use Rattle.table.proofs.fields.all_delayed.Given as goal

abbrev pub invariant-loop-k : goal.invariant-loop-k
invariant-loop-k l = Joined (word_entry l.s l.at) l.n l.k l.any × Joined (idle_set l.s l.holds l.at) l.n l.k l.idle
