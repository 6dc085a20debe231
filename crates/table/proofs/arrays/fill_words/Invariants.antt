-- The loop keeps `Filling`.
use Rattle.table.specs.Check.{word_entry}
use Rattle.table.proofs.Values.{Filling}
use Rattle.table.proofs.arrays.fill_words.Given as goal

abbrev pub invariant-loop-k : goal.invariant-loop-k
invariant-loop-k l = Filling (word_entry l.s l.at) l.n l.initial.array l.array l.k
