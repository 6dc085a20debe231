-- The loop keeps `Checking`; each way out is one of its laws.
use Prim.Native.Nat.{◌+◌, ◌*◌}
use Rattle.table.specs.Check.{below, word_entry}
use Rattle.table.specs.Inner.{bad_word}
use Rattle.table.proofs.Rows.{Checking}
use Rattle.table.proofs.fields.check_words.Given as goal

abbrev pub invariant-loop-k : goal.invariant-loop-k
invariant-loop-k l = Checking l.s l.at l.tag (4 * l.n) (below l.limit (word_entry l.s l.at) (λ j. bad_word l.tag (l.at + 3 + 4 * j))) l.n l.k
