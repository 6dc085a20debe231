-- The code's test is the definition's.
use borrow.Author.Tests.{eq-eqb, ne_eqb}
use Rattle.table.specs.Inner.{bad_word}
use Rattle.table.proofs.fields.bad_word.Goals as goal

pub returns-then-tag-eq5 : goal.returns-then-tag-eq5
unfolding bad_word
returns-then-tag-eq5 c = search (eq-eqb)

pub returns-else-tag-eq5 : goal.returns-else-tag-eq5
unfolding bad_word
returns-else-tag-eq5 c = search (ne_eqb)
