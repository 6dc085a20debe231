-- Either the set names an unknown input, or the last test decides.
use Rattle.table.proofs.Rows.{unknown_input, known_inputs}
use borrow.Author.Rules.{rules}
use Rattle.table.proofs.fields.check_set.Goals as goal

pub returns-then-limit-from : goal.returns-then-limit-from
returns-then-limit-from c = unknown_input _ _ _ _ _ (rw (c.from.ensures, c.number32-set.ensures) at c.if-limit-from.true)

pub returns : goal.returns
returns c =
    known_inputs _ _ _ _ _ (search rules) _ (rw (c.number32.ensures, c.number32-set.ensures) at c.or_else.ensures)
