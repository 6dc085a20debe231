use Rattle.table.specs.Answer.{◌or_else◌}
use borrow.Author.Rules.{rules}
use Rattle.table.proofs.or_else.Goals as goal

pub returns-then-test : goal.returns-then-test
unfolding ◌or_else◌
returns-then-test c = search rules

pub returns-else-test : goal.returns-else-test
unfolding ◌or_else◌
returns-else-test c = search rules
