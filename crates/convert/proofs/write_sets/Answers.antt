-- The loop keeps `Writing`.
use Rattle.convert.proofs.Writing.{none_written, one_written}
use borrow.Author.Rules.{rules}
use Rattle.convert.proofs.write_sets.Goals as goal

pub loop-k-init : goal.loop-k-init
loop-k-init c = none_written _ _ _ _ _ (search rules)

pub loop-k-preserved : goal.loop-k-preserved
loop-k-preserved c =
    let new = rw (c.number32-set.ensures, c.number32-hold.ensures) at c.new_set.ensures in
    one_written c.loop-k.invariant c.loop-k-test.true _ (rw new at c.put_number32.ensures) _
    (rw (c.number32-set.ensures, c.number32-hold.ensures) at c.change_of-changed.ensures.0) c.change_of-changed.ensures.1
