-- The loop keeps `Row`.
use borrow.Author.Rules.{rules}
use Rattle.tight.proofs.Along.{no_round, row_light, one_round}
use Rattle.tight.proofs.over_moves.largest_sum.Goals as goal

pub loop-init : goal.loop-init
loop-init c = no_round _ _ _ _ _

pub next_row-row-requires : goal.next_row-row-requires
next_row-row-requires c =
    (c.requires.0, row_light _ _ _ _ c.requires.0 c.loop.invariant (search rules) c.requires.1)

pub loop-preserved : goal.loop-preserved
loop-preserved c = one_round _ _ _ _ c.loop.invariant (search rules) c.next_row-row.ensures
