-- Each place is one of the row's.
use Rattle.std.proofs.Common.{◌+◌, ◌∙◌, ap, arith}
use Rattle.tally.specs.Counting.{more_sum}
use Rattle.report.proofs.Row.{state_place, pair_place, row_as, row_spent}
use Rattle.report.proofs.host.RowCounter.spend.Goals as goal

pub add_at-requires : goal.add_at-requires
add_at-requires c = state_place _ _ _ _ _ _ _ c.requires.3

pub add_at-requires-2 : goal.add_at-requires-2
add_at-requires-2 c = omega (arith, pair_place _ _ _ _ _ _ _ c.requires.3, c.add_at.auto.numbers)

pub returns : goal.returns
returns c = λ t first y on.
    ap (row_as c.args.self.now) (c.add_at-2.ensures ∙ ap (λ l. more_sum l (c.args.self.now.pairs + c.args.pair) c.args.slots) c.add_at.ensures) ∙ row_spent t first y _ _ _ _ on
