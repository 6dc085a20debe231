-- The place is one of the row's.
use Rattle.std.proofs.Common.{◌∙◌, ap}
use Rattle.report.proofs.Row.{entry_place, row_as, row_entered}
use Rattle.report.proofs.host.RowCounter.enter.Goals as goal

pub add_at-requires : goal.add_at-requires
add_at-requires c = entry_place _ _ _ _ _ c.requires.3

pub returns : goal.returns
returns c = λ t first y on. ap (row_as c.args.self.now) c.add_at.ensures ∙ row_entered t first y _ _ on
