-- A weight and the largest sum ahead.
use Rattle.moves.proofs.Rows.{in_later_row}
use Rattle.moves.proofs.rounds.sum_at.Goals as goal

pub returns : goal.returns
returns c =
    in_later_row c.requires.0 _ _ _ c.if-weight-eq0.false c.if-k-states.false c.worst_start-worst.ensures
