-- A change and an end leave nothing open; any other kind has its function.
use mathlib.Core.Path.{refl, sym}
use Rattle.turns.proofs.Completing.{change_complete, end_complete, turns}
use Rattle.turns.proofs.turn.Goals as goal

pub returns-in-Change : goal.returns-in-Change
returns-in-Change g c =
    let t = g.R.Rows.table c.args.rows.now in
    rw c.in-Change.is (turns g.F.Reader.form t c.args.p _ _ (change_complete t _ _ _ _) _ refl _ refl _ (c.change.ensures t (sym c.bound.ensures)) c.went.ensures)

pub returns-in-End : goal.returns-in-End
returns-in-End g c =
    let t = g.R.Rows.table c.args.rows.now in
    rw c.in-End.is (turns g.F.Reader.form t c.args.p _ _ (end_complete t _ _ _) _ refl _ refl _ (c.end.ensures t (sym c.bound-in-End.ensures)) c.went-in-End.ensures)
