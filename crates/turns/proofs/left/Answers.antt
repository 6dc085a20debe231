-- The hold of the state, or the timers.
use mathlib.Core.Path.{sym, ◌∙◌}
use Rattle.turns.proofs.InTable.{left_of_hold, left_of_four}
use Rattle.turns.proofs.left.Goals as goal

pub returns-then-timers-eq0 : goal.returns-then-timers-eq0
returns-then-timers-eq0 g c =
    let t = g.R.Rows.table c.args.rows.now in
    left_of_hold t (g.met.R.Rows.well c.args.rows.now) _ _ (sym c.timers-timers.ensures ∙ c.if-timers-eq0.true) _
    (c.left.ensures t (sym c.hold.ensures) (sym c.delayed.ensures))

pub returns : goal.returns
returns g c =
    c.max-3.ensures ∙ rw (c.max-2.ensures, c.max.ensures)
    (left_of_four (g.R.Rows.table c.args.rows.now) (g.met.R.Rows.well c.args.rows.now) _ _ (λ none. c.if-timers-eq0.false (c.timers-timers.ensures ∙ none)) _ _ _ _
    c.left_at-first.ensures c.left_at-second.ensures c.left_at-third.ensures c.left_at-fourth.ensures)
