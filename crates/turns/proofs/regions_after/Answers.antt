-- The four timers, one by one; none is entered without timers, nor where the state stays.
use mathlib.Core.Path.{sym, ◌∙◌}
use Rattle.machine.proofs.Laws.{all_entered, none_entered}
use Rattle.machine.proofs.Watches.{regions_stay, no_regions}
use Rattle.turns.proofs.regions_after.Goals as goal

pub returns-then-timers-eq0 : goal.returns-then-timers-eq0
returns-then-timers-eq0 g c =
    λ to. sym (regions_stay (g.R.Rows.table c.args.rows.now) c.args.m _ (no_regions (g.met.R.Rows.well c.args.rows.now) (sym c.timers.ensures ∙ c.if-timers-eq0.true)))

pub returns-then-from-to : goal.returns-then-from-to
returns-then-from-to g c = λ to. none_entered (g.R.Rows.table c.args.rows.now) _ _ _ to c.if-from-to.true

pub returns : goal.returns
returns g c =
    λ to. all_entered (g.R.Rows.table c.args.rows.now) _ _ _ to _ _ _ _
    (rw c.region.ensures at c.entered.ensures) (rw c.region-2.ensures at c.entered-2.ensures)
    (rw c.region-3.ensures at c.entered-3.ensures) (rw c.region-4.ensures at c.entered-4.ensures)
