-- Of a timer that the table has not got.
use Rattle.rows.proofs.NoTimer.{region_none}
use Rattle.rows.proofs.asked.CheckedRows.region.Goals as goal

pub returns-then-timers_of-timer : goal.returns-then-timers_of-timer
returns-then-timers_of-timer c = region_none _ _ _ c.args.self.now.passes c.timers_of.ensures c.if-timers_of-timer.true
