-- The loop keeps `Checking`; each way out is one of its laws.
use mathlib.Core.Path.{◌∙◌}
use Rattle.table.proofs.Rows.{no_field, none_checked, all_checked, refused_entry, passed_entry, timer_there}
use borrow.Author.Rules.{rules}
use Rattle.table.proofs.fields.check_timers.Goals as goal

pub returns-in_default : goal.returns-in_default
returns-in_default c = no_field _ _ _ _ _ _ _ c.expect_field-stands.ensures c.in_default.is

pub loop-k-init : goal.loop-k-init
loop-k-init c = none_checked _ _ _ _ _ _ _ c.expect_field-stands.ensures c.in-Ok.is

pub returns-in_default-timer : goal.returns-in_default-timer
returns-in_default-timer c =
    let args = c.args in
    refused_entry c.loop-k.invariant c.loop-k-test.true _
    (c.check_timer-timer.ensures ∙ timer_there args.s.now args.at args.limit c.loop-k.k) c.in_default-timer.is

pub loop-k-preserved : goal.loop-k-preserved
loop-k-preserved c =
    let args = c.args in
    passed_entry c.loop-k.invariant c.loop-k-test.true _
    (c.check_timer-timer.ensures ∙ timer_there args.s.now args.at args.limit c.loop-k.k) c.in-Ok-timer.is

pub returns : goal.returns
returns c = all_checked c.loop-k.invariant (search rules)
