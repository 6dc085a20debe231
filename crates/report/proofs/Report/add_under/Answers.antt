-- By the journal check's answer.
use Rattle.std.proofs.Common.{◌∙◌}
use Rattle.records.specs.Form.{journal}
use Rattle.journal.proofs.Accepted.{accepts}
use Rattle.report.proofs.Accepting.{not_added, under_accepted}
use Rattle.report.proofs.Report.add_under.Goals as goal

pub returns-in_default-clause-is : goal.returns-in_default-clause-is
returns-in_default-clause-is c = not_added _ _ _ _ c.check-checked.ensures _ c.unwrap_err.ensures

pub add_accepted-requires : goal.add_accepted-requires
add_accepted-requires c = accepts journal _ _ _ c.check-checked.ensures c.in-Ok.is

pub returns-clause-is : goal.returns-clause-is
returns-clause-is c = c.add_accepted.ensures.is ∙ under_accepted _ _ _ (accepts journal _ _ _ c.check-checked.ensures c.in-Ok.is)
