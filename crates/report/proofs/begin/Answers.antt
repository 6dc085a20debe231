-- A refusal begins a report without a table.
use Rattle.report.proofs.Adding.{begun_refused}
use Rattle.report.proofs.begin.Goals as goal

pub returns-in_default : goal.returns-in_default
returns-in_default c = begun_refused _ c.check-answer.ensures c.in_default.is c.empty_with.ensures
