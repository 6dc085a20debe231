-- 35, or the tally is added.
use Rattle.report.proofs.Accepting.{accepted_full, accepted_taken}
use Rattle.report.proofs.Report.add_accepted.Goals as goal

pub returns-then-self-ge-MOST_JOURNALS-clause-is : goal.returns-then-self-ge-MOST_JOURNALS-clause-is
returns-then-self-ge-MOST_JOURNALS-clause-is c = accepted_full _ _ _ c.requires c.if-self-ge-MOST_JOURNALS.true

pub returns-clause-is : goal.returns-clause-is
returns-clause-is c = accepted_taken _ _ _ c.requires c.if-self-ge-MOST_JOURNALS.false _ c.count.ensures _ c.add_tally.ensures
