-- Under the bytes of its own table.
use Rattle.std.proofs.Common.{◌≡◌, length, ◌∙◌, rules}
use Rattle.report.proofs.Accepting.{own_table}
use Rattle.report.proofs.Report.add.Goals as goal

pub returns-clause-is : goal.returns-clause-is
returns-clause-is c = let long : length c.args.self.now.table ≡ 1626 = search rules in c.add_under.ensures.is ∙ rw c.min-size.ensures (own_table _ _ long)
