-- Outside the region nothing is left; in it, the timer is one that the table has.
use Rattle.std.proofs.Common.{rules, ◌≡◌, false}
use Rattle.table.specs.Table.{member}
use Rattle.machine.proofs.Laws.{outside_region}
use Rattle.turns.proofs.left_at.Goals as goal

pub returns-then-not-has : goal.returns-then-not-has
returns-then-not-has g c =
    let none : member c.region-region.result c.args.m.state ≡ false = search rules in
    outside_region _ _ _ _ _ _ _ (rw c.region-region.ensures at none)
