-- The loop keeps `Joined` twice: of every set, and of those where the hold is 0.
use Rattle.table.proofs.AtOnce.{one_joined, all_joined, idle_small, idle_turned}
use borrow.Author.Rules.{rules}
use Rattle.table.proofs.fields.all_delayed.Goals as goal

pub loop-k-preserved : goal.loop-k-preserved
loop-k-preserved c =
    let loop = c.loop-k in
    let args = c.args in
    let more = c.loop-k-test.true in
    let read = c.number32_turned-set.ensures in
    let told = rw (c.set_if_idle.ensures, c.number32_turned.ensures.0, read.0, idle_turned) at c.union-idle.ensures in (
      one_joined loop.invariant.0 more read.1 _ (rw read.0 at c.union-any.ensures),
      one_joined loop.invariant.1 more (idle_small args.s.now args.holds args.at loop.k read.1) _ told,
    )

pub returns : goal.returns
returns c =
    let loop = c.loop-k.invariant in
    record { any = rw c.turn32.ensures (all_joined loop.0 (search rules)); idle = rw c.turn32-2.ensures (all_joined loop.1 (search rules)) }
