-- The loop keeps `Uniting`.
use Rattle.moves.proofs.Targets.{one_united}
use Rattle.moves.proofs.united.Goals as goal

pub loop-state-preserved : goal.loop-state-preserved
loop-state-preserved c =
    one_united c.loop-state.invariant c.in-Some.ensures.steps c.union-all.ensures
