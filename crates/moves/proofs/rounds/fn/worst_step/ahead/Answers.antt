-- A next state by an input that is asked about has a place in the row.
use mathlib.Core.Path.{ap}
use native.Mathlib.Omega.{arith}
use Prim.Native.Nat.{◌+◌}
use lib.ListN.{get_or}
use Rattle.moves.proofs.Along.{real, goes_to}
use Rattle.moves.proofs.rounds.fn.worst_step.ahead.Goals as goal

pub next-to-requires : goal.next-to-requires
next-to-requires c = let q = c.captures.question.now in (real q _ c.requires.1, q.inputs_known _ c.requires.0)

pub bounds-sums-from : goal.bounds-sums-from
bounds-sums-from c =
    let to = rw (← c.next-to.ensures) at (goes_to c.captures.question.now _ _ c.requires.1 c.requires.0) in
    omega (arith, to, c.requires.2)

pub returns : goal.returns
returns c = let k = c.captures in ap (λ q. get_or k.sums.now (k.from + q) 0) c.next-to.ensures
