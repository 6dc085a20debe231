-- The loop keeps `Filling`.
use Prim.Native.Nat.{◌*◌, ◌<◌}
use mathlib.Core.Path.{refl, ◌∙◌}
use native.Mathlib.Omega.{arith}
use lib.ListN.{length}
use borrow.Author.Rules.{rules}
use Rattle.table.proofs.Values.{none_filled, one_filled}
use Rattle.moves.proofs.Rows.{fit, next_sum}
use Rattle.moves.proofs.rounds.fill_sums.Goals as goal
use Rattle.moves.proofs.rounds.fill_sums.Goals.{In-loop-k}

inside : (c : In-loop-k) → c.loop-k.k < length c.loop-k.sums
inside c =
    let l : c.loop-k.k < c.args.moves * c.args.states = search rules in
    omega (arith, c.loop-k.invariant.same, c.requires.2)

pub loop-k-init : goal.loop-k-init
loop-k-init c = none_filled _ _ _

pub sum_at-requires : goal.sum_at-requires
sum_at-requires c =
    let inv = c.loop-k.invariant in
    (c.requires.0, inside (goal.at.sum_at-requires c).In-loop-k, fit c.requires.0 _ inv _ c.requires.1 refl c.requires.3)

pub loop-k-preserved : goal.loop-k-preserved
loop-k-preserved c =
    let inv = c.loop-k.invariant in
    one_filled inv (search rules) c.requires.2 _ (c.sum_at.ensures ∙ next_sum c.requires.0 _ inv)
