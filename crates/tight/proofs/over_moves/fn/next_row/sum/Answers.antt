-- With the largest number ahead the sum fits, and is the sum from the state.
use native.Mathlib.Omega.{arith}
use Prim.Native.Nat.{◌*◌}
use lib.ListN.{get_or}
use Rattle.moves.specs.Walks.{heaviest}
use Rattle.tight.proofs.Along.{ahead_fits, with_ahead}
use Rattle.tight.proofs.over_moves.fn.next_row.sum.Goals as goal

pub overflow_add-result : goal.overflow_add-result
overflow_add-result c =
    let ahead = ahead_fits c.difference.result (31 * heaviest) c.captures.row.now c.requires.2 in
    omega (arith, c.requires.1 c.args.state, c.largest_of.ensures)

pub returns : goal.returns
returns c =
    let k = c.captures in
    let q = c.args.state in
    with_ahead (λ p. get_or k.row.now p 0) (get_or k.weights.now q 0) _ (get_or k.images.now q 0) k.target c.difference.result
    c.largest_of.ensures c.difference.ensures
