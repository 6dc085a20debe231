-- There are at most 32 × 32 pairs, and so their lines leave room for those of the states.
use borrow.Author.Rules.{rules}
use native.Mathlib.Omega.{arith}
use Prim.Native.Nat.{◌≤◌}
use native.Mathlib.Nat.{mul-le-mul}
use Rattle.sheet.proofs.Whole.{puts_sheet}
use Rattle.sheet.proofs.write.Goals as goal

pub put_states-requires : goal.put_states-requires
put_states-requires c =
    let states : c.from-states.result ≤ 32 = search rules in
    let inputs : c.from-inputs.result ≤ 32 = search rules in
    (omega (arith, c.put_pairs-at.ensures.short, c.put_journals-at.ensures.short, mul-le-mul states inputs), states)

pub returns : goal.returns
returns c =
    let all_of = puts_sheet _ (search rules) (search rules) c.put_journals-at.ensures.puts c.put_pairs-at.ensures.puts
    c.put_states.ensures in record { puts = all_of.0; counts = all_of.1 }
