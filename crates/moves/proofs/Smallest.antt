-- The smallest number that has the largest of several values, if that is above 0.
use mathlib.Core.Path.{◌≡◌, refl, sym, ◌∙◌}
use mathlib.Core.Bool.{Bool, true, false}
use mathlib.Core.Logic.{◌⊎◌, inl, inr}
use Prim.Native.Nat.{ℕ, ◌<◌, ◌≤◌}
use native.Mathlib.Nat.{zero-add}
use native.Mathlib.Omega.{arith}
use borrow.Author.Tests.{leb-true, leb-false, eq-eqb, eqb-true}
use lib.Dec.{leb}
use Rattle.wire.specs.Choice.{◌=?◌, ◌and◌}
use Rattle.wire.proofs.Choice.{never, both, and_both}
use Rattle.sets.specs.Sets.{largest}
use Rattle.sets.proofs.Members.{largest_reached, Reaching}
use Rattle.reaction.specs.Reaction.{first_from}
use Rattle.reaction.proofs.First.{before_first, found_first}
use Rattle.moves.specs.Moves.{worst}

-- Nothing that passes stands before what the search finds.
first_least : (test : ℕ → Bool) (n j : ℕ) → test j ≡ true → first_from test n 0 ≤ j
first_least test n j passes = go (leb (first_from test n 0) j) refl
  where
    go : (b : Bool) → leb (first_from test n 0) j ≡ b → first_from test n 0 ≤ j
    go true e = leb-true (first_from test n 0) j e
    go false e =
        let l : j < first_from test n 0 = leb-false (first_from test n 0) j e in
        never (sym (rw zero-add at (before_first test n 0 j (omega arith))) ∙ passes)

module _ (n : ℕ) (test : ℕ → Bool) (f : ℕ → ℕ) where
  pub record IsWorst (at : ℕ) : Type 0 where
    pub below : at < n
    pub passes : test at ≡ true
    pub is : f at ≡ largest n test f
    pub smallest : (j : ℕ) → test j ≡ true → f j ≡ largest n test f → at ≤ j

  abbrev has : ℕ → Bool
  has i = test i and (f i =? largest n test f)

  has_it : (j : ℕ) → test j ≡ true → f j ≡ largest n test f → has j ≡ true
  has_it j p e = and_both (test j) _ p (eq-eqb (f j) (largest n test f) e)

  pub worst_found : 0 < largest n test f → IsWorst (worst n test f)
  unfolding worst
  worst_found some = go (largest_reached n test f)
    where
      go : (largest n test f ≡ 0) ⊎ Reaching n test f (largest n test f) → IsWorst (first_from has n 0)
      go (inl z) = absurd (let y : ⊥ = omega arith in y)
      go (inr r) =
          let l = first_least has n r.at (has_it r.at r.passes (sym r.is)) in
          let low : first_from has n 0 < n = omega (arith, r.below) in
          let b = both (test (first_from has n 0)) _ (found_first has n 0 (omega arith)) in
          record {
            below = low;
            passes = b.0;
            is = eqb-true (f (first_from has n 0)) (largest n test f) b.1;
            smallest = λ j p e. first_least has n j (has_it j p e);
          }
