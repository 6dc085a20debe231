-- What the inner functions of tight times over several moves ask and find: a helper of contracts, no rule. They have an array of images and
-- one of weights, and over these the largest sums of specs/Several are said here once more; proofs/Along proves that both are the same.
use Rattle.std.specs.Prelude.{◌≡◌, true, List, ℕ, zero, suc, ◌+◌, ◌-◌, ◌≤◌, get_or, if◌then◌else◌}
use Rattle.wire.specs.Choice.{◌=?◌}
use Rattle.sets.specs.Sets.{member, largest}
use Rattle.reaction.specs.Reaction.{off_target}
use Rattle.moves.specs.Walks.{ForMembers}

-- No number of the array is above this.
abbrev pub AtMost : (most : ℕ) → List ℕ → Type 0
AtMost most array = (i : ℕ) → get_or array i 0 ≤ most

-- The states have weights.
abbrev pub SomeWeights : (outside : ℕ) → List ℕ → Type 0
SomeWeights outside weights = (q : ℕ) → member outside q ≡ true → 1 ≤ get_or weights q 0

-- The tight weight of a state by its weight, which is E where it does not come from a hold.
abbrev pub tight_from : (E weight : ℕ) → ℕ
tight_from E weight = if weight =? E then weight else weight - 1

abbrev pub TightWeights : (outside E : ℕ) → (weights tights : List ℕ) → Type 0
TightWeights outside E weights tights = ForMembers outside (λ q w. w ≡ tight_from E (get_or weights q 0)) tights

module _ (images weights : List ℕ) (N : ℕ) where
  -- The weight of q and, on top, the largest number that the row has for a state of its image outside the target.
  abbrev pub sum_from : (row : ℕ → ℕ) → ℕ → ℕ
  sum_from row q = get_or weights q 0 + largest 32 (off_target (get_or images q 0) N) row

  -- After so many rounds over the states outside it.
  unfoldable pub sum_along : (outside k q : ℕ) → ℕ
  sum_along outside zero q = 0
  sum_along outside (suc k) q = if member outside q then sum_from (sum_along outside k) q else 0
