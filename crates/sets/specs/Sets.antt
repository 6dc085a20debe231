-- Sets as numbers, and what is said over the members of one.
use Rattle.std.specs.Prelude.{◌≡◌, Bool, true, false, not, ℕ, zero, suc, ◌+◌, ◌/◌, ◌%◌, ◌^◌, ◌<◌, max, if◌then◌else◌}
use Rattle.wire.specs.Choice.{◌=?◌, ◌and◌, ◌or◌}

-- A set is a number: bit i for member i.
abbrev pub member : ℕ → ℕ → Bool
member set i = set / 2 ^ i % 2 =? 1

-- Some i below n passes the test.
unfoldable pub some : ℕ → (ℕ → Bool) → Bool
some zero test = false
some (suc n) test = test n or some n test

-- The set of every i below n that passes the test.
unfoldable pub set_of : ℕ → (ℕ → Bool) → ℕ
set_of zero test = 0
set_of (suc n) test = set_of n test + (if test n then 2 ^ n else 0)

-- The largest of 0 and every f i with i below n that passes the test.
unfoldable pub largest : ℕ → (ℕ → Bool) → (ℕ → ℕ) → ℕ
largest zero test f = 0
largest (suc n) test f = max (largest n test f) (if test n then f n else 0)

-- Two sets of members below 32 have one in common.
abbrev pub meets : ℕ → ℕ → Bool
meets a b = some 32 (λ i. member a i and member b i)

-- The set of i alone; of the members of either; of the members of a that b lacks.
abbrev pub Single : ℕ → ℕ → Type 0
Single i set = (j : ℕ) → member set j ≡ (j =? i)

abbrev pub Union : ℕ → ℕ → ℕ → Type 0
Union a b set = (j : ℕ) → member set j ≡ (member a j or member b j)

abbrev pub Difference : ℕ → ℕ → ℕ → Type 0
Difference a b set = (j : ℕ) → member set j ≡ (member a j and not (member b j))

-- i is the smallest member of the set, and `rest` has the others.
pub record TakesSmallest (set i rest : ℕ) : Type 0 where
  pub below : i < 32
  pub is_in : member set i ≡ true
  pub smallest : (j : ℕ) → j < i → member set j ≡ false
  pub others : (j : ℕ) → member rest j ≡ (member set j and not (j =? i))
  pub less : rest < set
