-- Tight times over several moves, said by paths: docs/RULES.md, "Tight times over several moves"; proofs/Tight proves each.
use Rattle.std.specs.Prelude.{◌≡◌, List, [], ◌∷◌, ℕ, ◌+◌, ◌≤◌, if◌then◌else◌}
use Rattle.table.specs.declared.Table.{Table}
use Rattle.table.specs.Table.{WellFormed}
use Rattle.reaction.specs.Reaction.{from_hold, weight}
use Rattle.reaction.specs.Meaning.{Known}
use Rattle.moves.specs.Moves.{next_times, reaction_over}
use Rattle.tight.specs.Tight.{tight_time}
use Rattle.tight.specs.Several.{tight_weight, tight_time_over}
use Rattle.laws.specs.Paths.{sum_of, PathOf, Largest}

-- How many states of a path have their weight from a hold.
unfoldable pub holds_on : Table → (A : ℕ) → List ℕ → ℕ
holds_on t A [] = 0
holds_on t A (q ∷ rest) = (if from_hold t A q then 1 else 0) + holds_on t A rest

-- N is the target of n moves.
module _ (t : Table) (P A N n : ℕ) where
  abbrev pub NoPath : Type 0
  NoPath = (path : List ℕ) → PathOf t P A N n path → path ≡ []

  -- E where there is no path; else E - 1 and the largest sum of tight weights.
  pub record TightMeans (tight : ℕ) : Type 0 where
    pub sum : ℕ
    pub largest : Largest t P A N (tight_weight t A) n sum
    pub without : NoPath → tight ≡ t.bound
    pub with : (NoPath → ⊥) → tight + 1 ≡ t.bound + sum

  -- It is the time where there is no path; else below it by at least 1, and by at most 1 and one for each state with a weight from a hold
  -- on any path with the largest sum of weights.
  pub record BelowOver (time tight : ℕ) : Type 0 where
    pub same : NoPath → tight ≡ time
    pub at_least : (NoPath → ⊥) → tight + 1 ≤ time
    pub at_most : (path : List ℕ) → PathOf t P A N n path → Largest t P A N (weight t A) n (sum_of (weight t A) path) →
        time ≤ tight + 1 + holds_on t A path

-- ---- The theorems

abbrev pub TightOverMeans : Type 0
TightOverMeans =
    (t : Table) → WellFormed t → (P A : ℕ) → Known t.states P → Known t.inputs A → (n : ℕ) →
    TightMeans t P A (next_times t P A n) n (tight_time_over t P A n)

abbrev pub TightOverBelow : Type 0
TightOverBelow =
    (t : Table) → WellFormed t → (P A : ℕ) → Known t.states P → Known t.inputs A → (n : ℕ) →
    BelowOver t P A (next_times t P A n) n (reaction_over t P A n).time (tight_time_over t P A n)

-- For no moves it is E, and for one the tight time of one move.
abbrev pub TightOfNone : Type 0
TightOfNone =
    (t : Table) → WellFormed t → (P A : ℕ) → Known t.states P → Known t.inputs A → tight_time_over t P A 0 ≡ t.bound

abbrev pub TightOfOne : Type 0
TightOfOne =
    (t : Table) → WellFormed t → (P A : ℕ) → Known t.states P → Known t.inputs A → tight_time_over t P A 1 ≡ tight_time t P A
