-- What the calculator for several moves finds, said by paths: docs/RULES.md, "Several moves"; proofs/Paths proves each.
use Rattle.std.specs.Prelude.{◌≡◌, true, false, List, [], ◌∷◌, ◌↔◌, ℕ, ◌+◌, ◌-◌, ◌*◌, ◌<◌, ◌≤◌, length, get_or}
use Rattle.sets.specs.Sets.{member}
use Rattle.table.specs.declared.Table.{Table}
use Rattle.table.specs.Table.{next_of, WellFormed}
use Rattle.reaction.specs.Meaning.{Known}
use Rattle.moves.specs.Moves.{sums_of, largest_sum, worst_path}

-- In P and outside the target N.
pub record OnPath (P N q : ℕ) : Type 0 where
  pub is_in : member P q ≡ true
  pub outside : member N q ≡ false

abbrev pub Begins : List ℕ → ℕ → Type 0
Begins row q = (rest : List ℕ) × (row ≡ q ∷ rest)

-- Of states and inputs by turns, the states.
abbrev pub states_in : List ℕ → List ℕ
states_in [] = []
states_in (q ∷ []) = q ∷ []
states_in (q ∷ a ∷ rest) = q ∷ states_in rest

-- The sum of the states' weights, where w is the weight of a state.
unfoldable pub sum_of : (w : ℕ → ℕ) → List ℕ → ℕ
sum_of w [] = 0
sum_of w (q ∷ rest) = w q + sum_of w rest

module _ (t : Table) (A : ℕ) where
  -- p is next(q, a) for an input a of A.
  pub record Follows (q p : ℕ) : Type 0 where
    pub input : ℕ
    pub is_in : member A input ≡ true
    pub is : next_of t q input ≡ p

  -- States and inputs of A by turns, a state last, each state the next of the one before by the input between.
  abbrev pub ByTurns : List ℕ → Type 0
  ByTurns [] = Unit
  ByTurns (q ∷ []) = Unit
  ByTurns (q ∷ a ∷ rest) = (member A a ≡ true) × Begins rest (next_of t q a) × ByTurns rest

module _ (t : Table) (P A N : ℕ) where
  -- ---- Paths

  abbrev pub Path : List ℕ → Type 0
  Path [] = Unit
  Path (q ∷ []) = OnPath P N q
  Path (q ∷ p ∷ rest) = OnPath P N q × Follows t A q p × Path (p ∷ rest)

  -- A path of at most so many states.
  abbrev pub PathOf : (most : ℕ) → List ℕ → Type 0
  PathOf most path = Path path × (length path ≤ most)

  module _ (w : ℕ → ℕ) where
    -- ---- The largest sums

    -- Of the paths of at most k states that begin at q none has a larger sum, and one has it; 0 if q is in the target or outside P.
    pub record LargestFrom (k q sum : ℕ) : Type 0 where
      pub none_larger : (path : List ℕ) → Begins path q → PathOf k path → sum_of w path ≤ sum
      pub some : 0 < k → OnPath P N q → (path : List ℕ) × Begins path q × PathOf k path × (sum_of w path ≡ sum)
      pub otherwise : (OnPath P N q → ⊥) → sum ≡ 0

    -- The same of all paths of at most n states.
    pub record Largest (n sum : ℕ) : Type 0 where
      pub none_larger : (path : List ℕ) → PathOf n path → sum_of w path ≤ sum
      pub some : (path : List ℕ) × PathOf n path × (sum_of w path ≡ sum)

    -- ---- The worst path

    -- With at most k states from the first on: at each, no smaller input of A leads to a path with the sum of what is written after it.
    abbrev pub SmallestInputs : (k : ℕ) → List ℕ → Type 0
    SmallestInputs k [] = Unit
    SmallestInputs k (q ∷ []) = Unit
    SmallestInputs k (q ∷ a ∷ rest) =
        ((b : ℕ) → member A b ≡ true → (path : List ℕ) → Begins path (next_of t q b) → PathOf (k - 1) path →
        sum_of w path ≡ sum_of w (states_in rest) → a ≤ b)
        × SmallestInputs (k - 1) rest

    -- What is written for at most n states. With k states it has 2k - 1 bytes. It is empty exactly if no path has a sum above 0; then no path
    -- has a state.
    pub record Worst (n : ℕ) (row : List ℕ) : Type 0 where
      pub by_turns : ByTurns t A row
      pub is_path : PathOf n (states_in row)
      pub largest : Largest n (sum_of w (states_in row))
      pub smallest_state : (q p : ℕ) (path : List ℕ) → Begins row q → Begins path p → PathOf n path → sum_of w path ≡ sum_of w (states_in row) → q ≤ p
      pub smallest_inputs : SmallestInputs n row
      pub bytes : length row ≡ 2 * length (states_in row) - 1
      pub short : length row ≤ 2 * n - 1
      pub none : (row ≡ []) ↔ ((path : List ℕ) → PathOf n path → sum_of w path ≡ 0)
      pub no_path : row ≡ [] → (path : List ℕ) → PathOf n path → path ≡ []

-- ---- The theorems, for every target and all weights above 0

abbrev pub SumsAreLargest : Type 0
SumsAreLargest =
    (t : Table) → WellFormed t → (P A N : ℕ) (w : ℕ → ℕ) → ((q : ℕ) → 0 < w q) → Known t.states P → Known t.inputs A →
    (k q : ℕ) → q < t.states → LargestFrom t P A N w k q (get_or (sums_of t P A N w k) q 0)

abbrev pub LargestOfAll : Type 0
LargestOfAll =
    (t : Table) → WellFormed t → (P A N : ℕ) (w : ℕ → ℕ) → ((q : ℕ) → 0 < w q) → Known t.states P → Known t.inputs A →
    (n : ℕ) → Largest t P A N w n (largest_sum t P A N w n)

abbrev pub WrittenIsWorst : Type 0
WrittenIsWorst =
    (t : Table) → WellFormed t → (P A N : ℕ) (w : ℕ → ℕ) → ((q : ℕ) → 0 < w q) → Known t.states P → Known t.inputs A →
    (n : ℕ) → Worst t P A N w n (worst_path t P A N w n) × (sum_of w (states_in (worst_path t P A N w n)) ≡ largest_sum t P A N w n)
