-- What the inner functions of this calculator ask and find: a helper of contracts, no rule. They have the bytes of a table, an array of
-- weights, one of images and the slice of sums. Over these the sums and the path of Moves.antt are said here once more, as they are
-- stored; proofs/Whole proves that both are the same.
use Rattle.std.specs.Prelude.{◌≡◌, true, false, List, [], ◌∷◌, ◌⊎◌, ℕ, zero, suc, ◌+◌, ◌-◌, ◌*◌, ◌/◌, ◌%◌, ◌<◌, ◌≤◌, length, get_or, if◌then◌else◌}
use Rattle.wire.specs.Choice.{◌<?◌, ◌=?◌}
use Rattle.sets.specs.Sets.{member, largest}
use Rattle.table.specs.declared.Table.{Table}
use Rattle.table.specs.Entries.{values, zeros}
use Rattle.reaction.specs.Walks.{From, Image, weight_in}
use Rattle.reaction.specs.declared.question.Question.{Question}
use Rattle.moves.specs.Moves.{worst}

-- ---- What is asked

-- How a path goes: I inputs to a row of next states, the inputs of A, Q states.
pub record Way : Type 0 where
  pub width : ℕ
  pub inputs : ℕ
  pub states : ℕ

abbrev pub way_of : Question → Way
way_of q = record { width = q.held.layout.inputs; inputs = q.inputs; states = q.held.layout.states }

-- The images of the first so many states have no members but these states.
pub record ImagesAmong (images : List ℕ) (Q : ℕ) : Type 0 where
  pub states : (1 ≤ Q) × (Q ≤ 32)
  pub below : (q p : ℕ) → q < Q → member (get_or images q 0) p ≡ true → p < Q

-- A place for each member, from a place on.
abbrev pub PlaceForEach : (set from : ℕ) → List ℕ → Type 0
PlaceForEach set from s = (i : ℕ) → member set i ≡ true → from + i < length s

-- Where there is a path it begins at a state.
abbrev pub BeginsAtState : (sum q : ℕ) → Way → Type 0
BeginsAtState sum q way = (sum ≡ 0) ⊎ (q < way.states)

-- No weight is above this: the longest hold and twice the largest cycle bound.
abbrev pub heaviest : ℕ
heaviest = 3720000

-- The numbers from which place k comes are small enough to be added.
pub record SumsFit (weigh : ℕ → ℕ) (sums : List ℕ) (k : ℕ) : Type 0 where
  pub each_weight : (q : ℕ) → weigh q ≤ heaviest
  pub each_sum : (j : ℕ) → j < k → get_or sums j 0 ≤ 32 * heaviest

-- ---- What is found

-- The array has for each member i a number that is so, and 0 for every other.
pub record ForMembers (set : ℕ) (Is : ℕ → ℕ → Type 0) (array : List ℕ) : Type 0 where
  pub each : (i : ℕ) → member set i ≡ true → Is i (get_or array i 0)
  pub others : (i : ℕ) → member set i ≡ false → get_or array i 0 ≡ 0

-- For each member its image under A; its weight.
abbrev pub HasImages : (next : ℕ → ℕ → ℕ) → (P A : ℕ) → List ℕ → Type 0
HasImages next P A = ForMembers P (λ p set. Image next (From p A) set)

abbrev pub HasWeights : Table → (P A : ℕ) → List ℕ → Type 0
HasWeights t P A = ForMembers P (λ p w. w ≡ weight_in t A p)

-- N has the members of the sets that the array has for the members of P.
pub record Unites (sets : List ℕ) (P N : ℕ) : Type 0 where
  pub has : (p q : ℕ) → member P p ≡ true → member (get_or sets p 0) q ≡ true → member N q ≡ true
  pub only : (q : ℕ) → member N q ≡ true → (p : ℕ) × (member P p ≡ true) × (member (get_or sets p 0) q ≡ true)

-- N comes of P by uniting n times.
abbrev pub UnitesTimes : (sets : List ℕ) → (P n N : ℕ) → Type 0
UnitesTimes sets P zero N = N ≡ P
UnitesTimes sets P (suc n) N = (M : ℕ) × UnitesTimes sets P n M × Unites sets M N

-- `at` is the smallest member with the largest f of them, and that is `sum`; or all are 0, and `sum` is.
pub record WorstMember (set : ℕ) (f : ℕ → ℕ) (sum at : ℕ) : Type 0 where
  pub covers : (i : ℕ) → member set i ≡ true → f i ≤ sum
  pub reached : (sum ≡ 0) ⊎ ((member set at ≡ true) × (f at ≡ sum) × ((j : ℕ) → j < at → member set j ≡ true → f j < sum))

-- ---- The sums as they are stored, where `weigh q` is the weight of a state on a path, and 0 for any other

module _ (images : List ℕ) (Q : ℕ) where
  -- The largest f of a member of the image of q.
  abbrev pub most_after : ℕ → (ℕ → ℕ) → ℕ
  most_after q f = largest Q (member (get_or images q 0)) f

  unfoldable pub round_stored : (ℕ → ℕ) → List ℕ → List ℕ
  round_stored weigh row = values (λ q. if weigh q =? 0 then 0 else weigh q + most_after q (λ p. get_or row p 0)) Q

  unfoldable pub row_stored : (ℕ → ℕ) → ℕ → List ℕ
  row_stored weigh zero = zeros Q
  row_stored weigh (suc k) = round_stored weigh (row_stored weigh k)

  -- The number at place k of the rows, and how it comes from those before it.
  abbrev pub sum_stored : (ℕ → ℕ) → ℕ → ℕ
  sum_stored weigh k = get_or (row_stored weigh (k / Q + 1)) (k % Q) 0

  unfoldable pub sum_from_stored : (ℕ → ℕ) → List ℕ → ℕ → ℕ
  sum_from_stored weigh sums k =
      let q = k % Q in
      if weigh q =? 0 then 0
      else if k <? Q then weigh q
      else weigh q + most_after q (λ p. get_or sums (k - q - Q + p) 0)

-- ---- The path along the stored sums

module _ (next : ℕ → ℕ → ℕ) (way : Way) where
  -- The largest f of an input of the way, and the smallest input that has it.
  abbrev pub most_on : (ℕ → ℕ) → ℕ
  most_on f = largest way.width (member way.inputs) f

  abbrev pub worst_on : (ℕ → ℕ) → ℕ
  worst_on f = worst way.width (member way.inputs) f

  -- What the slice has for the next states of q, in the row at `from`.
  abbrev pub ahead_stored : List ℕ → ℕ → ℕ → ℕ → ℕ
  ahead_stored sums from q a = get_or sums (from + next q a) 0

  unfoldable pub path_along : List ℕ → (follow q : ℕ) → List ℕ
  path_along sums zero q = q ∷ []
  path_along sums (suc k) q =
      let f = ahead_stored sums (k * way.states) q in
      if most_on f =? 0 then q ∷ []
      else q ∷ worst_on f ∷ path_along sums k (next q (worst_on f))

  -- After an input: the state to which it leads, with one fewer to follow.
  abbrev pub path_after_input : List ℕ → (left q input : ℕ) → List ℕ
  path_after_input sums left q input = input ∷ path_along sums (left - 1) (next q input)

  unfoldable pub whole_path_along : List ℕ → (follow sum q : ℕ) → List ℕ
  whole_path_along sums follow sum q = if sum =? 0 then [] else path_along sums follow q
