-- Reaction over several moves: docs/RULES.md, "Several moves". P is a set of states and A a set of inputs, each a number; n is how many moves.
use Rattle.std.specs.Prelude.{List, [], ◌∷◌, ◌++◌, Bool, not, ℕ, zero, suc, ◌+◌, ◌-◌, ◌*◌, ◌^◌, length, get_or, drop, Ok, Err, if◌then◌else◌}
use Rattle.wire.specs.Choice.{◌<?◌, ◌=?◌, ◌and◌, ◌or◌}
use Rattle.sets.specs.Sets.{member, largest}
use Rattle.table.specs.declared.Table.{Table}
use Rattle.table.specs.Table.{next_of}
use Rattle.table.specs.Entries.{values, zeros}
use Rattle.table.specs.Check.{table_in}
use Rattle.table.specs.Under.{under_table}
use Rattle.reaction.specs.Reaction.{next_set, off_target, weight, first_from, first_leaving, for_holds}
use Rattle.moves.specs.declared.Reaction.{Reaction}
use Rattle.moves.specs.declared.Refusal.TheVariants as why
use Rattle.moves.specs.Answer.{Judged, MovesAnswer, judged_passes?, judged_then}

-- next applied n times to P.
unfoldable pub next_times : Table → (P A n : ℕ) → ℕ
next_times t P A zero = P
next_times t P A (suc n) = next_set t (next_times t P A n) A

-- The smallest i below n with the largest f i, of those that pass the test; n if none does.
unfoldable pub worst : (n : ℕ) → (ℕ → Bool) → (ℕ → ℕ) → ℕ
worst n test f = first_from (λ i. test i and (f i =? largest n test f)) n 0

-- The states of a path are those that are in P and not in N, the target.
module _ (t : Table) (P A N : ℕ) where
  -- ---- The sums

  -- What a row has for the next state of q by input a.
  abbrev pub ahead : List ℕ → ℕ → ℕ → ℕ
  ahead row q a = get_or row (next_of t q a) 0

  -- The largest of these over A, and the smallest input that has it.
  abbrev pub most_ahead : List ℕ → ℕ → ℕ
  most_ahead row q = largest t.inputs (member A) (ahead row q)

  abbrev pub worst_input : List ℕ → ℕ → ℕ
  worst_input row q = worst t.inputs (member A) (ahead row q)

  -- Each state has a weight w: that for one move here, and a smaller one in tight times.
  module _ (w : ℕ → ℕ) where
    -- A row from the one before: paths that begin with one state more.
    unfoldable pub round : List ℕ → List ℕ
    round row = values (λ q. if off_target P N q then w q + most_ahead row q else 0) t.states

    -- For each state the largest sum of a path of at most so many states that begins there.
    unfoldable pub sums_of : ℕ → List ℕ
    sums_of zero = zeros t.states
    sums_of (suc k) = round (sums_of k)

    -- The rows for paths of at most 1, 2, .., n states, one after another.
    unfoldable pub rows : ℕ → List ℕ
    rows zero = []
    rows (suc n) = rows n ++ sums_of (suc n)

    -- ---- The worst path

    -- From q on, with at most so many states to follow. Where none can, the sums ahead are 0.
    unfoldable pub path_from : (follow q : ℕ) → List ℕ
    path_from zero q = q ∷ []
    path_from (suc k) q =
        if most_ahead (sums_of (suc k)) q =? 0 then q ∷ []
        else q ∷ worst_input (sums_of (suc k)) q ∷ path_from k (next_of t q (worst_input (sums_of (suc k)) q))

    -- The largest sum of all, and the smallest state at which a path with it begins.
    unfoldable pub largest_sum : ℕ → ℕ
    largest_sum n = largest t.states (off_target P N) (λ q. get_or (sums_of n) q 0)

    unfoldable pub worst_start : ℕ → ℕ
    worst_start n = worst t.states (off_target P N) (λ q. get_or (sums_of n) q 0)

    -- Every weight is above 0: where the largest sum is 0 there is no path.
    unfoldable pub worst_path : ℕ → List ℕ
    worst_path n = if largest_sum n =? 0 then [] else path_from (n - 1) (worst_start n)

-- ---- The entry

-- 9 for states, 9 for inputs, 32, 10, then 33: there are so many places for sums, and for the bytes of a path.
unfoldable pub judge : Table → (P A n sums path : ℕ) → Judged
judge t P A n sums path =
    if not (P <? 2 ^ t.states) then Err why.UnknownState
    else if not (A <? 2 ^ t.inputs) then Err why.UnknownInput
    else if 32 <? n then Err why.TooManyMoves
    else if first_leaving t P A <? t.states * t.inputs then Err (why.LeavesStates (first_leaving t P A))
    else if (sums <? n * t.states) or (path <? 2 * n - 1) then Err why.NoRoom
    else Ok tt

-- On the bytes of a table: its refusals come first, then 14.
unfoldable pub judge_of : List ℕ → (P A n sums path : ℕ) → Judged
judge_of s P A n sums path = under_table (λ refusal. Err (why.Table refusal)) (for_holds (Err why.HasTimers) (λ t. judge t P A n sums path)) s

-- The time, the target, and the length of the path.
unfoldable pub reaction_over : Table → (P A n : ℕ) → Reaction
reaction_over t P A n =
    let N = next_times t P A n in
    record {
      time = t.bound + largest_sum t P A N (weight t A) n;
      target = N;
      length = length (worst_path t P A N (weight t A) n);
    }

-- What is written, and past it what stood there.
unfoldable pub sums_over : Table → (P A n : ℕ) → List ℕ → List ℕ
sums_over t P A n sums = rows t P A (next_times t P A n) (weight t A) n ++ drop (n * t.states) sums

unfoldable pub path_over : Table → (P A n : ℕ) → List ℕ → List ℕ
path_over t P A n path =
    let written = worst_path t P A (next_times t P A n) (weight t A) n in
    written ++ drop (length written) path

-- The answer and the buffers, by what the judge says.
unfoldable pub moves_of : List ℕ → (P A n sums path : ℕ) → MovesAnswer
moves_of s P A n sums path = judged_then (judge_of s P A n sums path) (reaction_over (table_in s) P A n)

unfoldable pub sums_after : List ℕ → (P A n : ℕ) → (sums : List ℕ) (path : ℕ) → List ℕ
sums_after s P A n sums path = if judged_passes? (judge_of s P A n (length sums) path) then sums_over (table_in s) P A n sums else sums

unfoldable pub path_after : List ℕ → (P A n : ℕ) → (sums : ℕ) (path : List ℕ) → List ℕ
path_after s P A n sums path = if judged_passes? (judge_of s P A n sums (length path)) then path_over (table_in s) P A n path else path
