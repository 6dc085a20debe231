-- Tight times over several moves: docs/RULES.md, "Tight times over several moves". P is a set of states and A a set of
-- inputs, each a number; n is how many moves.
use Rattle.std.specs.Prelude.{List, ℕ, ◌+◌, ◌-◌, ◌*◌, if◌then◌else◌}
use Rattle.wire.specs.Choice.{◌=?◌}
use Rattle.table.specs.declared.Table.{Table}
use Rattle.table.specs.Table.{hold_of}
use Rattle.table.specs.Check.{table_in}
use Rattle.reaction.specs.Reaction.{from_hold}
use Rattle.moves.specs.Answer.{judged_then}
use Rattle.moves.specs.Moves.{next_times, largest_sum, judge_of, reaction_over}
use Rattle.tight.specs.declared.Tight.{Tight}
use Rattle.tight.specs.Answer.{Over}

-- The tight weight of a state: hold + 2E - 1 where its weight comes from a hold, and E elsewhere.
unfoldable pub tight_weight : Table → (A q : ℕ) → ℕ
tight_weight t A q = if from_hold t A q then hold_of t q + 2 * t.bound - 1 else t.bound

-- E - 1 and the largest sum of these along a path of at most n states; E where there is no path. Each is above 0, and so is the sum of a path.
unfoldable pub tight_time_over : Table → (P A n : ℕ) → ℕ
tight_time_over t P A n =
    let sum = largest_sum t P A (next_times t P A n) (tight_weight t A) n in
    if sum =? 0 then t.bound else t.bound + sum - 1

-- ---- The entry

-- The time and the target over several moves, and this beside them.
unfoldable pub times_over : Table → (P A n : ℕ) → Tight
times_over t P A n = record {
  time = (reaction_over t P A n).time;
  target = (reaction_over t P A n).target;
  tight = tight_time_over t P A n;
}

-- Room for the sums and the path of 32 moves.
abbrev pub room_for_sums : ℕ
room_for_sums = 1024

abbrev pub room_for_path : ℕ
room_for_path = 63

-- On the bytes of a table: what the calculator over several moves turns down with such room, so that it lacks none, is turned down.
unfoldable pub tight_moves_of : List ℕ → (P A n : ℕ) → Over
tight_moves_of s P A n = judged_then (judge_of s P A n room_for_sums room_for_path) (times_over (table_in s) P A n)
