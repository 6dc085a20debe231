-- By how much the tight time is below the time: never above it, and at most two ticks below. proofs/Below proves it.
use Rattle.std.specs.Prelude.{◌≡◌, List, true, false, ℕ, ◌+◌, ◌-◌, ◌*◌, ◌≤◌, if◌then◌else◌}
use Rattle.wire.specs.Choice.{◌=?◌}
use Rattle.table.specs.declared.Table.{Table}
use Rattle.table.specs.Check.{table_in}
use Rattle.reaction.specs.Answer as reaction
use Rattle.reaction.specs.Reaction.{off_target, from_hold, react_of}
use Rattle.tight.specs.Answer.{ReactsTight}
use Rattle.tight.specs.Tight.{react_tight_of}

-- By the time alone: it is E where no state of P lies outside the target, 2E where the largest weight is E, and above that where it comes
-- from a hold.
unfoldable pub tightened : (time E : ℕ) → ℕ
tightened time E = if time =? E then time else if time =? 2 * E then time - 1 else time - 2

-- Not at all where no state of P lies outside the target; by 1 where there are such states, and no weight of theirs comes from a hold; by 2
-- where the weight of one of them does.
pub data Below (t : Table) (P A target time tight : ℕ) : Type 0 where
  same : ((p : ℕ) → off_target P target p ≡ false) → tight ≡ time → Below t P A target time tight
  by_one : (p : ℕ) → off_target P target p ≡ true → ((q : ℕ) → off_target P target q ≡ true → from_hold t A q ≡ false) → tight + 1 ≡ time →
      Below t P A target time tight
  by_two : (p : ℕ) → off_target P target p ≡ true → from_hold t A p ≡ true → tight + 2 ≡ time → Below t P A target time tight

-- For any bytes, of the entry's own answer: time and target are the calculator's, and the tight time is never above the time.
pub record Tighter (s : List ℕ) (P A time target tight : ℕ) : Type 0 where
  pub calculated : react_of s P A ≡ reaction.Reacts time target
  pub never_above : tight ≤ time
  pub below : Below (table_in s) P A target time tight

abbrev pub NeverAbove : Type 0
NeverAbove = (s : List ℕ) (P A time target tight : ℕ) → react_tight_of s P A ≡ ReactsTight time target tight → Tighter s P A time target tight
