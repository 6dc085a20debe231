-- Tight reaction times: docs/RULES.md, "Reaction times". P is a set of states and A a set of inputs, each a number.
use Rattle.std.specs.Prelude.{List, ℕ, ◌+◌, ◌-◌, ◌*◌, Ok, Err, if◌then◌else◌}
use Rattle.sets.specs.Sets.{some, largest}
use Rattle.table.specs.declared.Table.{Table}
use Rattle.table.specs.Table.{hold_of}
use Rattle.table.specs.Check.{table_in}
use Rattle.reaction.specs.Answer as reaction
use Rattle.reaction.specs.Reaction.{next_set, off_target, from_hold, react_of}
use Rattle.tight.specs.Answer.{TightAnswer, ReactsTight}

-- What p needs: hold + 3E - 2 where its weight comes from a hold, and 2E - 1 elsewhere.
unfoldable pub need_of : Table → (A p : ℕ) → ℕ
need_of t A p = if from_hold t A p then hold_of t p + 3 * t.bound - 2 else 2 * t.bound - 1

-- The largest need of a state that is in P and not in the target, or E if there is none.
unfoldable pub tight_time : Table → (P A : ℕ) → ℕ
tight_time t P A =
    let target = next_set t P A in
    if some t.states (off_target P target) then largest t.states (off_target P target) (need_of t A) else t.bound

-- The calculator's time and target, and this beside them; what it refuses is refused.
abbrev pub beside : (tight : ℕ) → reaction.ReactionAnswer → TightAnswer
beside tight (Ok r) = ReactsTight r.time r.target tight
beside tight (Err refusal) = Err refusal

-- On the bytes of a table.
unfoldable pub react_tight_of : List ℕ → (P A : ℕ) → TightAnswer
react_tight_of s P A = beside (tight_time (table_in s) P A) (react_of s P A)
