-- The converter: a table that passes by the old rules, with those delayed sets emptied that do nothing. docs/RULES.md, "Tables".
use Rattle.std.specs.Prelude.{List, ◌++◌, ◌&&◌, not, ℕ, ◌+◌, take, Ok, Err, if◌then◌else◌}
use Rattle.wire.specs.Choice.{◌=?◌}
use Rattle.wire.specs.Made.{Made, refused, made}
use Rattle.table.specs.declared.Counts.{Counts}
use Rattle.table.specs.declared.Table.{Table}
use Rattle.table.specs.Table.{hold_of, delayed_of, timed_with}
use Rattle.table.specs.Entries.{values, total, filled_to, zeros}
use Rattle.table.specs.Check.{word_entry, hold_field, delayed_field, counts_in, old_answer}
use Rattle.table.specs.Under.{under_answer}
use Rattle.table.specs.Encode.{words}
use Rattle.convert.specs.declared.Refusal.TheVariants as why
use Rattle.convert.specs.Answer.{ConvertAnswer}

-- ---- One state

-- Its delayed set from now on: none where it has no hold.
abbrev pub new_set : (hold set : ℕ) → ℕ
new_set hold set = if hold =? 0 then 0 else set

-- 1 where that is a change, else 0.
abbrev pub change : (hold set : ℕ) → ℕ
change hold set = if (hold =? 0) && not (set =? 0) then 1 else 0

-- ---- The table as one value

abbrev pub with_sets : Table → List ℕ → Table
with_sets t sets = timed_with t t.hold sets t.timers t.timing t.sets

unfoldable pub emptied : Table → Table
emptied t = with_sets t (filled_to (λ q. new_set (hold_of t q) (delayed_of t q)) t.states (zeros 32))

-- ---- Its bytes

-- By state, from the bytes of the table: where its holds and its sets stand, and what is asked of the two.
abbrev pub by_state : (ℕ → ℕ → ℕ) → List ℕ → (holds sets : ℕ) → ℕ → ℕ
by_state f s holds sets q = f (word_entry s holds q) (word_entry s sets q)

-- Up to the sets of field 06 the old bytes; then each state's set from now on.
unfoldable pub new_bytes : Counts → List ℕ → List ℕ
new_bytes c s = take (delayed_field c + 3) s ++ words (values (by_state new_set s (hold_field c) (delayed_field c)) c.states)

unfoldable pub changes : Counts → List ℕ → ℕ
changes c s = total (by_state change s (hold_field c) (delayed_field c)) c.states

-- The refusals of the old check come first.
unfoldable pub made_of : List ℕ → Made ConvertAnswer
made_of s =
    under_answer (λ refusal. refused (Err (why.Table refusal))) (made (Ok (changes (counts_in s) s)) (new_bytes (counts_in s) s)) (old_answer s)
