-- What holds of the converter as a whole; proofs/Conversions proves each.
use Rattle.std.specs.Prelude.{◌≡◌, List, ℕ, ◌≤◌, length, take, if◌then◌else◌, Ok, Err}
use Rattle.wire.specs.Encode.{Bytes}
use Rattle.wire.specs.Made.{answer_in, buffer_in}
use Rattle.table.specs.declared.Table.{Table}
use Rattle.table.specs.Check.{table_answer, table_in}
use Rattle.table.specs.Encode.{table_bytes}
use Rattle.records.specs.Form.{Form}
use Rattle.journal.specs.Check.{check_in, check_under}
use Rattle.reaction.specs.Reaction.{reaction_of, react_of}
use Rattle.moves.specs.Answer as moves
use Rattle.moves.specs.Answer.{judged_passes?, judged_then}
use Rattle.moves.specs.Moves.{judge, reaction_over, sums_over, path_over, moves_of, sums_after, path_after}
use Rattle.tight.specs.Answer as tight
use Rattle.tight.specs.Answer.{Over}
use Rattle.tight.specs.Tight.{tight_time, beside, react_tight_of}
use Rattle.tight.specs.Several.{times_over, room_for_sums, room_for_path, tight_moves_of}
use Rattle.runtime.specs.Run.{made_under, run_of}
use Rattle.convert.specs.declared.Refusal.TheVariants.{BufferTooShort}
use Rattle.convert.specs.Answer.{ConvertAnswer}
use Rattle.convert.specs.Convert.{emptied, made_of}

-- The answer on the bytes of an old table with a lent buffer, and what then stands at the start of the buffer.
abbrev pub conversion_answer : (old buffer : List ℕ) → ConvertAnswer
conversion_answer old buffer = answer_in (Err BufferTooShort) (made_of old) (length buffer)

abbrev pub new_table : (old buffer : List ℕ) → List ℕ
new_table old buffer = take (length old) (buffer_in (made_of old) buffer)

-- The converter succeeds: it changed so many states.
pub record Converts (old buffer : List ℕ) (changed : ℕ) : Type 0 where
  pub bytes : Bytes old
  pub succeeds : conversion_answer old buffer ≡ Ok changed

-- ---- The calculators under a table, whatever the check says of it

-- The answer for one move, with the tight time beside it.
abbrev pub tight_under : Table → (P A : ℕ) → tight.TightAnswer
tight_under t P A = beside (tight_time t P A) (reaction_of t P A)

-- For several moves the answer, the lent sums afterwards and the lent path afterwards, by what the judge says.
module _ (t : Table) (P A n : ℕ) where
  abbrev pub moves_under : (sums path : ℕ) → moves.MovesAnswer
  moves_under sums path = judged_then (judge t P A n sums path) (reaction_over t P A n)

  abbrev pub sums_under : (sums : List ℕ) (path : ℕ) → List ℕ
  sums_under sums path = if judged_passes? (judge t P A n (length sums) path) then sums_over t P A n sums else sums

  abbrev pub path_under : (sums : ℕ) (path : List ℕ) → List ℕ
  path_under sums path = if judged_passes? (judge t P A n sums (length path)) then path_over t P A n path else path

  -- And the answer with the tight time over them.
  abbrev pub tight_moves_under : Over
  tight_moves_under = judged_then (judge t P A n room_for_sums room_for_path) (times_over t P A n)

-- ---- The theorems

module _ (old buffer : List ℕ) where
  -- What it writes is the old table with those sets emptied, and passes the check.
  abbrev pub NowPasses : Type 0
  NowPasses = (new_table old buffer ≡ table_bytes (emptied (table_in old))) × (table_answer (new_table old buffer) ≡ Ok tt)

  -- In every form, journals and short ones among them, the check on the new table answers as the machine's rules have it under the old one;
  abbrev pub SameJournals : Type 0
  SameJournals = (F : Form) (s : List ℕ) → check_in F (new_table old buffer) s ≡ check_under F (table_in old) s

  -- so does the runtime with every stimulus,
  abbrev pub SameRuns : Type 0
  SameRuns = (s : List ℕ) → run_of (new_table old buffer) s ≡ made_under (table_in old) s

  -- and the calculator with every set of states and of inputs,
  abbrev pub SameReactions : Type 0
  SameReactions = (P A : ℕ) → react_of (new_table old buffer) P A ≡ reaction_of (table_in old) P A

  -- with the tight time beside it,
  abbrev pub SameTightTimes : Type 0
  SameTightTimes = (P A : ℕ) → react_tight_of (new_table old buffer) P A ≡ tight_under (table_in old) P A

  -- for every number of moves, with the sums and the path that it writes,
  abbrev pub SameMoves : Type 0
  SameMoves = (P A n : ℕ) (sums path : List ℕ) →
      (moves_of (new_table old buffer) P A n (length sums) (length path) ≡ moves_under (table_in old) P A n (length sums) (length path))
      × (sums_after (new_table old buffer) P A n sums (length path) ≡ sums_under (table_in old) P A n sums (length path))
      × (path_after (new_table old buffer) P A n (length sums) path ≡ path_under (table_in old) P A n (length sums) path)

  -- and with the tight time over them.
  abbrev pub SameTightMoves : Type 0
  SameTightMoves = (P A n : ℕ) → tight_moves_of (new_table old buffer) P A n ≡ tight_moves_under (table_in old) P A n

-- Whatever it converts behaves as before.
abbrev pub ConvertsFaithfully : Type 0
ConvertsFaithfully = (old buffer : List ℕ) (changed : ℕ) → Converts old buffer changed →
    NowPasses old buffer × SameJournals old buffer × SameRuns old buffer × SameReactions old buffer × SameTightTimes old buffer × SameMoves old buffer
    × SameTightMoves old buffer

-- A table with holds that passes the check comes back byte for byte, with 0, in every buffer that has room.
abbrev pub PassingComesBack : Type 0
PassingComesBack = (s buffer : List ℕ) → Bytes s → table_answer s ≡ Ok tt → (table_in s).timers ≡ 0 → length s ≤ length buffer →
    (conversion_answer s buffer ≡ Ok 0) × (new_table s buffer ≡ s)

-- Converting twice changes nothing more.
abbrev pub ConvertsOnce : Type 0
ConvertsOnce = (old buffer again : List ℕ) (changed : ℕ) → Converts old buffer changed → length old ≤ length again →
    (conversion_answer (new_table old buffer) again ≡ Ok 0) × (new_table (new_table old buffer) again ≡ new_table old buffer)
