-- The cases that are proved (docs/RULES.md, "Cases"), under the classroom table; proofs/Cases proves the one theorem over them.
use Rattle.std.specs.Prelude.{◌≡◌, List, [], ◌∷◌, ◌++◌, map, ℕ, length}
use Rattle.wire.specs.Made.{buffer_in}
use Rattle.wire.specs.Reply.{Reply, gives, refuses}
use Rattle.table.specs.declared.Table.{Table}
use Rattle.table.specs.Entries.{zeros, padded}
use Rattle.table.specs.Encode.{table_bytes}
use Rattle.records.specs.declared.Record.{Record}
use Rattle.records.specs.declared.Record.TheVariants.{Change, Poll, Test, Tick}
use Rattle.records.specs.Form as form
use Rattle.records.specs.Encode.{encode, kept}
use Rattle.journal.specs.Answer as journal
use Rattle.journal.specs.Check.{check_of}
use Rattle.reaction.specs.Answer as reaction
use Rattle.reaction.specs.Reaction.{react_of}
use Rattle.runtime.specs.Answer as runtime
use Rattle.runtime.specs.Run.{run_of, answer_of}

-- ---- The classroom table and its run

abbrev pub classroom_table : Table
classroom_table = record {
  states = 2;
  inputs = 2;
  outputs = 2;
  initial = 0;
  bound = 3;
  output = padded 32 (0 ∷ 1 ∷ []);
  next = padded 1024 (0 ∷ 1 ∷ 0 ∷ 1 ∷ []);
  hold = padded 32 (0 ∷ 5 ∷ []);
  delayed = padded 32 (0 ∷ 1 ∷ []);
  timers = 0;
  timing = zeros 8;
  sets = zeros 128;
}

abbrev pub classroom : List ℕ
classroom = table_bytes classroom_table

-- State 1 is entered at 3; input 0, which it delays, is polled at 7, in the cycle that starts at 6.
abbrev pub to_poll_at7 : List Record
to_poll_at7 =
    Change 1 1 ∷ Poll 2 1 ∷ Test 2 1 ∷ Tick 3 1 ∷ Change 3 0 ∷ Poll 5 0 ∷ Test 5 0 ∷ Tick 6 1 ∷ Poll 7 0 ∷ []

-- The run, with this verdict at 8.
abbrev pub run_with : ℕ → List Record
run_with verdict = to_poll_at7 ++ Test 8 verdict ∷ Tick 9 1 ∷ Poll 10 0 ∷ Test 10 1 ∷ Tick 11 0 ∷ []

-- A cycle that starts at 2, with its tick at this time.
abbrev pub tick_at : ℕ → List Record
tick_at time = Poll 1 0 ∷ Test 1 1 ∷ Tick 2 0 ∷ Poll 3 0 ∷ Test 3 1 ∷ Tick time 0 ∷ []

-- The journal of a run's records, and its stimulus.
abbrev pub journal_bytes : ℕ → List Record → ℕ → List ℕ
journal_bytes input rs end = encode form.journal input rs end

abbrev pub stimulus_bytes : ℕ → List Record → ℕ → List ℕ
stimulus_bytes input rs end = encode form.stimulus input (map (kept form.stimulus) rs) end

-- ---- What the entries reply

-- The journal check; the calculator with P and A; the runtime with a buffer of so many bytes.
abbrev pub check : List ℕ → Reply
check s = journal.reply_of (check_of classroom s)

abbrev pub react : ℕ → ℕ → Reply
react P A = reaction.reply_of (react_of classroom P A)

abbrev pub run : List ℕ → ℕ → Reply
run s room = runtime.reply_of (answer_of (run_of classroom s) room)

-- ---- The table of cases

-- What an entry replies, and what it has to.
pub record Case : Type 0 where
  pub reply : Reply
  pub expected : Reply

infix 6 ◌is◌
abbrev pub ◌is◌ : Reply → Reply → Case
reply is expected = record { reply = reply; expected = expected }

abbrev pub cases : List Case
cases =
    -- the run; the same with the changed verdict. The sixth number is the most ticks left: 4, at the test at 5; the
    -- seventh the longest cycle: 3
    (check (journal_bytes 0 (run_with 0) 12) is gives (12 ∷ 4 ∷ 2 ∷ 0 ∷ 0 ∷ 4 ∷ 3 ∷ [])) ∷
    (check (journal_bytes 0 (run_with 1) 12) is refuses 28 76) ∷
    -- opening field and end at 0; no bytes
    (check (journal_bytes 0 [] 0) is gives (0 ∷ 0 ∷ 0 ∷ 0 ∷ 0 ∷ 0 ∷ 0 ∷ [])) ∷
    (check [] is refuses 20 0) ∷
    -- entry 3, polled 0: a test at 8 is held and is not free; at 9 it is free and is not held
    (check (journal_bytes 0 (to_poll_at7 ++ Test 8 0 ∷ []) 8) is gives (8 ∷ 2 ∷ 1 ∷ 1 ∷ 1 ∷ 4 ∷ 3 ∷ [])) ∷
    (check (journal_bytes 0 (to_poll_at7 ++ Test 8 1 ∷ []) 8) is refuses 28 76) ∷
    (check (journal_bytes 0 (to_poll_at7 ++ Test 9 1 ∷ []) 9) is gives (9 ∷ 2 ∷ 1 ∷ 1 ∷ 1 ∷ 4 ∷ 3 ∷ [])) ∷
    (check (journal_bytes 0 (to_poll_at7 ++ Test 9 0 ∷ []) 9) is refuses 28 76) ∷
    -- a tick at cycle start + 3; at + 4
    (check (journal_bytes 0 (tick_at 5) 5) is gives (5 ∷ 2 ∷ 0 ∷ 0 ∷ 0 ∷ 0 ∷ 3 ∷ [])) ∷
    (check (journal_bytes 0 (tick_at 6) 6) is refuses 25 44) ∷
    -- a poll at the instant of a change to another input before it; a change after a poll at one instant
    (check (journal_bytes 0 (Change 1 1 ∷ Poll 1 1 ∷ []) 1) is refuses 27 12) ∷
    (check (journal_bytes 0 (Poll 1 0 ∷ Change 1 1 ∷ []) 1) is gives (1 ∷ 0 ∷ 0 ∷ 0 ∷ 0 ∷ 0 ∷ 0 ∷ [])) ∷
    -- P = {0,1} and A = {0}: c = 14, target {0}; A = {1}: c = 6, target {1}; P = {1} and A = {0}
    (react 3 1 is gives (14 ∷ 1 ∷ [])) ∷
    (react 3 2 is gives (6 ∷ 2 ∷ [])) ∷
    (react 2 1 is refuses 10 2) ∷
    -- the run's stimulus gives the run's journal
    (run (stimulus_bytes 0 (run_with 0) 12) 123 is gives (123 ∷ [])) ∷ []

-- And the journal stands in the buffer byte for byte.
abbrev pub CasesHold : Type 0
CasesHold =
    (map (λ c. c.reply) cases ≡ map (λ c. c.expected) cases)
    × (buffer_in (run_of classroom (stimulus_bytes 0 (run_with 0) 12)) (zeros 123) ≡ journal_bytes 0 (run_with 0) 12)

-- The bytes of the classroom table, of its journal and of its stimulus.
abbrev pub Sizes : Type 0
Sizes = (length classroom ≡ 48) × (length (journal_bytes 0 (run_with 0) 12) ≡ 123) × (length (stimulus_bytes 0 (run_with 0) 12) ≡ 111)
