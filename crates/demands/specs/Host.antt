-- The journal check and the runtime from the view of a host program in C; src/lib.rt has both as contracts, so that what is lent are bytes.
use Rattle.std.specs.Prelude.{◌≡◌, List, [], ◌∷◌, ◌++◌, map, ℕ, ◌≤◌, length, drop}
use Rattle.table.specs.declared.Table.{Table}
use Rattle.table.specs.Table.{WellFormed}
use Rattle.table.specs.Encode.{words, table_bytes}
use Rattle.records.specs.Form as form
use Rattle.records.specs.Form.{longest_stimulus}
use Rattle.records.specs.Encode.{encode}
use Rattle.journal.specs.declared.Numbers.{Numbers}
use Rattle.journal.specs.Answer.{listed}
use Rattle.laws.specs.Journals.{AcceptedRun}
use Rattle.laws.specs.Runtimes.{event_for}
use Rattle.demands.specs.Demands.{Accepts, HoldsRun}

-- ---- The journal check

-- The bytes hold a run of the table's timed automaton, and its numbers stand at the start of the answer buffer.
pub record RunTold (table journal before after : List ℕ) : Type 0 where
  pub n : Numbers
  pub run : HoldsRun table journal n.end
  pub under : Table
  pub well_formed : WellFormed under
  pub table_is : table ≡ table_bytes under
  pub numbers : AcceptedRun form.journal under journal n
  pub answer : after ≡ words (listed n) ++ drop 28 before

-- 0 is given back for every such run, and for nothing else.
pub record JudgesRuns (table journal before : List ℕ) (code : ℕ) (after : List ℕ) : Type 0 where
  pub every : (T : ℕ) → HoldsRun table journal T → code ≡ 0
  pub only : code ≡ 0 → RunTold table journal before after

-- ---- The runtime

-- The journal is one for the stimulus: it holds a run of the table's timed automaton that ends at T, and the stimulus, which is not too long,
-- has its inputs and times, and of each record all but the polled input, the verdict and the state.
pub record RunFor (table stimulus journal : List ℕ) (T : ℕ) : Type 0 where
  pub run : HoldsRun table journal T
  pub stimulus_is : stimulus ≡ encode form.stimulus run.input (map event_for run.holds.before_end) T
  pub short : length stimulus ≤ longest_stimulus

-- The one such journal stands at the start of its buffer, and its length at the start of the answer buffer; the rest of both is as it was.
pub record JournalTold (table stimulus buffer before later after : List ℕ) : Type 0 where
  pub journal : List ℕ
  pub T : ℕ
  pub run : RunFor table stimulus journal T
  pub one : (other : List ℕ) (end : ℕ) → RunFor table stimulus other end → other ≡ journal
  pub accepted : Accepts table journal T
  pub fits : length journal ≤ length buffer
  pub written : later ≡ journal ++ drop (length journal) buffer
  pub answer : after ≡ words (length journal ∷ []) ++ drop 4 before

-- 0 is given back for every stimulus for which there is one that fits, and for nothing else.
pub record PerformsRuns (table stimulus buffer before : List ℕ) (code : ℕ) (later after : List ℕ) : Type 0 where
  pub every : (journal : List ℕ) (T : ℕ) → RunFor table stimulus journal T → length journal ≤ length buffer → code ≡ 0
  pub only : code ≡ 0 → JournalTold table stimulus buffer before later after
