-- What holds of the report of a season; proofs/Reports proves each.
use Rattle.std.specs.Prelude.{◌≡◌, List, [], ◌∷◌, ◌++◌, map, ℕ, ◌+◌, ◌*◌, ◌<◌, length, get_or, Ok, Err}
use Rattle.wire.specs.Encode.{Bytes}
use Rattle.table.specs.declared.Table.{Table}
use Rattle.table.specs.Entries.{total}
use Rattle.table.specs.Check.{table_answer, table_in}
use Rattle.table.specs.Under.{under_table}
use Rattle.records.specs.Form.{journal}
use Rattle.machine.specs.Walk.{RunOverBytes, ran, too_long, refused, run_over}
use Rattle.journal.specs.declared.Numbers.{Numbers}
use Rattle.journal.specs.Answer.{JournalAnswer}
use Rattle.journal.specs.Check.{numbers_of, check_of}
use Rattle.tally.specs.declared.Tally.{Tally}
use Rattle.tally.specs.Tally.{tally_of}
use Rattle.report.specs.declared.Refusal.TheVariants.{Full}
use Rattle.report.specs.declared.Report.{Report}
use Rattle.report.specs.Report.{begin_of, add_of}

-- A refused journal leaves the report as it was.
abbrev pub RefusedUnchanged : Type 0
RefusedUnchanged = (x : Report) (s : List ℕ) → ((add_of x s).answer ≡ Ok tt → ⊥) → (add_of x s).report ≡ x

-- ---- A season

-- The journals are added in turn.
unfoldable pub added_all : Report → List (List ℕ) → Report
added_all x [] = x
added_all x (s ∷ ss) = added_all (add_of x s).report ss

-- On the way no 35 comes.
unfoldable pub NoneFull : Report → List (List ℕ) → Type 0
NoneFull x [] = Unit
NoneFull x (s ∷ ss) = ((add_of x s).answer ≡ Err Full → ⊥) × NoneFull (add_of x s).report ss

-- The same journals in another order.
pub data Permuted : List (List ℕ) → List (List ℕ) → Type 0 where
  empty : Permuted [] []
  first : (s : List ℕ) {ss ss' : List (List ℕ)} → Permuted ss ss' → Permuted (s ∷ ss) (s ∷ ss')
  swapped : (s s' : List ℕ) (ss : List (List ℕ)) → Permuted (s ∷ s' ∷ ss) (s' ∷ s ∷ ss)
  further : {ss ss' ss'' : List (List ℕ)} → Permuted ss ss' → Permuted ss' ss'' → Permuted ss ss''

-- The order of adding makes no difference while no 35 comes.
abbrev pub AnyOrder : Type 0
AnyOrder = (x : Report) (ss ss' : List (List ℕ)) → Permuted ss ss' → NoneFull x ss → NoneFull x ss' × (added_all x ss ≡ added_all x ss')

-- ---- What it tells

-- What is known of an accepted journal: the numbers of the check, and where its time went.
pub record KnownJournal : Type 0 where
  pub numbers : Numbers
  pub tally : Tally

unfoldable pub known_of : Table → RunOverBytes → List KnownJournal
known_of t (ran input taken last) = record { numbers = numbers_of t input taken last; tally = tally_of t input taken last.time } ∷ []
known_of t too_long = []
known_of t (refused refusal place) = []

-- One for the bytes of a journal that is accepted; none for others.
unfoldable pub known_journal_in : (table s : List ℕ) → List KnownJournal
known_journal_in table s = under_table (λ answer. []) (λ t. known_of t (run_over journal t s)) table

-- They are the accepted ones, with the numbers of the check.
abbrev pub numbers_in : JournalAnswer → List Numbers
numbers_in (Ok n) = n ∷ []
numbers_in (Err refusal) = []

abbrev pub KnownAccepted : Type 0
KnownAccepted = (table s : List ℕ) → map (λ (j : KnownJournal). j.numbers) (known_journal_in table s) ≡ numbers_in (check_of table s)

-- The accepted ones of a season.
unfoldable pub accepted : List ℕ → List (List ℕ) → List KnownJournal
accepted table [] = []
accepted table (s ∷ ss) = known_journal_in table s ++ accepted table ss

-- The sum of a number over the journals.
unfoldable pub over_all : (KnownJournal → ℕ) → List KnownJournal → ℕ
over_all f [] = 0
over_all f (j ∷ js) = f j + over_all f js

abbrev pub at : List ℕ → ℕ → ℕ
at array k = get_or array k 0

-- Each number of the report is the sum of those of the accepted journals. All slots together are the sum of their T; those of a state with
-- each input are the slots in the state; the entries are the moves and one more for each journal.
pub record Tells (t : Table) (x : Report) (js : List KnownJournal) : Type 0 where
  pub journals : x.journals ≡ length js
  pub dwell : (q : ℕ) → q < 32 → at x.dwell q ≡ over_all (λ j. at j.tally.dwell q) js
  pub pairs : (k : ℕ) → k < 1024 → at x.pairs k ≡ over_all (λ j. at j.tally.pairs k) js
  pub entries : (q : ℕ) → q < 32 → at x.entries q ≡ over_all (λ j. at j.tally.entries q) js
  pub all_slots : total (at x.dwell) t.states ≡ over_all (λ j. j.numbers.end) js
  pub each_input : (q : ℕ) → q < t.states → total (λ a. at x.pairs (q * t.inputs + a)) t.inputs ≡ at x.dwell q
  pub all_entries : total (at x.entries) t.states ≡ over_all (λ j. j.numbers.moves + 1) js

abbrev pub AllBytes : List (List ℕ) → Type 0
AllBytes [] = Unit
AllBytes (s ∷ ss) = Bytes s × AllBytes ss

-- Begun with a table that passes, it tells all that, whatever was added, while no 35 comes: no sum of 64 bits wraps.
abbrev pub TellsAll : Type 0
TellsAll = (table : List ℕ) → table_answer table ≡ Ok tt → (ss : List (List ℕ)) → AllBytes ss → NoneFull (begin_of table).report ss →
    Tells (table_in table) (added_all (begin_of table).report ss) (accepted table ss)
