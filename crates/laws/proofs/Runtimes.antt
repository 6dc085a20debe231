-- The theorems about the runtime, as specs/Runtimes states them.
use mathlib.Core.Path.{◌≡◌, refl, sym, ap, ◌∙◌}
use mathlib.Core.List.{List, [], ◌∷◌, ◌++◌, map}
use mathlib.Core.Bool.{Bool, true, false}
use Prim.Native.Nat.{ℕ, ◌≤◌}
use native.Mathlib.Omega.{arith}
use borrow.Author.Tests.{le-ltb, ltb-false}
use lib.ListN.{length, take, drop}
use lib.Seq.{take-append_seam}
use Rattle.std.specs.Prelude.{if◌then◌else◌, Ok, Err}
use Rattle.wire.specs.Choice.{◌<?◌, ◌≤?◌}
use Rattle.wire.specs.Encode.{Bytes}
use Rattle.wire.specs.Made as Made
use Rattle.wire.specs.Made.{buffer_in}
use Rattle.wire.proofs.Apart.{apart}
use Rattle.wire.proofs.Choice.{both}
use Rattle.table.specs.declared.Table.{Table}
use Rattle.table.specs.Table.{output_of, WellFormed}
use Rattle.table.specs.Encode.{table_bytes}
use Rattle.table.specs.Check.{table_answer}
use Rattle.table.proofs.Under.{under_passes, under_either}
use Rattle.records.specs.declared.Record.{Record}
use Rattle.records.specs.declared.Record.TheVariants.{Change, Poll, Test, Tick, End}
use Rattle.records.specs.Record.{time_of, is_end, latest}
use Rattle.records.specs.Form as form
use Rattle.records.specs.Form.{longest_stimulus}
use Rattle.records.specs.Encode.{written_in, encode, kept, WritableRecord, Inner}
use Rattle.records.proofs.Written.{stimulus_recovers}
use Rattle.records.proofs.Says.{in_time, all_kept, keeps_all}
use Rattle.machine.specs.declared.Machine.{Machine}
use Rattle.machine.specs.Machine.{start, agrees, after}
use Rattle.machine.specs.Run.{Runs, ticks, ticks_of, moves_from, most_left}
use Rattle.machine.specs.Walk.{in_table, RunOverBytes, ran, too_long, run_over}
use Rattle.machine.specs.Walk as walk
use Rattle.machine.specs.Lent.{Underway}
use Rattle.machine.proofs.Steps.{step_taken, fits_after, start_fits}
use Rattle.machine.proofs.Walk.{completed_in_range}
use Rattle.machine.proofs.Over.{went_through}
use Rattle.journal.specs.Check.{check_under, answer_of_run}
use Rattle.journal.specs.declared.Numbers.{Numbers}
use Rattle.writing.specs.declared.Refusal.TheVariants.{BufferTooShort}
use Rattle.runtime.specs.declared.Refusal.TheVariants.{Journal}
use Rattle.runtime.specs.Run.{journal_made, made_of_run, made_under, run_of, answer_of}
use Rattle.runtime.proofs.Lengths.{under_short}
use Rattle.machine.specs.RunsOver.{RunsOver}
use Rattle.laws.specs.Journals.{AcceptedRun, JournalOf}
use Rattle.laws.specs.Runtimes as laws
use Rattle.laws.specs.Runtimes.{StimulusOf, event_for, JournalFor, AcceptedFor, OnlyJournal}
use Rattle.laws.specs.Runtimes.{KeepsTheStimulus, WritesAccepted, WritesTheOnly, SucceedsExactly}
use Rattle.laws.specs.Runtimes.{RunsExactly, WritesTheJournal}
use Rattle.laws.proofs.Tables.{passes_exactly, holds_that_table}
use Rattle.machine.proofs.RunsOver.{completed_again, kept_end, kept_none, over_written, over_runs, runs_over}
use Rattle.laws.proofs.Journals.{run_accepted, under}

-- ---- Records of a journal, and their events

module _ (t : Table) where
  -- A record of a journal may be written as it is.
  -- Its event is in range too.
  event_in_range : (r : Record) → in_table form.journal t r ≡ true → in_table form.stimulus t (event_for r) ≡ true
  event_in_range (Change time input) h = h
  event_in_range (Poll time input) h = (both (time ≤? latest) _ h).0
  event_in_range (Test time verdict) h = (both (time ≤? latest) _ h).0
  event_in_range (Tick time state) h = (both (time ≤? latest) _ h).0
  event_in_range (End time) h = h

  event_keeps : (r : Record) → (is_end (event_for r) ≡ is_end r) × (time_of (event_for r) ≡ time_of r) × (kept form.stimulus (event_for r) ≡ event_for r)
  event_keeps (Change time input) = (refl, refl, refl)
  event_keeps (Poll time input) = (refl, refl, refl)
  event_keeps (Test time verdict) = (refl, refl, refl)
  event_keeps (Tick time state) = (refl, refl, refl)
  event_keeps (End time) = (refl, refl, refl)

  journal_writable : (before : ℕ) (r : Record) → in_table form.journal t r ≡ true → WritableRecord form.journal (in_table form.journal t) before r
  journal_writable before r h = record { in_range = h; whole = all_kept form.journal refl r; small = omega (arith, in_time form.journal t.states t.inputs r h); timed = refl }

  event_writable : (before : ℕ) (r : Record) → in_table form.journal t r ≡ true → WritableRecord form.stimulus (in_table form.stimulus t) before (event_for r)
  event_writable before r h =
      let k = event_keeps r in
      record { in_range = event_in_range r h; whole = k.2; small = omega (arith, in_time form.journal t.states t.inputs r h, k.1); timed = refl }

  inner_events : (end before before' : ℕ) (rs : List Record) → Inner form.journal (in_table form.journal t) before rs end →
      Inner form.stimulus (in_table form.stimulus t) before' (map event_for rs) end
  inner_events end before before' [] w = event_writable before' (End end) w.in_range
  inner_events end before before' (r ∷ rs) (no_end, w, inner) =
      ((event_keeps r).0 ∙ no_end, event_writable before' r w.in_range, inner_events end _ _ rs inner)

  -- Records that the machine takes are in range where their events are.
  module _ (good : WellFormed t) where
    taken_in_range : (m : Machine) → Underway t m → (r : Record) → agrees t m r ≡ true → in_table form.stimulus t (event_for r) ≡ true → in_table form.journal t r ≡ true
    taken_in_range m fits r agreed h =
        sym (ap (in_table form.journal t) (completed_again form.stimulus t m r agreed)) ∙ completed_in_range form.stimulus t m good fits (event_for r) h

    inner_taken : (last : Machine) (end before before' : ℕ) (m : Machine) → Underway t m → (rs : List Record) → Runs t m (rs ++ End end ∷ []) last →
        Inner form.stimulus (in_table form.stimulus t) before (map event_for rs) end → Inner form.journal (in_table form.journal t) before' rs end
    inner_taken last end before before' m fits [] runs w = journal_writable before' (End end) w.in_range
    inner_taken last end before before' m fits (r ∷ rs) (steps, more) (no_end, w, inner) =
        let range = taken_in_range m fits r (step_taken t m r _ steps).0.agreed w.in_range in (
          sym (event_keeps r).0 ∙ no_end,
          journal_writable before' r range,
          inner_taken last end _ _ (after t m r) (fits_after t m r good fits range) rs more inner,
        )

-- The events of a list of records up to its end.
map_end : (rs : List Record) (end : ℕ) → map event_for (rs ++ End end ∷ []) ≡ map event_for rs ++ End end ∷ []
map_end [] end = refl
map_end (r ∷ rs) end = ap (λ l. event_for r ∷ l) (map_end rs end)

split_end : (taken es : List Record) (end : ℕ) → map event_for taken ≡ es ++ End end ∷ [] →
    (rs : List Record) × (taken ≡ rs ++ End end ∷ []) × (map event_for rs ≡ es)
split_end [] [] end e = apart cc
split_end [] (x ∷ es) end e = apart cc
split_end (r ∷ taken) [] end e =
    let is : r ≡ End end = kept_end form.stimulus r end (cc) in
    let none : taken ≡ [] = kept_none form.stimulus taken (cc) in
    ([], rw (is, none) refl, refl)
split_end (r ∷ taken) (x ∷ es) end e =
    let is : event_for r ≡ x = cc in
    let rest = split_end taken es end (cc) in
    (r ∷ rest.0, ap (λ l. r ∷ l) rest.1, rw (is, rest.2) refl)

event_ticks : (r : Record) → ticks r ≡ ticks (event_for r)
event_ticks (Change time input) = refl
event_ticks (Poll time input) = refl
event_ticks (Test time verdict) = refl
event_ticks (Tick time state) = refl
event_ticks (End time) = refl

ticks_kept : (rs : List Record) → ticks_of rs ≡ ticks_of (map event_for rs)
unfolding ticks_of
ticks_kept [] = refl
ticks_kept (r ∷ rs) = omega (arith, event_ticks r, ticks_kept rs)

-- The stimulus of a journal is one.
stimulus_of : (t : Table) (s j : List ℕ) (input : ℕ) (rs : List Record) (end : ℕ) → JournalFor t s j input rs end →
    StimulusOf t s input (map event_for rs) end
stimulus_of t s j input rs end f = record {
  opens = f.journal.opens;
  inner = inner_events t end 0 0 rs f.journal.inner;
  is = f.stimulus;
}

-- ---- What a run that wrote a journal says

-- The machine went through the stimulus, and the journal is of the records that it took.
pub record Wrote (t : Table) (s j : List ℕ) : Type 0 where
  pub input : ℕ
  pub taken : List Record
  pub last : Machine
  pub through : run_over form.stimulus t s ≡ ran input taken last
  pub is : j ≡ written_in form.journal input taken

pub wrote : (t : Table) (s j : List ℕ) → made_under t s ≡ journal_made j → Wrote t s j
unfolding made_of_run
wrote t s j e = go (run_over form.stimulus t s) refl e
  where
    go : (r : RunOverBytes) → run_over form.stimulus t s ≡ r → made_of_run r ≡ journal_made j → Wrote t s j
    go (ran input taken last) is f = record { input = input; taken = taken; last = last; through = is; is = cc }
    go too_long is f = apart cc
    go (walk.refused refusal place) is f = apart cc

-- The journal's records are those of a run, and their events are the stimulus's.
record Filled (t : Table) (j : List ℕ) (input : ℕ) (es : List Record) (end : ℕ) : Type 0 where
  inside : List Record
  events_are : map event_for inside ≡ es
  journal_is : JournalOf t j input inside end
  last : Machine
  runs : Runs t (start t.initial input) (inside ++ End end ∷ []) last

filled : (t : Table) → WellFormed t → (s : List ℕ) (input : ℕ) (es : List Record) (end : ℕ) → StimulusOf t s input es end →
    (j : List ℕ) → made_under t s ≡ journal_made j → Filled t j input es end
unfolding encode
filled t good s input es end st j e =
    let w = wrote t s j e in
    let o = over_written form.stimulus t s w.input w.taken w.last input es end st w.through in
    let p = split_end w.taken es end o.1 in
    let runs = rw (o.0, p.1) at o.2 in
    let fits = start_fits t input good st.opens in
    let inner = inner_taken t good w.last end 0 0 (start t.initial input) fits p.0 runs (rw p.2 st.inner) in
    record {
      inside = p.0;
      events_are = p.2;
      journal_is = record { opens = st.opens; inner = inner; is = rw (o.0, p.1) at w.is };
      last = w.last;
      runs = runs;
    }

-- ---- What the runtime writes

pub keeps_the_stimulus : KeepsTheStimulus
keeps_the_stimulus t good s bytes j e =
    let w = wrote t s j e in
    let o = over_runs form.stimulus t s w.input w.taken w.last stimulus_recovers bytes w.through in
    let f = filled t good s w.input o.said o.end o.written j e in
    (w.input, f.inside, o.end, record { journal = f.journal_is; stimulus = rw f.events_are o.written.is })

pub writes_accepted : WritesAccepted
writes_accepted t good s input es end st j e =
    let f = filled t good s input es end st j e in
    let state = f.last.state in
    let n : Numbers = record {
      end = end;
      ticks = ticks_of es;
      moves = moves_from t.initial f.inside;
      state = state;
      output = output_of t state;
      left = most_left t (start t.initial input) f.inside;
      longest = f.last.longest;
    } in
    let a : AcceptedRun form.journal t j n = record {
      short = omega (arith, rw e at (under_short t s));
      input = input;
      records = f.inside;
      written = f.journal_is;
      last = f.last;
      runs = f.runs;
      ticks_are = ap ticks_of (sym f.events_are) ∙ sym (ticks_kept f.inside);
      moves_are = refl;
      state_is = refl;
      output_is = refl;
      left_is = refl;
      longest_is = refl;
    } in
    (n, refl, refl, run_accepted form.journal refl t j n a)

-- ---- Any accepted journal with that stimulus

pub accepted_runs : (t : Table) (j : List ℕ) (input : ℕ) (rs : List Record) (end : ℕ) → JournalOf t j input rs end →
    (n : Numbers) → check_under form.journal t j ≡ Ok n →
    (last : Machine) × Runs t (start t.initial input) (rs ++ End end ∷ []) last
unfolding answer_of_run
accepted_runs t j input rs end is n e = go (run_over form.journal t j) refl e
  where
    go : (r : RunOverBytes) → run_over form.journal t j ≡ r → answer_of_run t r ≡ Ok n →
        (last : Machine) × Runs t (start t.initial input) (rs ++ End end ∷ []) last
    go (ran input' taken last) r f =
        let o = over_written form.journal t j input' taken last input rs end is r in
        let all : taken ≡ rs ++ End end ∷ [] = sym (keeps_all form.journal refl taken) ∙ o.1 in
        (last, rw (o.0, all) at o.2)
    go too_long r f = apart cc
    go (walk.refused refusal place) r f = apart cc

-- The runtime writes it, if the stimulus is within its limit.
pub writes : (t : Table) (s j : List ℕ) → length s ≤ longest_stimulus → AcceptedFor t s j → made_under t s ≡ journal_made j
unfolding made_of_run encode
writes t s j short a =
    let r = accepted_runs t j a.input a.records a.end a.for.journal a.numbers a.accepted in
    let taken = a.records ++ End a.end ∷ [] in
    let over : RunsOver form.stimulus t s a.input taken r.0 = record {
      short = short;
      said = map event_for a.records;
      end = a.end;
      written = stimulus_of t s j a.input a.records a.end a.for;
      says = map_end a.records a.end;
      runs = r.1;
    } in
    ap made_of_run (runs_over form.stimulus t s a.input taken r.0 over) ∙ ap journal_made (sym a.for.journal.is)

pub writes_the_only : WritesTheOnly
writes_the_only t s j e j' a =
    let w = wrote t s j e in
    let short = (went_through form.stimulus t s w.input w.taken w.last w.through).short in
    let same : journal_made j' ≡ journal_made j = sym (writes t s j' short a) ∙ e in
    cc

-- ---- Success

-- A journal that has room.
fitting : (j : List ℕ) (room size : ℕ) → answer_of (journal_made j) room ≡ Ok size → (length j ≡ size) × (size ≤ room)
unfolding Made.answer_in
fitting j room size e = go (room <? length j) refl e
  where
    go : (short : Bool) → (room <? length j) ≡ short → (if short then Err (Journal BufferTooShort) else Ok (length j)) ≡ Ok size → (length j ≡ size) × (size ≤ room)
    go true is f = apart cc
    go false is f =
        let same : length j ≡ size = cc in
        let fits = ltb-false room (length j) is in
        (same, omega arith)

module _ (t : Table) (good : WellFormed t) (s : List ℕ) (bytes : Bytes s) where
  pub accepted_for : (j : List ℕ) → made_under t s ≡ journal_made j → AcceptedFor t s j
  accepted_for j e =
      let k = keeps_the_stimulus t good s bytes j e in
      let st = stimulus_of t s j k.0 k.1 k.2 k.3 in
      let a = writes_accepted t good s k.0 (map event_for k.1) k.2 st j e in
      record {
        input = k.0;
        records = k.1;
        end = k.2;
        for = k.3;
        numbers = a.0;
        accepted = a.3;
        end_is = a.1;
      }

  succeeded : (room size : ℕ) → answer_of (made_under t s) room ≡ Ok size → laws.Writable t s room size
  unfolding made_of_run Made.answer_in
  succeeded room size e = go (run_over form.stimulus t s) refl e
    where
      go : (r : RunOverBytes) → run_over form.stimulus t s ≡ r → answer_of (made_of_run r) room ≡ Ok size → laws.Writable t s room size
      go (ran input taken last) is f =
          let j = written_in form.journal input taken in
          let p = fitting j room size f in
          record {
            journal = j;
            accepted = accepted_for j (ap made_of_run is);
            size_is = p.0;
            fits = p.1;
            short = (went_through form.stimulus t s input taken last is).short;
          }
      go too_long is f = apart cc
      go (walk.refused refusal place) is f = apart cc

  succeeds : (room size : ℕ) → laws.Writable t s room size → answer_of (made_under t s) room ≡ Ok size
  unfolding Made.answer_in
  succeeds room size w = rw (writes t s w.journal w.short w.accepted, w.size_is, le-ltb room size w.fits) refl

pub succeeds_exactly : SucceedsExactly
succeeds_exactly t good s bytes room size = (succeeded t good s bytes room size, succeeds t good s bytes room size)

-- ---- The entry

module _ (table s : List ℕ) where
  pub runs_under : (t : Table) → WellFormed t → table ≡ table_bytes t → made_under t s ≡ run_of table s
  unfolding run_of
  runs_under t good is =
      let h = holds_that_table table t good is in
      sym (under_passes _ _ table h.0 ∙ ap (λ x. made_under x s) h.1)

  table_passes : (room size : ℕ) → answer_of (run_of table s) room ≡ Ok size → table_answer table ≡ Ok tt
  unfolding run_of Made.answer_in
  table_passes room size =
      under_either _ _ table (λ m. answer_of m room ≡ Ok size → table_answer table ≡ Ok tt)
      (λ e f. e) (λ refusal is f. apart cc)

pub runs_exactly : RunsExactly
runs_exactly table s bytes_of_table bytes room size = (
  (λ e.
      let p = (passes_exactly table bytes_of_table).0 (table_passes table s room size e) in
      let same = runs_under table s p.0 p.1 p.2 in
      (p.0, p.1, p.2, succeeded p.0 p.1 s bytes room size (ap (λ r. answer_of r room) same ∙ e))),
  (λ p.
      ap (λ r. answer_of r room) (sym (runs_under table s p.0 p.1 p.2))
      ∙ succeeds p.0 p.1 s bytes room size p.3),
)

-- A journal that fits stands at the start of the buffer.
in_front : (j before : List ℕ) (size : ℕ) → length j ≡ size → size ≤ length before → take size (buffer_in (journal_made j) before) ≡ j
unfolding buffer_in
in_front j before size is fits =
    let has_room = le-ltb (length before) (length j) (omega arith) in
    rw (← is) (simp has_room (take-append_seam j (drop (length j) before)))

pub writes_the_journal : WritesTheJournal
writes_the_journal table s before bytes_of_table bytes size e =
    let p = (runs_exactly table s bytes_of_table bytes (length before) size).0 e in
    let w = p.3 in
    let made = writes p.0 s w.journal w.short w.accepted in
    let same = sym (runs_under table s p.0 p.1 p.2) ∙ made in
    let front = ap (λ r. take size (buffer_in r before)) same ∙ in_front w.journal before size w.size_is w.fits in
    rw front (only_journal table s bytes p.0 p.1 p.2 w.journal made)
  where
    only_journal : (table' s' : List ℕ) → Bytes s' → (t : Table) → WellFormed t → table' ≡ table_bytes t → (j : List ℕ) → made_under t s' ≡ journal_made j →
        OnlyJournal table' s' j
    only_journal table' s' bytes' t good is j made =
        let k = keeps_the_stimulus t good s' bytes' j made in
        let st = stimulus_of t s' j k.0 k.1 k.2 k.3 in
        let a = writes_accepted t good s' k.0 (map event_for k.1) k.2 st j made in
        record {
          under = t;
          well_formed = good;
          table_is = is;
          input = k.0;
          records = k.1;
          end = k.2;
          for = k.3;
          numbers = a.0;
          accepted = sym (under table' j t good is) ∙ a.3;
          end_is = a.1;
          ticks_are = a.2;
          only = writes_the_only t s' j made;
        }
