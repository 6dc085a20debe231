-- What a host is told, as specs/Host states it.
use mathlib.Core.Path.{◌≡◌, refl, sym, ap, ◌∙◌}
use mathlib.Core.List.{List, [], ◌∷◌, ◌++◌}
use mathlib.Core.Bool.{Bool, true, false}
use Prim.Native.Nat.{ℕ, ◌≤◌}
use native.Mathlib.Omega.{arith}
use borrow.Author.Tests.{le-ltb}
use lib.ListN.{length, drop}
use Rattle.std.specs.Prelude.{if◌then◌else◌, Ok, Err}
use Rattle.wire.specs.Choice.{◌<?◌}
use Rattle.wire.specs.Encode.{Bytes}
use Rattle.wire.specs.Made.{answer_in, buffer_in}
use Rattle.wire.specs.Reply.{gives, refuses}
use Rattle.table.specs.declared.Table.{Table}
use Rattle.table.specs.Table.{WellFormed}
use Rattle.table.specs.Encode.{table_bytes}
use Rattle.table.specs.Answer as table_answers
use Rattle.table.specs.Check.{table_answer, table_in}
use Rattle.table.specs.Under.{under_table}
use Rattle.table.proofs.Answers.{decided}
use Rattle.records.specs.declared.Record.TheVariants.{End}
use Rattle.records.specs.Form.{longest_stimulus, journal, stimulus}
use Rattle.records.specs.Encode.{written_in}
use Rattle.records.specs.Refusal.{stopped}
use Rattle.records.proofs.Places.{refusal_numbered}
use Rattle.machine.specs.Machine.{start}
use Rattle.machine.specs.Walk.{RunOverBytes, ran, too_long, refused, run_over}
use Rattle.journal.specs.declared.Numbers.{Numbers}
use Rattle.journal.specs.Answer.{listed, reply_of}
use Rattle.journal.specs.Check.{check_of}
use Rattle.writing.specs.declared.Refusal.TheVariants as why
use Rattle.runtime.specs.declared.Refusal.TheVariants as runtime
use Rattle.runtime.specs.Answer as run_answer
use Rattle.runtime.specs.Answer.{RuntimeAnswer}
use Rattle.runtime.specs.Run as run
use Rattle.runtime.specs.Run.{made_of_run, run_of}
use Rattle.runs.proofs.Automaton.{machine_is_automaton}
use Rattle.krossvil.specs.Host.{told, code_of, answer_after, buffer_after, journal_told, run_told, run_journal}
use Rattle.krossvil.proofs.Outcomes.{told_fits}
use Rattle.krossvil.proofs.Accepting.{table_numbered, not_zero, zero_accepted}
use Rattle.krossvil.proofs.Writers.{on_success}
use Rattle.laws.specs.Runtimes.{AcceptedFor, Writable}
use Rattle.laws.proofs.Journals.{ends_at, checks_exactly}
use Rattle.laws.proofs.Lengths.{never_too_long}
use Rattle.laws.proofs.Runtimes.{accepted_runs, writes, runs_under, runs_exactly}
use Rattle.demands.specs.Host.{JudgesRuns, RunFor, JournalTold, PerformsRuns}
use Rattle.demands.proofs.Demands.{run_taken, holds_accepted, accepted_is_run}

-- ---- The journal check

module _ (table s before : List ℕ) (bytes_of_table : Bytes table) (bytes : Bytes s) (enough : 28 ≤ length before) where
  fits : (n : Numbers) → check_of table s ≡ Ok n → journal_told table s (length before) ≡ gives (listed n)
  fits n is = ap (λ a. told (reply_of a) (length before)) is ∙ told_fits (reply_of (Ok n)) (length before) enough

  pub judges_runs : JudgesRuns table s before (code_of (journal_told table s (length before))) (answer_after (journal_told table s (length before)) before)
  judges_runs = record {
    every = λ T run.
        let a = (accepted_is_run table s bytes_of_table bytes T).1 run in
        ap code_of (fits a.numbers a.answer);
    only = λ zero.
        let a = zero_accepted journal table s (length before) zero in
        let p = (checks_exactly table s bytes_of_table bytes a.n).0 a.is in
        record {
          n = a.n;
          run = (accepted_is_run table s bytes_of_table bytes a.n.end).0 (record { numbers = a.n; answer = a.is; end_is = refl });
          under = p.0;
          well_formed = p.1;
          table_is = p.2;
          numbers = p.3;
          answer = ap (λ reply. answer_after reply before) (fits a.n a.is);
        };
  }

-- ---- The runtime

-- An answer that is told as 0 says that the journal is written.
module _ (room answer : ℕ) where
  abbrev code_for : RuntimeAnswer → ℕ
  code_for a = code_of (told (run_answer.reply_of a) answer)

  under_written : (r : RunOverBytes) → code_for (run.answer_of (made_of_run r) room) ≡ 0 → (size : ℕ) × (run.answer_of (made_of_run r) room ≡ Ok size)
  unfolding made_of_run answer_in
  under_written (ran input taken last) e = go (room <? length bytes) e
    where
      bytes : List ℕ
      bytes = written_in journal input taken

      go : (b : Bool) → code_for (if b then Err (runtime.Journal why.BufferTooShort) else Ok (length bytes)) ≡ 0 →
          (size : ℕ) × ((if b then Err (runtime.Journal why.BufferTooShort) else Ok (length bytes)) ≡ Ok size)
      go true f = absurd (not_zero (refuses 30 0) refl answer f)
      go false f = (length bytes, refl)
  under_written too_long e = absurd (not_zero (refuses 19 0) refl answer e)
  under_written (refused refusal place) e = absurd (not_zero (run_answer.reply_of (Err (runtime.Journal (why.Record (stopped refusal place))))) (refusal_numbered refusal) answer e)

  zero_written : (table s : List ℕ) → code_for (run.answer_of (run_of table s) room) ≡ 0 → (size : ℕ) × (run.answer_of (run_of table s) room ≡ Ok size)
  unfolding run_of under_table answer_in
  zero_written table s e =
      decided (table_answer table)
      (λ pass. rw pass (under_written (run_over stimulus (table_in table) s) (rw pass at e)))
      (λ refusal is. absurd (not_zero (table_answers.table_refusal refusal) (table_numbered refusal) answer (rw is at e)))

-- A journal for the stimulus is an accepted one that has it, and back.
accepted_for : {table s j : List ℕ} {T : ℕ} (r : RunFor table s j T) → AcceptedFor r.run.t s j
accepted_for {T = T} r =
    let taken = run_taken r.run in
    record {
      input = r.run.input;
      records = r.run.holds.before_end;
      end = T;
      for = record { journal = r.run.holds.journal_is; stimulus = r.stimulus_is };
      numbers = taken.0;
      accepted = taken.2;
      end_is = taken.1;
    }

run_for : {table s j : List ℕ} (t : Table) → WellFormed t → table ≡ table_bytes t → run_of table s ≡ run.journal_made j →
    (a : AcceptedFor t s j) → length s ≤ longest_stimulus → RunFor table s j a.end
run_for {table} {s} {j} t ok is made a short =
    let records = a.records ++ End a.end ∷ [] in
    let taken = accepted_runs t j a.input a.records a.end a.for.journal a.numbers a.accepted in
    let end = ends_at t a.end (start t.initial a.input) taken.0 a.records taken.1 in
    record {
      run = record {
        short = omega (arith, never_too_long table s j made);
        t = t;
        input = a.input;
        records = records;
        holds = record { well_formed = ok; table_is = is; before_end = a.records; journal_is = a.for.journal; records_are = refl };
        run = (machine_is_automaton t ok a.input records a.end).0 (record { last = taken.0; runs = taken.1; ends = sym end });
      };
      stimulus_is = a.for.stimulus;
      short = short;
    }

module _ (table s buffer before : List ℕ) (bytes_of_table : Bytes table) (bytes : Bytes s) (enough : 4 ≤ length before) where
  told_is : (size : ℕ) → run.answer_of (run_of table s) (length buffer) ≡ Ok size → run_told table s buffer (length before) ≡ gives (size ∷ [])
  told_is size is = ap (λ a. told (run_answer.reply_of a) (length before)) is ∙ told_fits (gives (size ∷ [])) (length before) enough

  made_is : (j : List ℕ) (T : ℕ) → RunFor table s j T → run_of table s ≡ run.journal_made j
  made_is j T r =
      sym (runs_under table s r.run.t r.run.holds.well_formed r.run.holds.table_is) ∙ writes r.run.t s j r.short (accepted_for r)

  stands : (j : List ℕ) → run_of table s ≡ run.journal_made j → length j ≤ length buffer → buffer_in (run_of table s) buffer ≡ j ++ drop (length j) buffer
  unfolding buffer_in
  stands j made fits = rw (made, le-ltb (length buffer) (length j) fits) refl

  performed : (size : ℕ) → run.answer_of (run_of table s) (length buffer) ≡ Ok size → (t : Table) → WellFormed t → table ≡ table_bytes t →
      Writable t s (length buffer) size →
      JournalTold table s buffer before (run_journal table s buffer (length before)) (answer_after (run_told table s buffer (length before)) before)
  performed size is t ok table_is w =
      let made = sym (runs_under table s t ok table_is) ∙ writes t s w.journal w.short w.accepted in
      let r = run_for t ok table_is made w.accepted w.short in
      let fits = rw (← w.size_is) at w.fits in
      let reply = told_is size is ∙ ap (λ n. gives (n ∷ [])) (sym w.size_is) in
      record {
        journal = w.journal;
        T = w.accepted.end;
        run = r;
        one = λ other end o. let same = sym (made_is other end o) ∙ made in cc;
        accepted = holds_accepted r.run;
        fits = fits;
        written =
            ap (λ reply. buffer_after reply (buffer_in (run_of table s) buffer) buffer) reply
            ∙ sym (on_success (length w.journal ∷ []) buffer (buffer_in (run_of table s) buffer)) ∙ stands w.journal made fits;
        answer = ap (λ reply. answer_after reply before) reply;
      }

  pub performs_runs : PerformsRuns table s buffer before (code_of (run_told table s buffer (length before))) (run_journal table s buffer (length before))
      (answer_after (run_told table s buffer (length before)) before)
  performs_runs = record {
    every = λ j T r fits.
        let w : Writable r.run.t s (length buffer) (length j) = record { journal = j; accepted = accepted_for r; size_is = refl; fits = fits; short = r.short } in
        let is = (runs_exactly table s bytes_of_table bytes (length buffer) (length j)).1 (r.run.t, r.run.holds.well_formed, r.run.holds.table_is, w) in
        ap code_of (told_is (length j) is);
    only = λ zero.
        let size = zero_written (length buffer) (length before) table s zero in
        let p = (runs_exactly table s bytes_of_table bytes (length buffer) size.0).0 size.1 in
        performed size.0 size.1 p.0 p.1 p.2 p.3;
  }
