-- Acceptance and demand 3, as specs/Demands states them.
use mathlib.Core.Path.{◌≡◌, refl, sym, ap, ◌∙◌}
use mathlib.Core.List.{List, [], ◌∷◌, ◌++◌}
use Prim.Native.Nat.{ℕ, ◌^◌}
use borrow.Author.Tests.{lt-ltb}
use Rattle.std.specs.Prelude.{Ok}
use Rattle.wire.specs.Encode.{Bytes}
use Rattle.sets.proofs.Members.{below_limit}
use Rattle.table.specs.declared.Table.{Table}
use Rattle.table.specs.Table.{WellFormed}
use Rattle.table.specs.Encode.{table_bytes}
use Rattle.table.specs.Check.{table_answer, table_in}
use Rattle.records.specs.declared.Record.{Record}
use Rattle.records.specs.declared.Record.TheVariants.{End}
use Rattle.records.specs.Form as form
use Rattle.records.proofs.Written.{records_are_one, journal_recovers}
use Rattle.records.proofs.Says.{keeps_all}
use Rattle.records.specs.Record.{is_test}
use Rattle.machine.specs.Machine.{start, left, after}
use Rattle.machine.specs.Run.{Runs, most_left}
use Rattle.machine.specs.Walk.{in_table}
use Rattle.machine.specs.RunsOver.{RunsOver}
use Rattle.machine.specs.declared.Machine.{Machine}
use Rattle.machine.specs.Most.{MostOf}
use Rattle.machine.specs.Longest.{LongestOf}
use Rattle.machine.proofs.RunsOver.{runs_over}
use Rattle.machine.proofs.Left.{left_until_free, left_is_most}
use Rattle.machine.proofs.Longest.{longest_is_cycle}
use Rattle.journal.specs.declared.Numbers.{Numbers}
use Rattle.journal.specs.Check.{numbers_of, answer_of_run, check_under, check_of}
use Rattle.reaction.specs.Answer.{Reacts}
use Rattle.reaction.specs.Reaction.{next_set, reaction_time, reaction_of, react_of}
use Rattle.reaction.proofs.Meaning.{only_answer}
use Rattle.reaction.proofs.Entry.{reacted}
use Rattle.moves.proofs.Fitting.{Fits, fits}
use Rattle.runs.specs.Accepted as runs
use Rattle.runs.specs.Automaton.{RunOf}
use Rattle.runs.proofs.Automaton.{machine_is_automaton}
use Rattle.laws.specs.Journals.{AcceptedRun}
use Rattle.laws.proofs.Moves.{answered}
use Rattle.laws.proofs.Tables.{holds_that_table}
use Rattle.laws.proofs.Journals.{ends_at, left_end, under, accepts_exactly, checks_exactly}
use Rattle.demands.specs.Runs.{Calculated}
use Rattle.demands.specs.Demands.{Accepts, Holds, HoldsRun, LeftTold, LongestTold, AcceptedIsRun, LeftIsMost, LongestIsCycle, AcceptedJournal, NotTooSoon, NotTooSoonBy, NotTooLate, NotTooLateByMoves}
use Rattle.demands.proofs.Runs.{runs_not_too_soon, runs_not_too_soon_by, runs_not_too_late, runs_not_too_late_by_moves}

-- ---- Acceptance

-- The run of an accepted journal without its bytes and its numbers.
of_run : {t : Table} {s : List ℕ} {n : Numbers} (a : AcceptedRun form.journal t s n) →
    runs.Accepted t a.input (a.records ++ End n.end ∷ []) n.end
of_run {t} {n = n} a = record {
  last = a.last;
  runs = a.runs;
  ends = sym (ends_at t n.end (start t.initial a.input) a.last a.records a.runs);
}

most_of : (t : Table) (m : Machine) (rs : List Record) (most : ℕ) → most ≡ most_left t m rs → MostOf (after t) is_test (left t) m rs most
most_of t m rs most is = rw is (left_is_most t m rs)

longest_of : (t : Table) (input : ℕ) (rs : List Record) (last : Machine) → Runs t (start t.initial input) rs last → (longest : ℕ) →
    longest ≡ last.longest → LongestOf t rs longest
longest_of t input rs last runs longest is = rw is (longest_is_cycle t t.initial input rs last runs)

-- What the bytes of an accepted journal hold.
module _ (table journal : List ℕ) (bytes_of_table : Bytes table) (bytes : Bytes journal) (n : Numbers) (answer : check_of table journal ≡ Ok n) where
  found : (t : Table) × WellFormed t × (table ≡ table_bytes t) × AcceptedRun form.journal t journal n
  found = (checks_exactly table journal bytes_of_table bytes n).0 answer

  abbrev all : List Record
  all = found.3.records ++ End n.end ∷ []

  held : Holds table journal found.0 found.3.input all n.end
  held = record {
    well_formed = found.1;
    table_is = found.2;
    before_end = found.3.records;
    journal_is = found.3.written;
    records_are = refl;
  }

  to_run : HoldsRun table journal n.end
  to_run = record {
    short = found.3.short;
    t = found.0;
    input = found.3.input;
    records = all;
    holds = held;
    run = (machine_is_automaton found.0 found.1 found.3.input all n.end).0 (of_run found.3);
  }

  left_told : LeftTold table journal n
  left_told = record {
    t = found.0;
    input = found.3.input;
    records = all;
    holds = held;
    most = most_of found.0 _ all n.left (found.3.left_is ∙ sym (left_end found.0 _ found.3.records n.end));
    until_free = left_until_free found.0 found.0.initial found.3.input all found.3.last found.3.runs;
  }

  longest_told : LongestTold table journal n
  longest_told =
      let cycle = longest_of found.0 found.3.input all found.3.last found.3.runs n.longest found.3.longest_is in
      record { t = found.0; input = found.3.input; records = all; holds = held; longest = cycle }

-- A run in bytes is accepted under its table, with its end.
pub run_taken : {table journal : List ℕ} {T : ℕ} (r : HoldsRun table journal T) →
    (n : Numbers) × (n.end ≡ T) × (check_under form.journal r.t journal ≡ Ok n)
unfolding answer_of_run
run_taken {table} {journal} {T} r =
    let h = r.holds in
    let records = h.before_end ++ End T ∷ [] in
    let a = (machine_is_automaton r.t h.well_formed r.input records T).1 (rw h.records_are at r.run) in
    let over : RunsOver form.journal r.t journal r.input records a.last =
    record { short = r.short; said = h.before_end; end = T; written = h.journal_is; says = keeps_all form.journal refl records; runs = a.runs } in
    (numbers_of r.t r.input records a.last, a.ends, ap (answer_of_run r.t) (runs_over form.journal r.t journal r.input records a.last over))

pub holds_accepted : {table journal : List ℕ} {T : ℕ} → HoldsRun table journal T → Accepts table journal T
holds_accepted {table} {journal} r =
    let taken = run_taken r in
    record {
      numbers = taken.0;
      answer = sym (under table journal r.t r.holds.well_formed r.holds.table_is) ∙ taken.2;
      end_is = taken.1;
    }

pub accepted_is_run : AcceptedIsRun
accepted_is_run table journal bytes_of_table bytes T =
    (λ a. rw (← a.end_is) (to_run table journal bytes_of_table bytes a.numbers a.answer), holds_accepted)

pub left_is_the_most : LeftIsMost
left_is_the_most table journal bytes_of_table bytes n answer = left_told table journal bytes_of_table bytes n answer

pub longest_is_a_cycle : LongestIsCycle
longest_is_a_cycle table journal bytes_of_table bytes n answer = longest_told table journal bytes_of_table bytes n answer

-- ---- The table and the records of an accepted journal

module _ {table journal : List ℕ} {t : Table} {input : ℕ} {records : List Record} {T : ℕ}
    (j : AcceptedJournal table journal t input records T) where
  pub accepted : runs.Accepted t input records T
  accepted =
      let a = j.accepted in
      let h = j.holds in
      let answer = under table journal t h.well_formed h.table_is ∙ a.answer in
      let run = (accepts_exactly form.journal refl journal_recovers t journal j.bytes a.numbers).0 answer in
      let one = records_are_one form.journal (in_table form.journal t) t.inputs journal _ _ _ _ T _ h.journal_is run.written in
      rw (← one.0, ← one.1, a.end_is, ← h.records_are) at (of_run run)

  pub read : (table_answer table ≡ Ok tt) × (table_in table ≡ t)
  read = holds_that_table table t j.holds.well_formed j.holds.table_is

  pub run : RunOf t input records T
  run = (machine_is_automaton t j.holds.well_formed input records T).0 accepted

  -- Where the calculator gives a time and a target, they are those of the table.
  pub calculated : {P A c target : ℕ} → react_of table P A ≡ Reacts c target → Calculated t P A c target
  calculated {P} {A} {c} {target} e =
      let ok = j.holds.well_formed in
      let given = reacted table P A c target e in
      record {
        well_formed = ok;
        no_timers = rw read.1 at given.no_timers;
        answer = sym (only_answer t ok P A (Reacts c target) (rw read.1 at given.means));
      }

-- ---- Demand 3

pub accepted_not_too_soon : NotTooSoon
accepted_not_too_soon table journal t input records T j = runs_not_too_soon t j.holds.well_formed input records T (run j)

pub accepted_not_too_soon_by : NotTooSoonBy
accepted_not_too_soon_by table journal t input records T j k real = runs_not_too_soon_by t j.holds.well_formed k real input records T (run j)

pub accepted_not_too_late : NotTooLate
accepted_not_too_late table journal t input records T j P A c target e = runs_not_too_late t P A c target (calculated j e) input records T (run j)

-- Where several moves are answered, one move is.
pub calculated_by : {t : Table} {P A n sums path : ℕ} → Fits t P A n sums path → Calculated t P A (reaction_time t P A) (next_set t P A)
unfolding reaction_of
calculated_by {t} {P} {A} ok = record {
  well_formed = ok.all.table;
  no_timers = ok.no_timers;
  answer =
      rw (lt-ltb P (2 ^ t.states) (below_limit P t.states ok.all.states), lt-ltb A (2 ^ t.inputs) (below_limit A t.inputs ok.all.inputs), ok.search);
}

pub accepted_not_too_late_by_moves : NotTooLateByMoves
accepted_not_too_late_by_moves table journal t input records T j P A n sums path r e =
    let same = (read j).1 in
    let answer = answered table P A n sums path r e in
    let ok = rw same at (fits table P A n sums path answer.0) in
    rw (answer.1, same) (runs_not_too_late_by_moves t P A _ _ (calculated_by ok) n input records T (run j))
