-- Tight times in slots, and the two that are least, as specs/Tight states them.
use mathlib.Core.Path.{◌≡◌, refl, sym, ◌∙◌}
use mathlib.Core.List.{List, [], ◌∷◌, ◌++◌}
use mathlib.Core.Bool.{Bool, true, false, not}
use Prim.Native.Nat.{ℕ, zero, suc, ◌+◌, ◌-◌, ◌<◌}
use native.Mathlib.Omega.{arith}
use borrow.Author.Tests.{ltb-true}
use lib.Dec.{lit<}
use Rattle.std.specs.Prelude.{Ok}
use Rattle.wire.specs.Choice.{◌<?◌, ◌and◌}
use Rattle.wire.specs.Encode.{Bytes, field}
use Rattle.wire.specs.Field.{field_at}
use Rattle.wire.proofs.Choice.{never, both}
use Rattle.sets.specs.Sets.{member, some, set_of, largest}
use Rattle.sets.proofs.Members.{some_if}
use Rattle.table.specs.declared.Table.{Table}
use Rattle.table.specs.Table.{WellFormed}
use Rattle.table.specs.Answer.{◌or_else◌, ◌and_then◌}
use Rattle.table.specs.Entries.{entries_from, values}
use Rattle.table.specs.Encode.{words, timing, table_bytes}
use Rattle.table.specs.Check.{expected_field, field_answer, row_answer, below, set_answer, counts_answer, bound_answer, holds_answer, tagged, timing_answer, entries_answer}
use Rattle.table.specs.Check.{answer_by, timers_in, table_with, table_answer, table_in}
use Rattle.table.specs.Under.{under_table}
use Rattle.table.proofs.WellFormed.{well_formed}
use Rattle.records.specs.declared.Record.{Record}
use Rattle.records.specs.declared.Record.TheVariants.{End}
use Rattle.records.specs.Form as form
use Rattle.records.specs.Reading.{length_fits, known_in, known_with, opening_in, opening_with, record_of, ranged, record_in, record_at, items_from, items_of}
use Rattle.records.specs.Encode.{bytes_of, bytes_from, encode}
use Rattle.records.proofs.Written.{journal_recovers}
use Rattle.records.proofs.Says.{keeps_all}
use Rattle.machine.specs.declared.Machine.{Machine}
use Rattle.machine.specs.Verdict.{rule_by, strongest, largest_over}
use Rattle.machine.specs.Machine.{start, rule, verdict, left, state_after, regions_after, last_change, gate, step}
use Rattle.machine.specs.Walk.{walk, records_run, run_opened, ran, run_over}
use Rattle.machine.proofs.RunsOver.{over_runs}
use Rattle.journal.specs.Check.{numbers_of, answer_of_run}
use Rattle.reaction.specs.Reaction.{next_set, weight_of, reaction_time, first_from, first_leaving, reaction_of, for_holds, react_of}
use Rattle.runs.specs.Slots.{slot, input_at, state_at}
use Rattle.tight.specs.Answer.{ReactsTight}
use Rattle.tight.specs.Tight.{need_of, tight_time, react_tight_of}
use Rattle.tight.specs.Several.{tight_weight, tight_time_over, room_for_sums, room_for_path, times_over, tight_moves_of}
use Rattle.moves.specs.Moves.{next_times, worst, round, sums_of, path_from, largest_sum, worst_start, worst_path, judge, judge_of, reaction_over}
use Rattle.tight.proofs.Entry.{entry_gives}
use Rattle.tight.proofs.Judged.{answered}
use Rattle.moves.proofs.Fitting.{fits}
use Rattle.laws.proofs.Journals.{ends_at, under}
use Rattle.demands.specs.Runs.{StaysIn}
use Rattle.demands.specs.Demands.{AcceptedJournal}
use Rattle.demands.specs.Cases.{classroom_table, classroom, journal_bytes}
use Rattle.demands.specs.Tight.{TightNotTooLate, TightNotTooLateByMoves, LongerIsEnough, Enough, TooShort, IsLeast, Least, LeastOver}
use Rattle.demands.specs.Tight.{records_of_twelve, journal_of_twelve, records_of_five, journal_of_five, LeastTimes, mixer_table, records_of_mixer, LeastOverMoves}
use Rattle.demands.proofs.Runs.{runs_not_too_late_tight, runs_not_too_late_tight_by_moves}
use Rattle.demands.proofs.Demands.{read, run, calculated, calculated_by}

-- Slots that fulfil the premise for the longer time fulfil that for the shorter one, from later on.
pub longer_is_enough : LongerIsEnough
longer_is_enough table P A target c longer l enough journal t input records T j s u stays =
    let later = s + (longer - c) in
    let is : later + c ≡ s + longer = omega arith in
    rw is at (enough journal t input records T j later (omega arith) (λ k from to. stays k (omega arith) (omega arith)))

-- ---- Demand 3 with the tight time

pub tight_not_too_late : TightNotTooLate
tight_not_too_late table P A time target tight e journal t input records T j =
    let given = entry_gives table P A time target tight e in
    rw (given.1, (read j).1) (runs_not_too_late_tight t P A time target (calculated j given.0) input records T (run j))

pub tight_not_too_late_by_moves : TightNotTooLateByMoves
tight_not_too_late_by_moves table P A n time target tight e journal t input records T j =
    let answer = answered table P A n time target tight e in
    let same = (read j).1 in
    let ok = rw same at (fits table P A n room_for_sums room_for_path answer.passes) in
    rw (answer.target_is, answer.tight_is, same) (runs_not_too_late_tight_by_moves t P A _ _ (calculated_by ok) n input records T (run j))

-- ---- A journal that the machine goes through

-- It is accepted, and holds the records taken.
journal_accepted : (table journal : List ℕ) (t : Table) (input : ℕ) (taken : List Record) (last : Machine) → WellFormed t → table ≡ table_bytes t →
    Bytes journal → run_over form.journal t journal ≡ ran input taken last → AcceptedJournal table journal t input taken last.time
unfolding answer_of_run
journal_accepted table journal t input taken last ok table_is bytes through =
    let h = over_runs form.journal t journal input taken last journal_recovers bytes through in
    let all : taken ≡ h.said ++ End h.end ∷ [] = sym (keeps_all form.journal refl taken) ∙ h.says in
    let same : h.end ≡ last.time = ends_at t h.end (start t.initial input) last h.said (rw all at h.runs) in
    record {
      bytes = bytes;
      accepted = record {
        numbers = numbers_of t input taken last;
        answer = sym (under table journal t ok table_is) ∙ rw through refl;
        end_is = refl;
      };
      holds = record {
        well_formed = ok;
        table_is = table_is;
        before_end = h.said;
        journal_is = rw same at h.written;
        records_are = rw same at all;
      };
    }

-- Bytes that were looked at one by one.
all_bytes : List ℕ → Bool
all_bytes [] = true
all_bytes (b ∷ s) = (b <? 256) and all_bytes s

are_bytes : (s : List ℕ) → all_bytes s ≡ true → Bytes s
unfolding all_bytes
are_bytes [] e k = omega arith
are_bytes (b ∷ s) e zero = ltb-true b 256 (both (b <? 256) _ e).0
are_bytes (b ∷ s) e (suc k) = are_bytes s (both (b <? 256) _ e).1 k

-- Slots that were looked at one by one.
module _ (t : Table) (input : ℕ) (records : List Record) (P A s c : ℕ) where
  abbrev in_sets : ℕ → Bool
  in_sets k = member P (state_at t input records k) and member A (input_at t input records k)

  looked_at : some c (λ k. not (in_sets (s + k))) ≡ false → StaysIn t input records P A s c
  looked_at none k from to =
      let is : s + (k - s) ≡ k = omega arith in
      both (member P (state_at t input records k)) _ (rw is at (go (in_sets (s + (k - s))) refl))
    where
      go : (b : Bool) → in_sets (s + (k - s)) ≡ b → b ≡ true
      go true e = refl
      go false e = never (sym none ∙ some_if c (λ k. not (in_sets (s + k))) (k - s) (omega arith) (rw e))

-- ---- Least

least_of : (table : List ℕ) (P A target tight : ℕ) (journal : List ℕ) (input : ℕ) (records : List Record) → Enough table P A target tight →
    TooShort table journal input records P A target (tight - 1) → IsLeast table P A target tight journal input records
least_of table P A target tight journal input records enough shown = record {
  enough = enough;
  shown = shown;
  least = λ c l enough.
      let later = longer_is_enough table P A target c (tight - 1) (omega arith) enough in
      never (sym shown.outside
      ∙ later journal shown.t input records shown.T shown.accepted shown.s shown.ends_later shown.stays_in);
}

one_least : (table : List ℕ) (P A time target tight : ℕ) (journal : List ℕ) (input : ℕ) (records : List Record) →
    react_tight_of table P A ≡ ReactsTight time target tight → TooShort table journal input records P A target (tight - 1) →
    Least table P A time target tight journal input records
one_least table P A time target tight journal input records answer shown = record {
  answer = answer;
  is = least_of table P A target tight journal input records (tight_not_too_late table P A time target tight answer) shown;
}

over_least : (table : List ℕ) (P A n time target tight : ℕ) (journal : List ℕ) (input : ℕ) (records : List Record) →
    tight_moves_of table P A n ≡ ReactsTight time target tight → TooShort table journal input records P A target (tight - 1) →
    LeastOver table P A n time target tight journal input records
over_least table P A n time target tight journal input records answer shown = record {
  answer = answer;
  is = least_of table P A target tight journal input records (tight_not_too_late_by_moves table P A n time target tight answer) shown;
}

-- What is left to look at, one journal at a time: its bytes, the machine's run over them, and its slots.
shows : (t : Table) → WellFormed t → (journal : List ℕ) (P A target c s input : ℕ) (records : List Record) (last : Machine) → all_bytes journal ≡ true →
    run_over form.journal t journal ≡ ran input records last → s + c < last.time →
    some c (λ k. not (in_sets t input records P A s c (s + k))) ≡ false →
    member target (state_at t input records (s + c)) ≡ false → TooShort (table_bytes t) journal input records P A target c
shows t ok journal P A target c s input records last bytes through later none out = record {
  t = t;
  T = last.time;
  accepted = journal_accepted (table_bytes t) journal t input records last ok refl (are_bytes journal bytes) through;
  s = s;
  ends_later = later;
  stays_in = looked_at t input records P A s c none;
  outside = out;
}

passes_well : (t : Table) → table_answer (table_bytes t) ≡ Ok tt → table_in (table_bytes t) ≡ t → WellFormed t
passes_well t passes is = rw is at (well_formed (table_bytes t) passes)

classroom_well_formed : WellFormed classroom_table
unfolding field field_at ◌or_else◌ ◌and_then◌ entries_from values table_bytes words timing expected_field field_answer row_answer below set_answer tagged
    counts_answer bound_answer holds_answer timing_answer entries_answer answer_by timers_in table_with
classroom_well_formed = passes_well classroom_table refl refl

mixer_well_formed : WellFormed mixer_table
unfolding field field_at ◌or_else◌ ◌and_then◌ entries_from values table_bytes words timing expected_field field_answer row_answer below set_answer tagged
    counts_answer bound_answer holds_answer timing_answer entries_answer answer_by timers_in table_with
mixer_well_formed = passes_well mixer_table refl refl

pub least_times : LeastTimes
unfolding field field_at some set_of largest ◌or_else◌ ◌and_then◌ entries_from values table_bytes words expected_field field_answer row_answer below set_answer tagged timing
    counts_answer bound_answer holds_answer timing_answer entries_answer answer_by timers_in table_with under_table length_fits known_in known_with opening_in opening_with record_of
    ranged record_in record_at items_from items_of rule_by strongest largest_over rule verdict left regions_after state_after last_change gate step walk
    records_run run_opened run_over next_set weight_of reaction_time first_from first_leaving reaction_of for_holds react_of need_of tight_time react_tight_of slot all_bytes
least_times = (
  one_least classroom 3 1 _ _ _ journal_of_twelve 1 records_of_twelve refl
      (shows classroom_table classroom_well_formed journal_of_twelve 3 1 _ _ 1 1 records_of_twelve _ refl refl (lit< tt) refl refl),
  one_least classroom 3 2 _ _ _ journal_of_five 0 records_of_five refl
      (shows classroom_table classroom_well_formed journal_of_five 3 2 _ _ 1 0 records_of_five _ refl refl (lit< tt) refl refl),
)

abbrev mixed : List Record
mixed = records_of_mixer ++ End 59 ∷ []

pub least_over_moves : LeastOverMoves
unfolding field field_at some set_of largest ◌or_else◌ ◌and_then◌ entries_from values table_bytes words expected_field field_answer row_answer below set_answer tagged timing
    counts_answer bound_answer holds_answer timing_answer entries_answer answer_by timers_in table_with under_table length_fits known_in known_with opening_in opening_with record_of
    ranged record_in record_at items_from items_of rule_by strongest largest_over rule verdict left regions_after state_after last_change gate step walk
    records_run run_opened run_over next_set weight_of first_from first_leaving for_holds bytes_of bytes_from encode next_times round sums_of largest_sum worst worst_start path_from
    worst_path judge judge_of reaction_over tight_weight tight_time_over times_over tight_moves_of slot all_bytes
least_over_moves =
    over_least (table_bytes mixer_table) 31 1 3 _ _ _ (journal_bytes 1 records_of_mixer 59) 1 mixed refl
    (shows mixer_table mixer_well_formed (journal_bytes 1 records_of_mixer 59) 31 1 _ _ 2 1 mixed _ refl refl (lit< tt) refl refl)
