-- The demands of docs/RULES.md, "The demands", sentence by sentence: each statement by its name, and what it says. proofs/Statements proves all.
use Rattle.records.specs.Form.{journal, stimulus, short}
use Rattle.live.specs.Whole.{LiveIsWhole}
use Rattle.live.specs.Agreeing.{NumbersAtTheEnd, CheckTakesWhatIsMade, RuntimeMakesWhatIsTaken, NoOtherRecord, AnyLength, LiveComesBack}
use Rattle.runs.specs.Automaton.{MachineIsAutomaton}
use Rattle.tight.specs.Below.{NeverAbove}
use Rattle.laws.specs.Tables.{PassesExactly, HoldsThatTable}
use Rattle.laws.specs.Journals.{ChecksExactly}
use Rattle.laws.specs.Runtimes.{RunsExactly, WritesTheJournal}
use Rattle.laws.specs.Moves.{MovesTold, OneMove}
use Rattle.laws.specs.Tight.{TightOverMeans, TightOverBelow, TightOfNone, TightOfOne}
use Rattle.demands.specs.EveryEntry.{EveryEntryDetermines, EveryRefusalKeeps}
use Rattle.demands.specs.Calculators.{AnswerMeans, EntryMeans, FourteenComes, TenComes}
use Rattle.demands.specs.Runs.{RunsNotTooSoon, RunsNotTooSoonBy, RunsNotTooLate, RunsNotTooLateByMoves, RunsNotTooLateTight, RunsNotTooLateTightByMoves}
use Rattle.demands.specs.Demands.{AcceptedIsRun, NotTooSoon, NotTooSoonBy, NotTooLate, NotTooLateByMoves}
use Rattle.demands.specs.Tight.{TightNotTooLate, TightNotTooLateByMoves}

-- 1. There is always an answer.
pub record Answered : Type 0 where
  -- Each entry asks nothing of what it is given, and has one answer to it, with one content of every lent buffer.
  pub always : EveryEntryDetermines
  -- A refusal leaves every byte of every lent buffer as it was.
  pub refusals : EveryRefusalKeeps

-- 2. The answer is right.
pub record Right : Type 0 where
  -- A journal that is not too long is accepted if, and only if, its table passes and its records are a run of the machine.
  pub journals : ChecksExactly journal
  -- So is a short journal.
  pub short_journals : ChecksExactly short
  -- That machine is the timed automaton which the report gives for the table, or with timers that of the generalisation.
  pub machine : MachineIsAutomaton
  -- So a journal is accepted if, and only if, its records are a run of that automaton.
  pub runs : AcceptedIsRun
  -- The runtime writes a journal if, and only if, the stimulus is not too long, a journal with its inputs and times is accepted, and the buffer
  -- has room for it.
  pub stimuli : RunsExactly
  -- What it writes is that journal, and no other has these inputs and times and is accepted.
  pub written : WritesTheJournal
  -- The tables that pass are just the well-formed ones ..
  pub tables : PassesExactly
  -- .. and are read as they were written.
  pub tables_read : HoldsThatTable
  -- Of one move the calculator gives the one answer that means what the rules say, under a table ..
  pub one_move : AnswerMeans
  -- .. and on its bytes, if it has holds.
  pub one_move_bytes : EntryMeans
  -- If it has timers the answer is 14.
  pub fourteen : FourteenComes
  -- 10 comes wherever 9 does not and some next(p, a) is outside P.
  pub ten : TenComes
  -- Of several moves time, target, sums and path are what the rules say ..
  pub several_moves : MovesTold
  -- .. and for one move time, target and refusals are those of one move, but for 33.
  pub several_is_one : OneMove
  -- The tight time is beside the time and target of one move, never above the time, and below it by as much as the rules say.
  pub tight : NeverAbove
  -- For several moves it is what the rules say, and below their time by as much; for none it is E, and for one that of one move.
  pub tight_moves : TightOverMeans
  pub tight_moves_below : TightOverBelow
  pub tight_none : TightOfNone
  pub tight_one : TightOfOne

-- 3. An accepted journal keeps to the holds and to the calculated times; and so does every run of the automaton, of any length.
pub record Kept : Type 0 where
  -- No state is left too soon, by its hold ..
  pub every_hold : RunsNotTooSoon
  pub journal_hold : NotTooSoon
  -- .. and by each timer.
  pub every_timer : RunsNotTooSoonBy
  pub journal_timer : NotTooSoonBy
  -- No group of states is left too late, by one move ..
  pub every_move : RunsNotTooLate
  pub journal_move : NotTooLate
  -- .. by several ..
  pub every_moves : RunsNotTooLateByMoves
  pub journal_moves : NotTooLateByMoves
  -- .. with the tight time ..
  pub every_tight : RunsNotTooLateTight
  pub journal_tight : TightNotTooLate
  -- .. and with that for several moves.
  pub every_tight_moves : RunsNotTooLateTightByMoves
  pub journal_tight_moves : TightNotTooLateByMoves

-- And all of it one record at a time, in a memory that the host keeps: docs/RULES.md, "Live runs".
pub record OneAtATime : Type 0 where
  -- Any stimulus, cut into its fields, is run as the runtime runs the whole, and refused where and as the whole is.
  pub as_runtime : LiveIsWhole stimulus
  -- So is any journal checked as the check goes over the whole, ..
  pub as_check : LiveIsWhole journal
  -- .. with the numbers of acceptance at its end.
  pub same_numbers : NumbersAtTheEnd
  -- What the live runtime makes, the live check takes, and both keep the same.
  pub agree : CheckTakesWhatIsMade
  -- What the live check takes, the live runtime makes: for one event there is one record, and no other.
  pub makes_taken : RuntimeMakesWhatIsTaken
  pub no_other : NoOtherRecord
  -- However many events were taken: their records are a run of the machine, which is the automaton's.
  pub any_length : AnyLength stimulus
  -- A run goes on from a memory that was kept as if nothing had happened.
  pub comes_back : LiveComesBack stimulus

-- All of them.
abbrev pub TheDemands : Type 0
TheDemands = Answered × Right × Kept × OneAtATime
