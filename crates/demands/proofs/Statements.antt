-- The demands, as specs/Statements lists them.
use Rattle.records.specs.Form.{journal, stimulus}
use Rattle.live.proofs.AsWhole.{live_is_whole}
use Rattle.live.proofs.Counts.{numbers_at_the_end}
use Rattle.live.proofs.Agree.{check_takes_what_is_made, runtime_makes_what_is_taken, no_other_record}
use Rattle.live.proofs.AnyLength.{however_long, comes_back}
use Rattle.runs.proofs.Automaton.{machine_is_automaton}
use Rattle.tight.proofs.Below.{never_above}
use Rattle.laws.proofs.Tables.{passes_exactly, holds_that_table}
use Rattle.laws.proofs.Journals.{checks_exactly, checks_short_exactly}
use Rattle.laws.proofs.Runtimes.{runs_exactly, writes_the_journal}
use Rattle.laws.proofs.Moves.{moves_told}
use Rattle.laws.proofs.OneMove.{one_move}
use Rattle.laws.proofs.Tight.{tight_over_means, tight_over_below, tight_of_none, tight_of_one}
use Rattle.demands.specs.Statements.{TheDemands}
use Rattle.demands.proofs.EveryEntry.{every_entry_determines, every_refusal_keeps}
use Rattle.demands.proofs.Calculators.{answer_means, entry_means, fourteen_comes, ten_comes}
use Rattle.demands.proofs.Runs.{runs_not_too_soon, runs_not_too_soon_by, runs_not_too_late, runs_not_too_late_by_moves, runs_not_too_late_tight, runs_not_too_late_tight_by_moves}
use Rattle.demands.proofs.Demands.{accepted_is_run, accepted_not_too_soon, accepted_not_too_soon_by, accepted_not_too_late, accepted_not_too_late_by_moves}
use Rattle.demands.proofs.Tight.{tight_not_too_late, tight_not_too_late_by_moves}

pub the_demands : TheDemands
the_demands = (
  record { always = every_entry_determines; refusals = every_refusal_keeps },
  record {
    journals = checks_exactly;
    short_journals = checks_short_exactly;
    machine = machine_is_automaton;
    runs = accepted_is_run;
    stimuli = runs_exactly;
    written = writes_the_journal;
    tables = passes_exactly;
    tables_read = holds_that_table;
    one_move = answer_means;
    one_move_bytes = entry_means;
    fourteen = fourteen_comes;
    ten = ten_comes;
    several_moves = moves_told;
    several_is_one = one_move;
    tight = never_above;
    tight_moves = tight_over_means;
    tight_moves_below = tight_over_below;
    tight_none = tight_of_none;
    tight_one = tight_of_one;
  },
  record {
    every_hold = runs_not_too_soon;
    journal_hold = accepted_not_too_soon;
    every_timer = runs_not_too_soon_by;
    journal_timer = accepted_not_too_soon_by;
    every_move = runs_not_too_late;
    journal_move = accepted_not_too_late;
    every_moves = runs_not_too_late_by_moves;
    journal_moves = accepted_not_too_late_by_moves;
    every_tight = runs_not_too_late_tight;
    journal_tight = tight_not_too_late;
    every_tight_moves = runs_not_too_late_tight_by_moves;
    journal_tight_moves = tight_not_too_late_by_moves;
  },
  record {
    as_runtime = live_is_whole stimulus;
    as_check = live_is_whole journal;
    same_numbers = numbers_at_the_end;
    agree = check_takes_what_is_made;
    makes_taken = runtime_makes_what_is_taken;
    no_other = no_other_record;
    any_length = however_long stimulus;
    comes_back = comes_back stimulus;
  },
)
