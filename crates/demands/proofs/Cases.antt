-- The cases that specs/Cases lists, computed.
use mathlib.Core.Path.{refl}
use Rattle.wire.specs.Encode.{field}
use Rattle.wire.specs.Field.{field_at}
use Rattle.wire.specs.Made.{answer_in, buffer_in}
use Rattle.sets.specs.Sets.{some, set_of, largest}
use Rattle.table.specs.Answer.{◌or_else◌, ◌and_then◌}
use Rattle.table.specs.Entries.{entries_from, values}
use Rattle.table.specs.Encode.{words, timing, table_bytes}
use Rattle.table.specs.Check.{expected_field, field_answer, row_answer, below, set_answer, counts_answer, bound_answer, holds_answer, tagged, timing_answer, entries_answer}
use Rattle.table.specs.Check.{answer_by, timers_in, table_with}
use Rattle.table.specs.Under.{under_table}
use Rattle.records.specs.Reading.{length_fits, known_in, known_with, opening_in, opening_with, record_of, ranged, record_in, record_at, items_from, items_of}
use Rattle.records.specs.Encode.{bytes_of, bytes_from, encode}
use Rattle.machine.specs.Verdict.{rule_by, strongest, largest_over}
use Rattle.machine.specs.Machine.{rule, verdict, left, state_after, regions_after, last_change, gate, step}
use Rattle.machine.specs.Most.{most}
use Rattle.machine.specs.Run.{ticks_of, moves_from}
use Rattle.machine.specs.Walk.{filled, walk, records_run, run_opened, run_over}
use Rattle.journal.specs.Check.{check_in, answer_of_run}
use Rattle.reaction.specs.Reaction.{next_set, weight_of, reaction_time, first_from, first_leaving, reaction_of, for_holds, react_of}
use Rattle.runtime.specs.Run.{made_of_run, run_of}
use Rattle.demands.specs.Cases.{CasesHold, Sizes}

pub cases_hold : CasesHold
unfolding field field_at some set_of largest ◌or_else◌ ◌and_then◌ entries_from values table_bytes words expected_field field_answer row_answer below set_answer tagged timing
    counts_answer bound_answer holds_answer timing_answer entries_answer answer_by timers_in table_with under_table length_fits known_in known_with opening_in opening_with record_of
    ranged record_in record_at items_from items_of bytes_of bytes_from encode rule_by strongest largest_over rule verdict left regions_after state_after last_change gate step ticks_of moves_from most filled walk
    records_run run_opened run_over answer_of_run check_in next_set weight_of reaction_time first_from first_leaving reaction_of for_holds react_of made_of_run run_of answer_in
    buffer_in
cases_hold = (refl, refl)

pub sizes : Sizes
unfolding field table_bytes timing words bytes_of bytes_from encode
sizes = (refl, refl, refl)
