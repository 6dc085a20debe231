-- The report: begun with a table, and a journal added to it. docs/RULES.md, "Where the time went".
use Rattle.std.specs.Prelude.{ℕ, ◌+◌, List, [], length, take, if◌then◌else◌, Ok, Err}
use Rattle.wire.specs.Choice.{◌≤?◌}
use Rattle.table.specs.declared.Table.{Table}
use Rattle.table.specs.Answer.{passes?}
use Rattle.table.specs.Check.{table_answer}
use Rattle.table.specs.Entries.{zeros, padded}
use Rattle.table.specs.Under.{under_table}
use Rattle.records.specs.Refusal.{stopped}
use Rattle.records.specs.Form.{journal}
use Rattle.machine.specs.Walk.{RunOverBytes, ran, too_long, refused, run_over}
use Rattle.journal.specs.declared.Refusal as checks
use Rattle.journal.specs.declared.Refusal.TheVariants as check
use Rattle.tally.specs.declared.Tally.{Tally}
use Rattle.tally.specs.Tally.{tally_of}
use Rattle.tally.specs.Sums.{summed}
use Rattle.report.specs.declared.Report.{Report}
use Rattle.report.specs.declared.Begun.{Begun}
use Rattle.report.specs.declared.Refusal.TheVariants.{Check, Full}
use Rattle.report.specs.Answer.{ReportAnswer}

abbrev pub most_journals : ℕ
most_journals = 1000

abbrev pub longest_table : ℕ
longest_table = 1626

-- ---- Begun

-- With these bytes as its table, and no journal.
abbrev pub empty_with : List ℕ → Report
empty_with table = record {
  size = length table;
  table = padded longest_table table;
  journals = 0;
  dwell = zeros 32;
  pairs = zeros 1024;
  entries = zeros 32;
}

-- Bytes that are turned down begin a report without a table.
unfoldable pub begin_of : List ℕ → Begun
begin_of table = record { answer = table_answer table; report = empty_with (if passes? (table_answer table) then table else []) }

-- ---- A journal more

-- What is answered, and the report afterwards.
pub record Added : Type 0 where
  pub answer : ReportAnswer
  pub report : Report

-- The bytes of the table that it keeps.
abbrev pub table_kept : Report → List ℕ
table_kept x = take x.size x.table

unfoldable pub with_tally : Report → Tally → Report
with_tally x y = record {
  size = x.size;
  table = x.table;
  journals = x.journals + 1;
  dwell = summed x.dwell y.dwell;
  pairs = summed x.pairs y.pairs;
  entries = summed x.entries y.entries;
}

abbrev pub as_it_was : Report → ReportAnswer → Added
as_it_was x answer = record { answer = answer; report = x }

-- What the check refuses.
abbrev pub not_taken : Report → checks.Refusal → Added
not_taken x why = as_it_was x (Err (Check why))

-- 35 comes after the checker's refusals.
unfoldable pub added_by : Table → Report → RunOverBytes → Added
added_by t x (ran input taken last) =
    if most_journals ≤? x.journals then as_it_was x (Err Full)
    else record { answer = Ok tt; report = with_tally x (tally_of t input taken last.time) }
added_by t x too_long = not_taken x check.TooLong
added_by t x (refused refusal place) = not_taken x (check.Record (stopped refusal place))

-- Under these bytes of a table.
unfoldable pub add_under : List ℕ → Report → List ℕ → Added
add_under table x s = under_table (λ why. not_taken x (check.Table why)) (λ t. added_by t x (run_over journal t s)) table

-- It is read under the report's own table. One that was begun with none refuses it as the table check does.
unfoldable pub add_of : Report → List ℕ → Added
add_of x s = add_under (table_kept x) x s
