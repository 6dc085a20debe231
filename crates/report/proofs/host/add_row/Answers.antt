-- The journal itself, and its slots and entries.
use Rattle.std.proofs.Common.{◌≡◌, refl, ap, ◌∙◌, arith, rules}
use Rattle.table.specs.Check.{table_in}
use Rattle.records.specs.Form.{journal}
use Rattle.machine.specs.Walk.{run_over}
use Rattle.tally.specs.Tally.{tally_in}
use Rattle.tally.specs.Sums.{summed}
use Rattle.report.specs.Rows.{slots_of}
use Rattle.tally.proofs.TableCounts.{has_counts, states_are, inputs_are}
use Rattle.report.proofs.Row.{row_begins, one_journal}
use Rattle.report.proofs.host.add_row.Goals as goal

pub counts_in-counts-requires : goal.counts_in-counts-requires
counts_in-counts-requires c = has_counts _ c.requires.0.passes

pub add_journal-requires-clause-room : goal.add_journal-requires-clause-room
add_journal-requires-clause-room c =
    let states = c.from-states.ensures ∙ states_are c.args.table.now _ c.counts_in-counts.ensures in
    let inputs = c.from.ensures ∙ inputs_are c.args.table.now _ c.counts_in-counts.ensures in
    rw (states, inputs) (omega (arith, c.requires.1, c.add_at.auto.numbers), refl, refl)

pub add_journal-requires-clause-first : goal.add_journal-requires-clause-first
add_journal-requires-clause-first c = row_begins (table_in c.args.table.now) _ (search rules)

pub returns : goal.returns
returns c =
    let counted = tally_in (table_in c.args.table.now) (run_over journal (table_in c.args.table.now) c.args.s.now) in
    let left : _ ≡ summed c.add_at.new.numbers (slots_of (table_in c.args.table.now) counted) = search rules in
    left ∙ ap (λ l. summed l (slots_of (table_in c.args.table.now) counted)) c.add_at.ensures ∙ one_journal _ _ _
