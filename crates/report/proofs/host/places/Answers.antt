-- By the table's counts.
use Rattle.std.proofs.Common.{◌∙◌, refl}
use Rattle.tally.proofs.TableCounts.{has_counts, states_are, inputs_are}
use Rattle.report.proofs.host.places.Goals as goal

pub counts_in-counts-requires : goal.counts_in-counts-requires
counts_in-counts-requires c = has_counts _ c.requires

pub returns : goal.returns
returns c =
    let states = c.from-states.ensures ∙ states_are c.args.table.now _ c.counts_in-counts.ensures in
    let inputs = c.from-inputs.ensures ∙ inputs_are c.args.table.now _ c.counts_in-counts.ensures in
    rw (states, inputs) refl
