-- The theorems about tables, as specs/Tables states them.
use mathlib.Core.Bool.{false}
use Rattle.table.specs.Check.{table_in}
use Rattle.table.proofs.WellFormed.{well_formed}
use Rattle.laws.specs.Tables.{PassesExactly, HoldsThatTable}
use Rattle.laws.proofs.Encoding.{passes_encodes, encoding_passes}

pub passes_exactly : PassesExactly
passes_exactly s bytes =
    ((λ e. (table_in s, well_formed s e, passes_encodes false s bytes e)), (λ p. rw p.2 (encoding_passes false p.0 p.1).0))

pub holds_that_table : HoldsThatTable
holds_that_table s t ok e = rw e (encoding_passes false t ok)
