-- The bytes are copied to the start of an array of zeros.
use lib.Seq.{take-length}
use Rattle.std.proofs.Common.{refl}
use Rattle.report.proofs.Adding.{empty_made}
use Rattle.report.proofs.empty_with.Goals as goal

pub returns : goal.returns
returns c = empty_made c.args.table.now _ _ refl (rw (c.copy.ensures, take-length) refl)
