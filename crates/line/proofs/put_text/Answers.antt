-- The copy fills the buffer's part from `at` on.
use Rattle.std.proofs.Common.{arith}
use Rattle.line.proofs.Puts.{puts_placed}
use Rattle.line.proofs.put_text.Goals as goal

pub returns : goal.returns
returns c = rw c.copy_from_slice.ensures.after (puts_placed _ _ _ _ (omega arith) c.requires)
