-- The numbers in their order.
use Rattle.table.specs.Entries.{values}
use Rattle.live.specs.Memory.{memory_of, kept_in}
use Rattle.live.proofs.memory.keep.Goals as goal

pub returns : goal.returns
unfolding kept_in memory_of values
returns c = c.put.ensures
