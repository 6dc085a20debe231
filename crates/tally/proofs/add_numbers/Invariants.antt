-- The numbers so far are added.
use Rattle.std.proofs.Common.{◌≡◌, length, take}
use Rattle.tally.specs.Sums.{summed}
use Rattle.tally.proofs.add_numbers.Given as goal

abbrev pub invariant-loop-k : goal.invariant-loop-k
invariant-loop-k l = record { same_length : length l.sums ≡ length l.initial.sums; so_far : l.sums ≡ summed l.initial.sums (take l.k l.numbers) }
