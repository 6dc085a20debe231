-- The loop keeps `Seen`.
use lib.ListN.{get_or}
use Rattle.tight.proofs.Largest.{Seen}
use Rattle.tight.proofs.over_moves.largest_of.Given as goal

abbrev pub invariant-loop-member : goal.invariant-loop-member
invariant-loop-member l = Seen l.set (λ p. get_or l.row p 0) l.member-iterator.rest l.most
