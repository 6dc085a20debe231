use Rattle.krossvil.proofs.Outcomes.{put_none, put_next}
use Rattle.krossvil.proofs.telling.put_numbers.Goals as goal

pub loop-k-init : goal.loop-k-init
loop-k-init g c = put_none _ _ c.requires

pub loop-k-preserved : goal.loop-k-preserved
loop-k-preserved g c = put_next _ _ _ _ c.loop-k.invariant c.loop-k-test.true _ c.put.ensures
