-- Nothing, or the path from the first state on.
use Rattle.moves.proofs.Along.{no_path, whole_path}
use Rattle.moves.proofs.paths.write_path.Goals as goal

pub returns-then-first-eq0 : goal.returns-then-first-eq0
returns-then-first-eq0 c = let all_of = no_path _ _ _ _ _ _ _ c.if-first-eq0.true in record { is = all_of.0; holds = all_of.1 }

pub returns : goal.returns
returns c =
    let done = c.state_step.ensures in
    let all_of = whole_path _ _ _ _ _ _ c.if-first-eq0.false _ done.is done.holds in record { is = all_of.0; holds = all_of.1 }
