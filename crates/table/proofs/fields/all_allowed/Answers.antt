-- What the two numbers tell of each set.
use Rattle.table.proofs.AtOnce.{sets_pass}
use Rattle.table.proofs.fields.all_allowed.Goals as goal

pub returns : goal.returns
returns c e =
    let args = c.args in
    sets_pass _ args.s.now args.holds args.at _ _ _ _ c.all_delayed-sets.ensures.any c.all_delayed-sets.ensures.idle (rw c.from.ensures at e)
