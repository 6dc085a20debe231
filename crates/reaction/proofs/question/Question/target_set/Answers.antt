-- What the walk finds is the target, or the first pair that leaves.
use mathlib.Core.Path.{◌∙◌, ap}
use native.Mathlib.Omega.{arith}
use Prim.Native.Nat.{◌+◌, ◌*◌}
use Rattle.reaction.proofs.Findings.{below}
use Rattle.reaction.proofs.Asking.{all_exist, target_found, pair_found}
use Rattle.reaction.proofs.question.Question.target_set.Goals as goal

pub place-requires : goal.place-requires
place-requires c =
    let q = c.args.self.now in
    let all = all_exist q in
    (omega (arith, q.held.laid.inputs, all.table.inputs), below all c.in-Err.ensures)

pub returns-in-Ok : goal.returns-in-Ok
returns-in-Ok c = target_found (all_exist c.args.self.now) c.in-Ok.ensures

pub returns-in-Err : goal.returns-in-Err
returns-in-Err c =
    let q = c.args.self.now in
    pair_found (all_exist q) c.in-Err.ensures (c.place.ensures ∙ ap (λ n. c.in-Err.leaving.state * n + c.in-Err.leaving.input) q.held.laid.inputs)
