-- What was found along the way is the answer of the definitions.
use mathlib.Core.Path.{ap, ◌∙◌}
use Prim.Native.Nat.{◌*◌, ◌≤◌}
use native.Mathlib.Omega.{arith}
use Rattle.reaction.proofs.Meaning.{stays}
use Rattle.reaction.proofs.Findings.{outside_known}
use Rattle.moves.specs.Answer.{judged_passes?}
use Rattle.moves.specs.Walks.{heaviest}
use Rattle.moves.proofs.Fitting.{table_passed, fits}
use Rattle.moves.proofs.Targets as targets
use Rattle.tight.specs.Walks.{AtMost}
use Rattle.tight.proofs.Along.{largest_light}
use Rattle.tight.proofs.Times.{some_weights, light_weights, time_sum, light_tights, tight_sum, times_are}
use Rattle.tight.proofs.over_moves.react_judged.Goals as goal
use Rattle.tight.proofs.over_moves.react_judged.Goals.{After-largest_sum-sum, After-largest_sum-tight_sum, After-path_weights-weights, After-tight_weights-tights}

light : (c : After-path_weights-weights) → AtMost heaviest c.path_weights-weights.result
light c =
    light_weights (fits _ _ _ _ _ _ (ap judged_passes? c.requires)).all c.images_of-images.ensures _ _ c.difference-outside.ensures _ c.path_weights-weights.ensures

light-After-largest_sum-sum : (c : After-largest_sum-sum) → AtMost heaviest c.path_weights-weights.result
light-After-largest_sum-sum c =
    light_weights (fits _ _ _ _ _ _ (ap judged_passes? c.requires)).all c.images_of-images.ensures _ _ c.difference-outside.ensures _ c.path_weights-weights.ensures

light_too : (c : After-tight_weights-tights) → AtMost heaviest c.tight_weights-tights.result
light_too c =
    light_tights (fits _ _ _ _ _ _ (ap judged_passes? c.requires)).all c.images_of-images.ensures _ _ c.difference-outside.ensures _ c.path_weights-weights.ensures
    _ _ c.layout_of-layout.ensures.bound c.tight_weights-tights.ensures

light_too-After-largest_sum-tight_sum : (c : After-largest_sum-tight_sum) → AtMost heaviest c.tight_weights-tights.result
light_too-After-largest_sum-tight_sum c =
    light_tights (fits _ _ _ _ _ _ (ap judged_passes? c.requires)).all c.images_of-images.ensures _ _ c.difference-outside.ensures _ c.path_weights-weights.ensures
    _ _ c.layout_of-layout.ensures.bound c.tight_weights-tights.ensures

-- Both sums fit beside E.
small : (c : After-largest_sum-sum) → c.largest_sum-sum.result ≤ 32 * heaviest
small c =
    rw c.largest_sum-sum.ensures (largest_light _ _ _ _ (light-After-largest_sum-sum c) _ (fits _ _ _ _ _ _ (ap judged_passes? c.requires)).few)

small_too : (c : After-largest_sum-tight_sum) → c.largest_sum-tight_sum.result ≤ 32 * heaviest
small_too c =
    rw c.largest_sum-tight_sum.ensures (largest_light _ _ _ _ (light_too-After-largest_sum-tight_sum c) _ (fits _ _ _ _ _ _ (ap judged_passes? c.requires)).few)

pub layout_of-layout-requires : goal.layout_of-layout-requires
layout_of-layout-requires c = table_passed _ _ _ _ _ _ (ap judged_passes? c.requires)

pub invariant_of-table : goal.invariant_of-table
invariant_of-table c = record { passes = table_passed _ _ _ _ _ _ (ap judged_passes? c.requires) }

pub invariant_of-held : goal.invariant_of-held
invariant_of-held c = record { laid = c.layout_of-layout.ensures }

pub invariant_of-question : goal.invariant_of-question
invariant_of-question c = let all = (fits _ _ _ _ _ _ (ap judged_passes? c.requires)).all in record { states_known = all.states; inputs_known = all.inputs }

pub path_weights-weights-requires : goal.path_weights-weights-requires
path_weights-weights-requires c =
    let f = fits _ _ _ _ _ _ (ap judged_passes? c.requires) in
    (outside_known f.all _ _ c.difference-outside.ensures, f.no_timers)

pub tight_weights-tights-requires : goal.tight_weights-tights-requires
tight_weights-tights-requires c =
    some_weights (fits _ _ _ _ _ _ (ap judged_passes? c.requires)).all c.images_of-images.ensures _ _ c.difference-outside.ensures _ c.path_weights-weights.ensures

pub largest_sum-sum-requires : goal.largest_sum-sum-requires
largest_sum-sum-requires c = (light (goal.at.largest_sum-sum-requires c).After-path_weights-weights, (fits _ _ _ _ _ _ (ap judged_passes? c.requires)).few)

pub largest_sum-tight_sum-requires : goal.largest_sum-tight_sum-requires
largest_sum-tight_sum-requires c =
    (light_too (goal.at.largest_sum-tight_sum-requires c).After-tight_weights-tights, (fits _ _ _ _ _ _ (ap judged_passes? c.requires)).few)

pub overflow_add-result : goal.overflow_add-result
overflow_add-result c =
    omega (arith, small (goal.at.overflow_add-result c).After-largest_sum-sum, c.layout_of-layout.ensures.bound, (fits _ _ _ _ _ _ (ap judged_passes? c.requires)).all.table.bound)

pub tight_time-requires : goal.tight_time-requires
tight_time-requires c =
    (omega (arith, c.layout_of-layout.ensures.bound, (fits _ _ _ _ _ _ (ap judged_passes? c.requires)).all.table.bound), small_too (goal.at.tight_time-requires c).After-largest_sum-tight_sum)

pub returns : goal.returns
returns c =
    let f = fits _ _ _ _ _ _ (ap judged_passes? c.requires) in
    let of = c.images_of-images.ensures in
    let target = (targets.times_are f.all (stays f.all f.search) of _ _ c.next_times-target.ensures).1 in
    let time = time_sum f.all of _ _ c.difference-outside.ensures _ c.path_weights-weights.ensures _ in
    let tight = tight_sum f.all of _ _ c.difference-outside.ensures _ c.path_weights-weights.ensures _ _ c.layout_of-layout.ensures.bound c.tight_weights-tights.ensures _ in
    rw c.tight_time.ensures
    (times_are _ _ _ _ _ _ _ _ target c.layout_of-layout.ensures.bound (c.largest_sum-sum.ensures ∙ time) (c.largest_sum-tight_sum.ensures ∙ tight))
