-- What was found along the way is the answer of the definitions.
use mathlib.Core.Path.{◌≡◌, refl, ap, ◌∙◌}
use mathlib.Core.List.{◌++◌}
use Prim.Native.Nat.{◌+◌, ◌-◌, ◌*◌, ◌<◌, ◌≤◌}
use native.Mathlib.Nat.{mul-le-mul}
use native.Mathlib.Omega.{arith}
use lib.ListN.{length, drop}
use Rattle.table.specs.Check.{table_in}
use Rattle.reaction.specs.Reaction.{weight}
use Rattle.reaction.proofs.Meaning.{stays}
use Rattle.reaction.proofs.Findings.{outside_known}
use Rattle.moves.specs.Answer.{judged_passes?}
use Rattle.moves.specs.Moves.{rows}
use Rattle.moves.proofs.Fitting.{Fits, table_passed, fits}
use Rattle.moves.proofs.Targets.{times_are}
use Rattle.moves.proofs.Whole.{among, light, all_rows, largest_light, sum_is, begins, whole_is, no_moves, reaction_is, sums_are, path_is}
use Rattle.moves.proofs.Along.{one_row_less}
use Rattle.moves.proofs.react_judged.Goals as goal
use Rattle.moves.proofs.react_judged.Goals.{After-fill_sums}

fit : (c : After-fill_sums) →
    let a = c.args in
    Fits (table_in a.table.now) a.states a.inputs a.moves (length a.sums.now) (length a.path.now)
fit c = fits _ _ _ _ _ _ (ap judged_passes? c.requires)

-- The rows stand in front of what was lent.
filled : (c : After-fill_sums) →
    let a = c.args in
    let t = table_in a.table.now in
    c.fill_sums.new.sums ≡ rows t a.states a.inputs c.next_times-target.result (weight t a.inputs) a.moves ++ drop (a.moves * t.states) a.sums.now
filled c =
    let a = c.args in
    let t = table_in a.table.now in
    rw c.layout_of-layout.ensures.states at c.fill_sums.ensures
    ∙ ap (λ l. l ++ drop (a.moves * t.states) a.sums.now)
    (all_rows (fit c).all c.images_of-images.ensures _ _ c.difference-outside.ensures c.path_weights-weights.result c.path_weights-weights.ensures a.moves)

-- What is known once the rows are filled: some move is left, and the last row stands in the slice.
last_row : (c : After-fill_sums) →
    let a = c.args in
    let Q = (table_in a.table.now).states in
    (0 < a.moves) × ((a.moves - 1) * Q + Q ≤ length c.fill_sums.new.sums) × ((a.moves - 1) * Q + Q ≤ 32 * 32)
last_row c =
    let a = c.args in
    let f = fit c in
    let Q = (table_in a.table.now).states in
    let some : 0 < a.moves = omega (arith, c.if-moves-eq0.false) in
    let row = one_row_less a.moves Q some in
    let small : a.moves * Q ≤ 32 * 32 = mul-le-mul f.few f.all.table.states.1 in
    (some, omega (arith, c.fill_sums.auto.sums, f.sums_fit), omega arith)

pub layout_of-layout-requires : goal.layout_of-layout-requires
layout_of-layout-requires c = table_passed _ _ _ _ _ _ (ap judged_passes? c.requires)

pub invariant_of-table : goal.invariant_of-table
invariant_of-table c = record { passes = table_passed _ _ _ _ _ _ (ap judged_passes? c.requires) }

pub invariant_of-held : goal.invariant_of-held
invariant_of-held c = record { laid = c.layout_of-layout.ensures }

pub invariant_of-question : goal.invariant_of-question
invariant_of-question c = let all = (fits _ _ _ _ _ _ (ap judged_passes? c.requires)).all in record { states_known = all.states; inputs_known = all.inputs }

pub returns-then-moves-eq0 : goal.returns-then-moves-eq0
returns-then-moves-eq0 c =
    let a = c.args in
    let none = no_moves (table_in a.table.now) a.states a.inputs a.moves c.layout_of-layout.ensures.bound c.if-moves-eq0.true a.sums.now a.path.now in
    record { is = none.0; sums = none.1; path = none.2 }

pub path_weights-weights-requires : goal.path_weights-weights-requires
path_weights-weights-requires c =
    let f = fits _ _ _ _ _ _ (ap judged_passes? c.requires) in
    (outside_known f.all _ _ c.difference-outside.ensures, f.no_timers)

pub fill_sums-requires : goal.fill_sums-requires
fill_sums-requires c =
    let f = fits _ _ _ _ _ _ (ap judged_passes? c.requires) in
    rw c.layout_of-layout.ensures.states (
      among f.all c.images_of-images.ensures,
      f.few,
      f.sums_fit,
      light f.all c.images_of-images.ensures _ _ c.difference-outside.ensures c.path_weights-weights.result c.path_weights-weights.ensures,
    )

pub worst_start-first-requires : goal.worst_start-first-requires
worst_start-first-requires c q m =
    let low = outside_known (fits _ _ _ _ _ _ (ap judged_passes? c.requires)).all _ _ c.difference-outside.ensures q m in
    rw c.layout_of-layout.ensures.states (omega (arith, low, (last_row (goal.at.worst_start-first-requires c).After-fill_sums).1))

pub write_path-length-requires : goal.write_path-length-requires
write_path-length-requires c =
    let f = fits _ _ _ _ _ _ (ap judged_passes? c.requires) in
    let known = last_row (goal.at.write_path-length-requires c).After-fill_sums in
    let found = rw c.layout_of-layout.ensures.states at c.worst_start-first.ensures in (
      rw c.layout_of-layout.ensures.states (begins f.all _ _ _ _ (filled (goal.at.write_path-length-requires c).After-fill_sums) _ c.difference-outside.ensures known.0 found),
      omega (arith, f.few),
      rw c.layout_of-layout.ensures.states (omega (arith, known.1)),
      omega (arith, f.path_fits, known.0),
    )

pub overflow_add-result : goal.overflow_add-result
overflow_add-result c =
    let rest = c.difference-outside.ensures in
    let f = fits _ _ _ _ _ _ (ap judged_passes? c.requires) in
    let found = rw c.layout_of-layout.ensures.states at c.worst_start-first.ensures in
    let sum = sum_is f.all _ _ _ _ (filled (goal.at.overflow_add-result c).After-fill_sums) _ rest (last_row (goal.at.overflow_add-result c).After-fill_sums).0 found in
    let images = c.images_of-images.ensures in
    let small = largest_light f.all images _ _ rest c.path_weights-weights.result c.path_weights-weights.ensures _ f.few in
    omega (arith, sum, small, c.layout_of-layout.ensures.bound, f.all.table.bound)

pub returns : goal.returns
returns c =
    let images = c.images_of-images.ensures in
    let f = fits _ _ _ _ _ _ (ap judged_passes? c.requires) in
    let target = (times_are f.all (stays f.all f.search) images _ _ c.next_times-target.ensures).1 in
    let found = rw c.layout_of-layout.ensures.states at c.worst_start-first.ensures in
    let sum = sum_is f.all _ _ _ _ (filled (goal.at.returns c).After-fill_sums) _ c.difference-outside.ensures (last_row (goal.at.returns c).After-fill_sums).0 found in
    let whole = whole_is f.all _ _ _ _ (filled (goal.at.returns c).After-fill_sums) _ c.difference-outside.ensures (last_row (goal.at.returns c).After-fill_sums).0 found _ c.layout_of-layout.ensures.inputs refl c.layout_of-layout.ensures.states in
    let written = c.write_path-length.ensures in record { is = reaction_is _ _ _ _ _ target c.layout_of-layout.ensures.bound sum (written.is ∙ ap length whole); sums = sums_are _ _ _ _ _ target _ (filled (goal.at.returns c).After-fill_sums); path = path_is _ _ _ _ _ target _ whole written.holds }
