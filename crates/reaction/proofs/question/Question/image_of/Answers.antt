-- The loop keeps `OverInputs`.
use mathlib.Core.Path.{◌≡◌, ◌∙◌}
use native.Mathlib.Omega.{arith}
use Prim.Native.Nat.{◌+◌, ◌<◌}
use lib.ListN.{length}
use Rattle.wire.specs.Field.{byte_at}
use Rattle.sets.proofs.Walk.{taken_in}
use Rattle.table.specs.Table.{next_of}
use Rattle.table.specs.Check.{table_in}
use Rattle.table.proofs.WellFormed.{well_formed}
use Rattle.rows.specs.Layouts.{NextRows}
use Rattle.reaction.proofs.NextStates.{one_input_more, in_row, below_32}
use Rattle.reaction.proofs.question.Question.image_of.Goals as goal
use Rattle.reaction.proofs.question.Question.image_of.Goals.{In-Some}

rows : (c : In-Some) → let h = c.args.self.now.held in NextRows h.table.bytes.now h.layout.next h.layout.inputs
rows c = let h = c.args.self.now.held in record { passes = h.table.passes; starts = h.laid.next; wide = h.laid.inputs }

exists : (c : In-Some) → c.in-Some.input < c.args.self.now.held.layout.inputs
exists c = let q = c.args.self.now in rw q.held.laid.inputs (q.inputs_known _ (taken_in c.loop-input.invariant.walk c.in-Some.ensures.steps))

-- The byte that is read is the next state.
stands : (c : In-Some) →
    let h = c.args.self.now.held in
    let at = h.layout.next + c.place_in_rows.result + c.in-Some.input in
    (at < length h.table.bytes.now) × (byte_at h.table.bytes.now at ≡ next_of (table_in h.table.bytes.now) c.args.state c.in-Some.input)
stands c = in_row _ (rows c) _ _ _ c.requires (exists c) c.place_in_rows.ensures.0

pub place_in_rows-requires : goal.place_in_rows-requires
place_in_rows-requires c =
    let h = c.args.self.now.held in
    let good = well_formed _ h.table.passes in
    (omega (arith, h.laid.inputs, good.inputs), omega (arith, c.requires, good.states), omega arith)

pub bounds-self-at : goal.bounds-self-at
bounds-self-at c = (stands (goal.at.bounds-self-at c).In-Some).0

pub single-requires : goal.single-requires
single-requires c =
    let at = (goal.at.single-requires c).In-Some in
    rw (c.wide.ensures.0 ∙ (stands at).1) (below_32 _ (rows at) _ _ c.requires (exists at))

pub loop-input-preserved : goal.loop-input-preserved
loop-input-preserved c =
    one_input_more c.loop-input.invariant c.in-Some.ensures.steps c.single.result
    (rw (← (c.wide.ensures.0 ∙ (stands (goal.at.loop-input-preserved c).In-Some).1)) c.single.ensures) c.union-image.ensures
