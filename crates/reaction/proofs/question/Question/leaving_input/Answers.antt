-- The loop keeps `Staying`, and does not come to its end.
use mathlib.Core.Path.{sym, ◌∙◌}
use Prim.Native.Nat.{◌<◌}
use Rattle.rows.specs.Layouts.{NextRows}
use Rattle.sets.proofs.Walk.{taken_in}
use Rattle.table.specs.Check.{table_in}
use Rattle.reaction.proofs.NextStates.{stays_by, leaves_by, below_32}
use Rattle.reaction.proofs.question.Question.leaving_input.Goals as goal
use Rattle.reaction.proofs.question.Question.leaving_input.Goals.{In-Some}

exists : (c : In-Some) → c.in-Some.input < (table_in c.args.self.now.held.table.bytes.now).inputs
exists c = c.args.self.now.inputs_known _ (taken_in c.loop-input.invariant.walk c.in-Some.ensures.steps)

pub next-to-requires : goal.next-to-requires
next-to-requires c = (c.requires.0, exists (goal.at.next-to-requires c).In-Some)

pub has-requires : goal.has-requires
has-requires c =
    let h = c.args.self.now.held in
    let rows : NextRows h.table.bytes.now h.layout.next h.layout.inputs = record { passes = h.table.passes; starts = h.laid.next; wide = h.laid.inputs } in
    rw c.next-to.ensures (below_32 _ rows _ _ c.requires.0 (rw h.laid.inputs (exists (goal.at.has-requires c).In-Some)))

pub returns-then-not-has : goal.returns-then-not-has
returns-then-not-has c =
    let outside = rw c.next-to.ensures at (sym c.has.ensures ∙ c.if-not-has.true) in
    leaves_by c.loop-input.invariant c.in-Some.ensures.steps outside

pub loop-input-preserved : goal.loop-input-preserved
loop-input-preserved c =
    let inside = rw c.next-to.ensures at (sym c.has.ensures ∙ c.if-not-has.false) in
    stays_by c.loop-input.invariant c.in-Some.ensures.steps inside
