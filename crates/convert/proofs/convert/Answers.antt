-- A refusal by the old rules is passed up; else 30, or the copy and its sets.
use mathlib.Core.Bool.{true}
use mathlib.Core.List.{List}
use Prim.Native.Nat.{ℕ}
use native.Mathlib.Omega.{arith}
use lib.Seq.{take-length}
use mathlib.Core.Path.{refl}
use Rattle.table.specs.Check.{counts_in}
use Rattle.table.proofs.Answers.{let_pass}
use Rattle.table.proofs.Stands.{HeadStands, HoldsStand, old_stands}
use Rattle.convert.specs.Convert.{changes}
use Rattle.convert.proofs.Converting.{table_refused, no_room, converted, copied_long}
use Rattle.convert.proofs.convert.Goals as goal
use Rattle.convert.proofs.convert.Goals.{Else-out-old}

abbrev Stands : List ℕ → Type 0
Stands s = HeadStands s (counts_in s) × HoldsStand true s (counts_in s)

stands : (c : Else-out-old) → Stands c.args.old.now
stands c = old_stands _ (let_pass c.check_by-passed.ensures c.in-Ok.is)

pub returns-in_default : goal.returns-in_default
returns-in_default c = let o = table_refused _ _ c.check_by-passed.ensures c.unwrap_err.ensures in record { is = o.0; holds = o.1 }

pub returns-then-out-old : goal.returns-then-out-old
returns-then-out-old c = let o = no_room _ _ (let_pass c.check_by-passed.ensures c.in-Ok.is) c.if-out-old.true in record { is = o.0; holds = o.1 }

pub counts_in-c-requires : goal.counts_in-c-requires
counts_in-c-requires c = omega (arith, (stands (goal.at.counts_in-c-requires c).Else-out-old).1.ends)

pub places_of-p-requires : goal.places_of-p-requires
places_of-p-requires c = rw c.counts_in-c.ensures (let fit = (stands (goal.at.places_of-p-requires c).Else-out-old).0.counts in (fit.states.1, fit.inputs.1))

pub write_sets-requires : goal.write_sets-requires
write_sets-requires c =
    let places = c.places_of-p.ensures in
    let counts = c.counts_in-c.ensures in
    let args = c.args in
    let known = rw (← counts) at (stands (goal.at.write_sets-requires c).Else-out-old) in
    (omega (arith, places.hold, places.delayed), omega (arith, places.delayed, known.1.ends), copied_long args.old.now args.out.now _ (rw (c.copy.ensures, take-length) refl), rw c.from.ensures known.0.counts.states.1)

pub returns : goal.returns
unfolding changes
returns c =
    let places = c.places_of-p.ensures in
    let counts = c.counts_in-c.ensures in
    let o = converted _ _ (let_pass c.check_by-passed.ensures c.in-Ok.is) _ (rw (c.copy.ensures, take-length) refl) c.if-out-old.false _
    (rw (places.hold, places.delayed, c.from.ensures, counts) at c.write_sets.ensures.holds) _ (rw (places.hold, places.delayed, c.from.ensures, counts) at c.write_sets.ensures.is) in record { is = o.0; holds = o.1 }
