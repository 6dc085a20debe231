-- Where the rows of next states start.
use mathlib.Core.Path.{sym, ap, ◌∙◌}
use native.Mathlib.Omega.{arith}
use Rattle.table.specs.declared.Counts.{Counts}
use Rattle.rows.proofs.InPlace.{inputs_are, stands}
use Rattle.rows.proofs.next_of.Goals as goal

pub counts_in-c-requires : goal.counts_in-c-requires
counts_in-c-requires c = omega (arith, (stands _ c.requires.0).counts_field.fits)

pub next_in-requires : goal.next_in-requires
next_in-requires c =
    let counts = c.counts_in-c.ensures in
    let pre = c.requires in
    let w = c.wide.ensures.0 ∙ ap (λ (k : Counts). k.inputs) counts ∙ sym (inputs_are _ pre.0) in
    let from = ap (λ (k : Counts). k.states) counts in
    (record { passes = pre.0; starts = omega (arith, from); wide = w }, pre.1, omega (arith, w, pre.2))
