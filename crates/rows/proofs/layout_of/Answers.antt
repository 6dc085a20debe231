-- Counts and places are those of the first fields.
use mathlib.Core.Path.{sym, ap, ◌∙◌}
use Prim.Native.Nat.{◌+◌}
use native.Mathlib.Omega.{arith}
use Rattle.table.specs.declared.Counts.{Counts}
use Rattle.rows.proofs.InPlace.{stands, fit, states_are, inputs_are, bound_is}
use Rattle.rows.proofs.layout_of.Goals as goal

pub counts_in-c-requires : goal.counts_in-c-requires
counts_in-c-requires c = omega (arith, (stands _ c.requires).counts_field.fits)

pub places_of-p-requires : goal.places_of-p-requires
places_of-p-requires c = rw c.counts_in-c.ensures (let f = fit _ c.requires in (f.states.1, f.inputs.1))

pub number32-requires : goal.number32-requires
number32-requires c = omega (arith, (stands _ c.requires).bound_field.fits)

pub returns : goal.returns
returns c =
    let counts = c.counts_in-c.ensures in
    let passes = c.requires in
    let p = c.places_of-p.ensures in
    record {
      states = c.wide.ensures.0 ∙ ap (λ (k : Counts). k.states) counts ∙ sym (states_are _ passes);
      inputs = c.wide-2.ensures.0 ∙ ap (λ (k : Counts). k.inputs) counts ∙ sym (inputs_are _ passes);
      bound = c.number32.ensures ∙ sym (bound_is _ passes);
      timers = c.timers_at.ensures;
      next = rw counts at (ap (λ n. n + 3) p.next);
      hold = rw counts at (ap (λ n. n + 3) p.hold);
      delayed = rw counts at (ap (λ n. n + 3) p.delayed);
    }
