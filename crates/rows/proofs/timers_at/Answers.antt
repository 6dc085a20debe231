-- The fifth field says which kind of table it is.
use mathlib.Core.Path.{sym, ap, ◌∙◌}
use Prim.Native.Nat.{ℕ, ◌/◌}
use mathlib.Core.Logic.{⊎_elim}
use native.Mathlib.Omega.{arith}
use Rattle.rows.proofs.InPlace.{kind, fifth}
use Rattle.rows.proofs.timers_at.Goals as goal

pub bounds-s-at : goal.bounds-s-at
bounds-s-at c = let pre = c.requires in omega (arith, pre.1, fifth _ pre.0)

pub number16-requires : goal.number16-requires
number16-requires c = let pre = c.requires in omega (arith, pre.1, fifth _ pre.0)

pub returns-then-s-at-eq7 : goal.returns-then-s-at-eq7
returns-then-s-at-eq7 c =
    let pre = c.requires in
    let tag = rw pre.1 at c.if-s-at-eq7.true in
    ⊎_elim
    (λ holds. absurd (omega (arith, holds.0, tag)))
    (λ timers. rw pre.1 at (ap (λ (n : ℕ). n / 8) c.number16.ensures.0) ∙ sym timers.1)
    (kind _ pre.0)

pub returns : goal.returns
returns c =
    let pre = c.requires in
    ⊎_elim (λ holds. sym holds.1) (λ timers. absurd (c.if-s-at-eq7.false (rw pre.1 timers.0))) (kind _ pre.0)
