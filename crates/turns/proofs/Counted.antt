-- One tick more: a move where the state differs.
use mathlib.Core.Path.{◌≡◌}
use Prim.Native.Nat.{ℕ, ◌+◌}
use borrow.Author.Tests.{eq-eqb, ne_eqb}
use Rattle.turns.specs.declared.Progress.{Progress}
use Rattle.turns.specs.Progress.{ticked_to}

module _ (p : Progress) (state : ℕ) where
  pub tick_moves : (state ≡ p.machine.state → ⊥) → record { machine = p.machine; ticks = p.ticks + 1; moves = p.moves + 1; left = p.left } ≡ ticked_to p state
  unfolding ticked_to
  tick_moves h = simp ne_eqb

  pub tick_stays : state ≡ p.machine.state → record { machine = p.machine; ticks = p.ticks + 1; moves = p.moves; left = p.left } ≡ ticked_to p state
  unfolding ticked_to
  tick_stays h = simp eq-eqb
