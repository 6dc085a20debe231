-- The time for one move suffices.
use mathlib.Core.Path.{◌≡◌, refl}
use mathlib.Core.Bool.{Bool, true, false}
use Prim.Native.Nat.{ℕ, ◌+◌, ◌-◌}
use native.Mathlib.Omega.{arith}
use Rattle.table.specs.declared.Table.{Table}
use Rattle.runs.specs.Slots.{SlotsNotTooLate}
use Rattle.runs.specs.Reaction.{Reach, there, via, Suffices, SufficesByOne}
use Rattle.runs.proofs.Late.{not_too_late}

one_suffices : {t : Table} {P A N : ℕ → Bool} {w : ℕ → ℕ} {c : ℕ} → SufficesByOne t P A N w c → Suffices t P A N w c
one_suffices {t} {P} {A} {N} {w} {c} one = record {
  no_regions = one.no_regions;
  bound_positive = one.bound_positive;
  weights = one.weights;
  stays = λ q a n h. one.has q a (one.inside q n) h;
  reaches = λ p h. from p h (N p) refl;
  covers_bound = one.covers_bound;
}
  where
    from : (p : ℕ) → P p ≡ true → (b : Bool) → N p ≡ b → Reach t A N w (c + 1 - t.bound) p
    from p h true e = there e
    from p h false e = via (c + 1 - t.bound) p 0 (omega (arith, one.covers p h e)) (λ a k. there (one.has p a h k))

pub one_move : {t : Table} {P A N : ℕ → Bool} {w : ℕ → ℕ} {c : ℕ} → SufficesByOne t P A N w c → SlotsNotTooLate t P A N c
one_move one = not_too_late (one_suffices one)
