-- The tight weights beside the weights, and the tight time by the largest sum.
use mathlib.Core.Path.{◌≡◌, refl}
use mathlib.Core.Bool.{Bool, true, false}
use Prim.Native.Nat.{ℕ, ◌+◌, ◌-◌, ◌*◌, ◌≤◌}
use native.Mathlib.Omega.{arith}
use borrow.Author.Tests.{eqb-true, eqb-false, eq-eqb, ne_eqb}
use Rattle.std.specs.Prelude.{if◌then◌else◌}
use Rattle.wire.specs.Choice.{◌=?◌}
use Rattle.table.specs.declared.Table.{Table}
use Rattle.table.specs.Table.{hold_of}
use Rattle.reaction.specs.Reaction.{from_hold, weight}
use Rattle.moves.specs.Moves.{next_times, largest_sum}
use Rattle.tight.specs.Tight.{need_of}
use Rattle.tight.specs.Several.{tight_weight, tight_time_over}
use Rattle.tight.proofs.Time.{heavy, light}

module _ (t : Table) (A q : ℕ) where
  pub snug : from_hold t A q ≡ true → tight_weight t A q ≡ hold_of t q + 2 * t.bound - 1
  unfolding tight_weight
  snug e = rw e refl

  pub plain : from_hold t A q ≡ false → tight_weight t A q ≡ t.bound
  unfolding tight_weight
  plain e = rw e refl

  -- One below the weight where that comes from a hold, and else the same.
  pub one_below : tight_weight t A q + (if from_hold t A q then 1 else 0) ≡ weight t A q
  one_below = go (from_hold t A q) refl
    where
      go : (b : Bool) → from_hold t A q ≡ b → tight_weight t A q + (if b then 1 else 0) ≡ weight t A q
      go true e = omega (arith, snug e, heavy t A q e)
      go false e = omega (arith, plain e, light t A q e)

  -- What a state needs for one move.
  pub need_by_weight : 1 ≤ t.bound → need_of t A q + 1 ≡ t.bound + tight_weight t A q
  need_by_weight some_bound = go (from_hold t A q) refl
    where
      go : (b : Bool) → from_hold t A q ≡ b → need_of t A q + 1 ≡ t.bound + tight_weight t A q
      go true e = omega (arith, snug e, heavy t A q e)
      go false e = omega (arith, plain e, light t A q e)

  pub tight_positive : 1 ≤ t.bound → 1 ≤ tight_weight t A q
  tight_positive some_bound = go (from_hold t A q) refl
    where
      go : (b : Bool) → from_hold t A q ≡ b → 1 ≤ tight_weight t A q
      go true e = omega (arith, snug e, heavy t A q e)
      go false e = omega (arith, plain e)

module _ (t : Table) (P A n : ℕ) where
  abbrev pub largest_tight : ℕ
  largest_tight = largest_sum t P A (next_times t P A n) (tight_weight t A) n

  pub without_path : largest_tight ≡ 0 → tight_time_over t P A n ≡ t.bound
  unfolding tight_time_over
  without_path e = rw (eq-eqb largest_tight 0 e) refl

  pub with_path : (largest_tight ≡ 0 → ⊥) → tight_time_over t P A n ≡ t.bound + largest_tight - 1
  unfolding tight_time_over
  with_path other = rw (ne_eqb largest_tight 0 other) refl

  -- In both cases it covers E, and E and the largest sum, less 1.
  pub over_covers : (t.bound ≤ tight_time_over t P A n) × (t.bound + largest_tight ≤ tight_time_over t P A n + 1)
  over_covers = go (largest_tight =? 0) refl
    where
      go : (b : Bool) → (largest_tight =? 0) ≡ b → (t.bound ≤ tight_time_over t P A n) × (t.bound + largest_tight ≤ tight_time_over t P A n + 1)
      go true e = let z = eqb-true largest_tight 0 e in (omega (arith, without_path z), omega (arith, without_path z))
      go false e = let z = eqb-false largest_tight 0 e in (omega (arith, with_path z), omega (arith, with_path z))
