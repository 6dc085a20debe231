-- The sums of a round, from those of the one before.
use mathlib.Core.Path.{◌≡◌, refl, ap, ◌∙◌}
use mathlib.Core.Bool.{Bool, true, false, not}
use mathlib.Core.Logic.{◌⊎◌, inl, inr}
use Prim.Native.Nat.{ℕ, zero, suc, ◌+◌, ◌*◌, ◌<◌, ◌≤◌}
use native.Mathlib.Omega.{arith}
use borrow.Author.Tests.{not-true}
use lib.ListN.{get_or, get_or-replicate}
use Rattle.std.specs.Prelude.{if◌then◌else◌}
use Rattle.wire.specs.Choice.{◌<?◌, ◌and◌}
use Rattle.wire.proofs.Choice.{both, and_both}
use Rattle.sets.specs.Sets.{member, some}
use Rattle.sets.proofs.Members.{largest_covers, largest_reached, Reaching}
use Rattle.table.specs.declared.Table.{Table}
use Rattle.table.specs.Table.{next_of, hold_of, delays}
use Rattle.table.proofs.Values.{get_or-values}
use Rattle.reaction.specs.Reaction.{off_target, weight, weight_of}
use Rattle.reaction.proofs.Meaning.{AllExist}
use Rattle.moves.specs.Moves.{ahead, most_ahead, round, sums_of}
use Rattle.laws.specs.Paths.{OnPath}

-- Every weight is above 0.
pub weight_positive : {t : Table} {P A : ℕ} → AllExist t P A → (q : ℕ) → 0 < weight t A q
unfolding weight_of
weight_positive {t} {A = A} all q = go ((0 <? hold_of t q) and some t.inputs (λ a. member A a and delays t q a))
  where
    go : (b : Bool) → 0 < (if b then hold_of t q + 2 * t.bound else t.bound)
    go true = omega (arith, all.table.bound)
    go false = omega (arith, all.table.bound)

module _ {t : Table} {P A : ℕ} (all : AllExist t P A) (N : ℕ) where
  pub exists : {q : ℕ} → OnPath P N q → q < t.states
  exists {q} on = all.states q on.is_in

  pub next_exists : (q a : ℕ) → q < t.states → member A a ≡ true → next_of t q a < t.states
  next_exists q a l m = all.table.next q a l (all.inputs a m)

  pub tested : {q : ℕ} → OnPath P N q → off_target P N q ≡ true
  tested {q} on = and_both (member P q) _ on.is_in (ap not on.outside)

  pub passed : (q : ℕ) → off_target P N q ≡ true → OnPath P N q
  passed q e = let b = both (member P q) _ e in record { is_in = b.0; outside = not-true (member N q) b.1 }

  module _ (w : ℕ → ℕ) where
    -- What a round has for q.
    abbrev at : ℕ → ℕ → ℕ
    at k q = get_or (sums_of t P A N w k) q 0

    pub before : (q : ℕ) → q < t.states → at 0 q ≡ 0
    unfolding sums_of
    before q l = get_or-replicate t.states q 0 0 l

    later : (k q : ℕ) → q < t.states → at (suc k) q ≡ (if off_target P N q then w q + most_ahead t P A N (sums_of t P A N w k) q else 0)
    unfolding sums_of round
    later k q l = get_or-values _ t.states q l

    pub on_path : (k q : ℕ) → OnPath P N q → at (suc k) q ≡ w q + most_ahead t P A N (sums_of t P A N w k) q
    on_path k q on = rw (tested on) at (later k q (exists on))

    pub off_path : (k q : ℕ) → q < t.states → off_target P N q ≡ false → at k q ≡ 0
    off_path zero q l off = before q l
    off_path (suc k) q l off = rw off at (later k q l)

    -- A sum above 0 is that of a state on a path.
    pub has_sum : (k q : ℕ) → q < t.states → 0 < at k q → OnPath P N q
    has_sum k q l some = go (off_target P N q) refl
      where
        go : (b : Bool) → off_target P N q ≡ b → OnPath P N q
        go true e = passed q e
        go false e = absurd (let z : ⊥ = omega (arith, off_path k q l e) in z)

    -- ---- The sums ahead of a state

    pub ahead_most : (k q a : ℕ) → member A a ≡ true → at k (next_of t q a) ≤ most_ahead t P A N (sums_of t P A N w k) q
    ahead_most k q a m = largest_covers t.inputs (member A) (ahead t P A N (sums_of t P A N w k) q) a (all.inputs a m) m

    pub none_ahead : (q : ℕ) → q < t.states → most_ahead t P A N (sums_of t P A N w 0) q ≡ 0
    none_ahead q l = go (largest_reached t.inputs (member A) (ahead t P A N (sums_of t P A N w 0) q))
      where
        go : {m : ℕ} → (m ≡ 0) ⊎ Reaching t.inputs (member A) (ahead t P A N (sums_of t P A N w 0) q) m → m ≡ 0
        go (inl z) = z
        go (inr r) = r.is ∙ before (next_of t q r.at) (next_exists q r.at l r.passes)
