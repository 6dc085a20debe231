-- The weight of a state, case by case, and the walk that finds the largest.
use mathlib.Core.Path.{◌≡◌, refl}
use mathlib.Core.Bool.{Bool, true, false}
use mathlib.Core.Logic.{◌⊎◌, inl, inr}
use Prim.Native.Nat.{ℕ, ◌+◌, ◌*◌, ◌<◌, ◌≤◌, max}
use native.Mathlib.Omega.{arith}
use borrow.Author.Tests.{lt-ltb, le-ltb, leb-true, leb-false}
use lib.Dec.{leb}
use Rattle.sets.specs.Sets.{TakesSmallest}
use Rattle.sets.proofs.Walk.{Walk, Walked, begins, none_walked, all_walked, goes_on, taken_in, walked_now}
use Rattle.reaction.specs.Reaction.{weight_of}
use Rattle.reaction.specs.Walks.{Reaches, IsLargest}

module _ (hold E : ℕ) where
  pub held : (delayed : Bool) → 0 < hold → delayed ≡ true → hold + 2 * E ≡ weight_of hold E delayed
  unfolding weight_of
  held delayed h d = simp (lt-ltb, d)

  pub no_hold : (delayed : Bool) → hold ≤ 0 → E ≡ weight_of hold E delayed
  unfolding weight_of
  no_hold delayed h = simp le-ltb

  pub none_delayed : (delayed : Bool) → 0 < hold → delayed ≡ false → E ≡ weight_of hold E delayed
  unfolding weight_of
  none_delayed delayed h d = simp (lt-ltb, d)

-- ---- The largest

pub record OverMembers (set : ℕ) (f : ℕ → ℕ) (rest so_far : ℕ) : Type 0 where
  pub walk : Walk set rest
  pub covers : (i : ℕ) → Walked set rest i → f i ≤ so_far
  pub reached : (so_far ≡ 0) ⊎ Reaches set f so_far

pub none_yet : {set : ℕ} {f : ℕ → ℕ} → OverMembers set f set 0
none_yet = record { walk = begins; covers = λ i w. absurd (none_walked w); reached = inl refl }

module _ {set : ℕ} {f : ℕ → ℕ} {rest so_far : ℕ} (inv : OverMembers set f rest so_far) where
  pub all_covered : rest ≡ 0 → IsLargest set f so_far
  all_covered e = record { covers = λ i m. inv.covers i (all_walked e m); reached = inv.reached }

  pub one_more : {i less new : ℕ} → TakesSmallest rest i less → new ≡ max so_far (f i) → OverMembers set f less new
  one_more {i} {less} {new} takes e = record {
    walk = goes_on inv.walk takes;
    covers = λ j w. covered j (walked_now inv.walk takes w);
    reached = reached (leb (f i) so_far) refl inv.reached;
  }
    where
      covered : (j : ℕ) → Walked set rest j ⊎ (j ≡ i) → f j ≤ new
      covered j (inl w) = omega (arith, inv.covers j w)
      covered j (inr q) = rw q (omega arith)

      reached : (b : Bool) → leb (f i) so_far ≡ b → (so_far ≡ 0) ⊎ Reaches set f so_far → (new ≡ 0) ⊎ Reaches set f new
      reached false q r = inr (record { at = i; is_in = taken_in inv.walk takes; is = omega (arith, leb-false (f i) so_far q) })
      reached true q (inl z) = inl (omega (arith, leb-true (f i) so_far q))
      reached true q (inr r) = inr (record { at = r.at; is_in = r.is_in; is = omega (arith, leb-true (f i) so_far q, r.is) })
