-- The largest number of a member, and what comes of it for a row.
use mathlib.Core.Path.{◌≡◌, refl}
use mathlib.Core.Bool.{Bool, true, false}
use mathlib.Core.Logic.{◌⊎◌, inl, inr}
use Prim.Native.Nat.{ℕ, zero, suc, ◌≤◌, max}
use native.Mathlib.Nat.{le_antisymm}
use native.Mathlib.Omega.{arith}
use borrow.Author.Tests.{leb-true, leb-false}
use lib.Dec.{leb}
use Rattle.sets.specs.Sets.{member, largest, TakesSmallest}
use Rattle.sets.proofs.Members.{largest_covers, largest_reached, Reaching}
use Rattle.sets.proofs.Walk.{Walk, Walked, begins, none_walked, all_walked, goes_on, taken_in, walked_now}

-- Of the members walked over.
pub record Seen (set : ℕ) (f : ℕ → ℕ) (rest most : ℕ) : Type 0 where
  pub walk : Walk set rest
  pub covers : (i : ℕ) → Walked set rest i → f i ≤ most
  pub reached : (most ≡ 0) ⊎ Reaching 32 (member set) f most

pub none_seen : {set : ℕ} {f : ℕ → ℕ} → Seen set f set 0
none_seen = record { walk = begins; covers = λ i w. absurd (none_walked w); reached = inl refl }

module _ {set : ℕ} {f : ℕ → ℕ} {rest most : ℕ} (inv : Seen set f rest most) where
  pub all_seen : rest ≡ 0 → most ≡ largest 32 (member set) f
  all_seen e = le_antisymm (least inv.reached) (covered (largest_reached 32 (member set) f))
    where
      least : {m : ℕ} → (m ≡ 0) ⊎ Reaching 32 (member set) f m → m ≤ largest 32 (member set) f
      least (inl z) = omega arith
      least (inr r) = rw r.is (largest_covers 32 (member set) f r.at r.below r.passes)

      covered : {m : ℕ} → (m ≡ 0) ⊎ Reaching 32 (member set) f m → m ≤ most
      covered (inl z) = omega arith
      covered (inr r) = rw r.is (inv.covers r.at (all_walked e r.passes))

  pub one_seen : {i less new : ℕ} → TakesSmallest rest i less → new ≡ max most (f i) → Seen set f less new
  one_seen {i} {less} {new} takes e = record {
    walk = goes_on inv.walk takes;
    covers = λ j w. covered j (walked_now inv.walk takes w);
    reached = reached (leb (f i) most) refl inv.reached;
  }
    where
      covered : (j : ℕ) → Walked set rest j ⊎ (j ≡ i) → f j ≤ new
      covered j (inl w) = omega (arith, inv.covers j w)
      covered j (inr q) = rw q (omega arith)

      reached : (b : Bool) → leb (f i) most ≡ b → (most ≡ 0) ⊎ Reaching 32 (member set) f most → (new ≡ 0) ⊎ Reaching 32 (member set) f new
      reached false q r = inr (record { at = i; below = takes.below; passes = taken_in inv.walk takes; is = omega (arith, leb-false (f i) most q) })
      reached true q (inl z) = inl (omega (arith, leb-true (f i) most q))
      reached true q (inr r) =
          inr (record { at = r.at; below = r.below; passes = r.passes; is = omega (arith, leb-true (f i) most q, r.is) })

-- Two tests that agree, and two functions that do.
pub same_largest : {test other : ℕ → Bool} {f g : ℕ → ℕ} (n : ℕ) → ((i : ℕ) → test i ≡ other i) → ((i : ℕ) → f i ≡ g i) → largest n test f ≡ largest n other g
unfolding largest
same_largest zero tests each = refl
same_largest (suc n) tests each = rw (tests n, each n, same_largest n tests each)
