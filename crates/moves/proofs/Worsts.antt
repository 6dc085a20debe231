-- The walk that finds the largest of several numbers and the smallest member that has it.
use mathlib.Core.Path.{◌≡◌, refl, ◌∙◌}
use mathlib.Core.Bool.{Bool, true, false}
use mathlib.Core.Logic.{◌⊎◌, inl, inr, ⊎_elim}
use Prim.Native.Nat.{ℕ, ◌<◌, ◌≤◌}
use native.Mathlib.Nat.{le_antisymm}
use native.Mathlib.Omega.{arith}
use borrow.Author.Tests.{ltb-true, ltb-false, eq-eqb, ne_eqb}
use Rattle.std.specs.Prelude.{if◌then◌else◌}
use Rattle.wire.specs.Choice.{◌<?◌, ◌=?◌, ◌and◌}
use Rattle.wire.proofs.Choice.{and_both}
use Rattle.sets.specs.Sets.{member, largest, TakesSmallest}
use Rattle.sets.proofs.Members.{largest_covers, largest_reached, Reaching}
use Rattle.sets.proofs.Walk.{Walk, Walked, begins, none_walked, all_walked, goes_on, taken_in, smaller_walked, walked_now}
use Rattle.reaction.proofs.First.{first_is}
use Rattle.moves.specs.declared.rounds.Most.{Most}
use Rattle.moves.specs.Moves.{worst}
use Rattle.moves.specs.Walks.{WorstMember}

abbrev First : (set : ℕ) → (ℕ → ℕ) → (sum at : ℕ) → Type 0
First set f sum at = (member set at ≡ true) × (f at ≡ sum) × ((j : ℕ) → j < at → member set j ≡ true → f j < sum)

pub record OverMembers (set : ℕ) (f : ℕ → ℕ) (rest sum at : ℕ) : Type 0 where
  pub walk : Walk set rest
  pub covers : (i : ℕ) → Walked set rest i → f i ≤ sum
  pub reached : (sum ≡ 0) ⊎ First set f sum at

pub none_yet : {set : ℕ} {f : ℕ → ℕ} → OverMembers set f set 0 0
none_yet = record { walk = begins; covers = λ i w. absurd (none_walked w); reached = inl refl }

module _ {set : ℕ} {f : ℕ → ℕ} {rest sum at : ℕ} (inv : OverMembers set f rest sum at) where
  pub all_seen : rest ≡ 0 → WorstMember set f sum at
  all_seen e = record { covers = λ i m. inv.covers i (all_walked e m); reached = inv.reached }

  module _ {i less : ℕ} (takes : TakesSmallest rest i less) where
    seen : (new : ℕ) → sum ≤ new → f i ≤ new → (j : ℕ) → Walked set less j → f j ≤ new
    seen new l m j w = go (walked_now inv.walk takes w)
      where
        go : Walked set rest j ⊎ (j ≡ i) → f j ≤ new
        go (inl w) = omega (arith, inv.covers j w)
        go (inr q) = rw q m

    larger_now : sum < f i → OverMembers set f less (f i) i
    larger_now l = record {
      walk = goes_on inv.walk takes;
      covers = seen (f i) (omega arith) (omega arith);
      reached = inr (taken_in inv.walk takes, refl, λ j h m. omega (arith, inv.covers j (smaller_walked inv.walk takes m h)));
    }

    as_before : f i ≤ sum → OverMembers set f less sum at
    as_before l = record {
      walk = goes_on inv.walk takes;
      covers = seen sum (omega arith) l;
      reached = inv.reached;
    }

-- The walk as a loop keeps it, with what was found so far as one value.
pub one_more : {set : ℕ} {f : ℕ → ℕ} {rest i less : ℕ} {found : Most} → OverMembers set f rest found.sum found.member →
    TakesSmallest rest i less → (v : ℕ) → v ≡ f i →
    (new : Most) → new ≡ (if found.sum <? v then record { sum = v; member = i } else found) → OverMembers set f less new.sum new.member
one_more {set} {f} {rest} {i} {less} {found} inv takes v is new e = rw e (go (found.sum <? v) refl)
  where
    go : (b : Bool) → (found.sum <? v) ≡ b →
        OverMembers set f less (if b then record { sum = v; member = i } else found).sum (if b then record { sum = v; member = i } else found).member
    go true q = rw is (larger_now inv takes (rw is at (ltb-true found.sum v q)))
    go false q = as_before inv takes (rw is at (ltb-false found.sum v q))

-- ---- What was found is what the definitions name

pub worst_in : {set : ℕ} {f : ℕ → ℕ} {sum at : ℕ} → WorstMember set f sum at → (sum ≡ 0 → ⊥) → member set at ≡ true
worst_in found other = ⊎_elim (λ z. absurd (other z)) (λ r. r.0) found.reached

module _ {set n : ℕ} {f : ℕ → ℕ} {sum at : ℕ} (below : (i : ℕ) → member set i ≡ true → i < n) (found : WorstMember set f sum at) where
  pub is_largest : sum ≡ largest n (member set) f
  is_largest = le_antisymm (least found.reached) (most (largest_reached n (member set) f))
    where
      least : (sum ≡ 0) ⊎ First set f sum at → sum ≤ largest n (member set) f
      least (inl z) = omega arith
      least (inr r) = rw (← r.1) (largest_covers n (member set) f at (below at r.0) r.0)

      most : {m : ℕ} → (m ≡ 0) ⊎ Reaching n (member set) f m → m ≤ sum
      most (inl z) = omega arith
      most (inr r) = rw r.is (found.covers r.at r.passes)

  pub is_worst : 0 < sum → at ≡ worst n (member set) f
  unfolding worst
  is_worst some = go found.reached
    where
      go : (sum ≡ 0) ⊎ First set f sum at → at ≡ worst n (member set) f
      go (inl z) = absurd (let y : ⊥ = omega arith in y)
      go (inr r) = first_is _ n at (below at r.0) (has r) (λ j h. none r j h (member set j) refl)
        where
          has : First set f sum at → (member set at and (f at =? largest n (member set) f)) ≡ true
          has r = and_both (member set at) _ r.0 (eq-eqb (f at) (largest n (member set) f) (r.1 ∙ is_largest))

          none : First set f sum at → (j : ℕ) → j < at → (b : Bool) → member set j ≡ b → (b and (f j =? largest n (member set) f)) ≡ false
          none r j h false e = refl
          none r j h true e = ne_eqb (f j) (largest n (member set) f) (λ q. let l = r.2 j h e in omega (arith, is_largest))
