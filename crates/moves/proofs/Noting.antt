-- An array of weights or of images, filled member by member.
use mathlib.Core.Path.{◌≡◌, refl, sym, ◌∙◌}
use mathlib.Core.Bool.{Bool, true, false}
use mathlib.Core.List.{List}
use mathlib.Core.Logic.{◌⊎◌, inl, inr}
use Prim.Native.Nat.{ℕ}
use native.Mathlib.Omega.{arith}
use borrow.Author.Tests.{eqb-true, eqb-false}
use lib.ListN.{length, get_or, set, length-set}
use lib.Seq.{get_or-set_same, get_or-set_other}
use Rattle.wire.specs.Choice.{◌=?◌}
use Rattle.wire.proofs.Choice.{never}
use Rattle.sets.specs.Sets.{member, TakesSmallest}
use Rattle.sets.proofs.Walk.{Walk, Walked, begins, none_walked, all_walked, goes_on, taken_walked, walked_before, walked_now}
use Rattle.table.specs.Entries.{zeros}
use Rattle.table.proofs.Values.{get_or-zeros}
use Rattle.moves.specs.Walks.{ForMembers}

-- The members walked over have theirs, and all others have 0.
pub record Noting (states : ℕ) (Is : ℕ → ℕ → Type 0) (rest : ℕ) (array : List ℕ) : Type 0 where
  pub walk : Walk states rest
  pub long : length array ≡ 32
  pub done : (i : ℕ) → Walked states rest i → Is i (get_or array i 0)
  pub others : (i : ℕ) → (Walked states rest i → ⊥) → get_or array i 0 ≡ 0

pub none_noted : {states rest : ℕ} {Is : ℕ → ℕ → Type 0} → rest ≡ states → Noting states Is rest (zeros 32)
none_noted all = rw all (record { walk = begins; long = refl; done = λ i w. absurd (none_walked w); others = λ i none. get_or-zeros 32 i })

module _ {states : ℕ} {Is : ℕ → ℕ → Type 0} {rest : ℕ} {array : List ℕ} (inv : Noting states Is rest array) where
  pub one_noted : {i less : ℕ} → TakesSmallest rest i less → (v : ℕ) → Is i v → Noting states Is less (set array i v)
  one_noted {i} {less} takes v is = record {
    walk = goes_on inv.walk takes;
    long = simp length-set inv.long;
    done = λ j w. go j w (j =? i) refl (walked_now inv.walk takes w);
    others = λ j none. other j none (j =? i) refl;
  }
    where
      here : get_or (set array i v) i 0 ≡ v
      here = get_or-set_same array i v 0 (omega (arith, inv.long, takes.below))

      go : (j : ℕ) → Walked states less j → (b : Bool) → (j =? i) ≡ b → Walked states rest j ⊎ (j ≡ i) → Is j (get_or (set array i v) j 0)
      go j w true q s = rw (eqb-true j i q, here) is
      go j w false q (inl old) = rw (get_or-set_other array i j v 0 (eqb-false j i q)) (inv.done j old)
      go j w false q (inr z) = absurd (eqb-false j i q z)

      other : (j : ℕ) → (Walked states less j → ⊥) → (b : Bool) → (j =? i) ≡ b → get_or (set array i v) j 0 ≡ 0
      other j none true q = absurd (none (rw (eqb-true j i q) (taken_walked inv.walk takes)))
      other j none false q = get_or-set_other array i j v 0 (eqb-false j i q) ∙ inv.others j (λ w. none (walked_before inv.walk takes w))

  pub all_noted : rest ≡ 0 → ForMembers states Is array
  all_noted e = record { each = λ i m. inv.done i (all_walked e m); others = λ i m. inv.others i (λ w. never (sym m ∙ w.is_in)) }

-- What each member's number is, is also what follows of it.
pub follows : {states : ℕ} {Is Then : ℕ → ℕ → Type 0} {array : List ℕ} → ForMembers states Is array
    → ((i n : ℕ) → member states i ≡ true → Is i n → Then i n) → ForMembers states Then array
follows all then = record { each = λ i m. then i _ m (all.each i m); others = all.others }
