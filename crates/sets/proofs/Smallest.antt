-- The smallest member of a set stands where the trailing zeros end, and x & (x - 1) has the others.
use mathlib.Core.Path.{◌≡◌, sym, ap, ◌∙◌}
use mathlib.Core.Bool.{true, false, not, and-true, true≢false}
use mathlib.Core.Logic.{◌⊎◌, inl, inr}
use Prim.Native.Nat.{ℕ, zero, suc, ◌-◌, ◌*◌, ◌/◌, ◌%◌, ◌^◌, ◌<◌}
use native.Mathlib.Nat.{pow-suc, not-suc-le-zero}
use native.Mathlib.Omega.{arith}
use lib.Bits.{bit_and, and_step, and_self, and_le_l, and_le_r}
use borrow.Author.Tests.{not-true, ne_eqb, eqb-false}
use lib.Count.{count_trailing_zeros, under}
use lib.Dec.{eqb-suc-zero, eqb-suc-suc}
use Rattle.wire.specs.Choice.{◌=?◌, ◌and◌}
use Rattle.wire.proofs.Choice.{same_test}
use Rattle.sets.specs.Sets.{member, meets, TakesSmallest}
use Rattle.sets.proofs.Bits.{even_or_odd, member_zero, member-suc, member-and, none_in_empty}
use Rattle.sets.proofs.Members.{some_if, passing}

-- In a number of k bits.
record Smallest (k x i : ℕ) : Type 0 where
  below : i < k
  is_in : member x i ≡ true
  smallest : (j : ℕ) → j < i → member x j ≡ false
  others : (j : ℕ) → member (bit_and x (x - 1)) j ≡ (member x j and not (j =? i))

odd : (k x : ℕ) → x % 2 ≡ 1 → Smallest (suc k) x 0
odd k x e = record { below = omega arith; is_in = member_zero x ∙ (rw e); smallest = λ j h. absurd (not-suc-le-zero h); others = others }
  where
    cleared : bit_and x (x - 1) ≡ x / 2 * 2
    cleared =
        let half : (x - 1) / 2 ≡ x / 2 = omega arith in
        let low : (x - 1) % 2 ≡ 0 = omega arith in
        and_step x (x - 1) ∙ (rw (half, low, e, and_self) (omega arith))

    others : (j : ℕ) → member (bit_and x (x - 1)) j ≡ (member x j and not (j =? 0))
    others zero = let z : x / 2 * 2 % 2 ≡ 0 = omega arith in rw cleared (member_zero (x / 2 * 2) ∙ (rw (z, member_zero, e)))
    others (suc j) =
        let h : x / 2 * 2 / 2 ≡ x / 2 = omega arith in
        rw (cleared, member-suc (x / 2 * 2) j, h, eqb-suc-zero, member-suc x j) (sym (and-true (member (x / 2) j)))

even : (k x i : ℕ) → x % 2 ≡ 0 → 0 < x → Smallest k (x / 2) i → Smallest (suc k) x (suc i)
even k x i e p s = record { below = omega (arith, s.below); is_in = member-suc x i ∙ s.is_in; smallest = smallest; others = others }
  where
    smallest : (j : ℕ) → j < suc i → member x j ≡ false
    smallest zero h = member_zero x ∙ (rw e)
    smallest (suc j) h = member-suc x j ∙ s.smallest j (omega arith)

    cleared : bit_and x (x - 1) ≡ bit_and (x / 2) (x / 2 - 1) * 2
    cleared =
        let half : (x - 1) / 2 ≡ x / 2 - 1 = omega arith in
        let low : (x - 1) % 2 ≡ 1 = omega arith in
        and_step x (x - 1) ∙ (rw (half, low, e) (omega arith))

    others : (j : ℕ) → member (bit_and x (x - 1)) j ≡ (member x j and not (j =? suc i))
    others zero =
        let rest = bit_and (x / 2) (x / 2 - 1) in
        let z : rest * 2 % 2 ≡ 0 = omega arith in
        rw cleared (member_zero (rest * 2) ∙ (rw (z, member_zero, e)))
    others (suc j) =
        let rest = bit_and (x / 2) (x / 2 - 1) in
        let h : rest * 2 / 2 ≡ rest = omega arith in
        rw (cleared, member-suc (rest * 2) j, h, member-suc x j, eqb-suc-suc) (s.others j)

smallest_in : (k x : ℕ) → 0 < x → x < 2 ^ k → Smallest k x (count_trailing_zeros k x)
unfolding count_trailing_zeros
smallest_in zero x p h = absurd (let z : ⊥ = omega arith in z)
smallest_in (suc k) x p h =
    let e : 2 ^ suc k ≡ 2 ^ k * 2 = pow-suc 2 k in
    go (λ q. smallest_in k (x / 2) q (omega arith)) (even_or_odd x)
  where
    go : (0 < x / 2 → Smallest k (x / 2) (count_trailing_zeros k (x / 2))) → (x % 2 ≡ 0) ⊎ (x % 2 ≡ 1) →
        Smallest (suc k) x (under (x % 2) (count_trailing_zeros k (x / 2)))
    go half (inl e) = rw e (even k x (count_trailing_zeros k (x / 2)) e p (half (omega arith)))
    go half (inr e) = rw e (odd k x e)

pub takes_smallest : (set : ℕ) → 0 < set → set < 2 ^ 32 → TakesSmallest set (count_trailing_zeros 32 set) (bit_and set (set - 1))
takes_smallest set p h =
    let s = smallest_in 32 set p h in
    record {
      below = s.below;
      is_in = s.is_in;
      smallest = s.smallest;
      others = s.others;
      less = omega (arith, and_le_r set (set - 1));
    }

-- A set that is not empty has a member, so that sets meet exactly when their cut is not empty.
pub cut_meets : (a b : ℕ) → a < 2 ^ 32 → not (bit_and a b =? 0) ≡ meets a b
cut_meets a b h = same_test (not (bit_and a b =? 0)) (meets a b) common cut
  where
    common : not (bit_and a b =? 0) ≡ true → meets a b ≡ true
    common e =
        let n : bit_and a b ≡ 0 → ⊥ = eqb-false (bit_and a b) 0 (not-true (bit_and a b =? 0) e) in
        let s = takes_smallest (bit_and a b) (omega arith) (omega (arith, and_le_l a b)) in
        let i = count_trailing_zeros 32 (bit_and a b) in
        some_if 32 (λ j. member a j and member b j) i s.below (sym (member-and a b i) ∙ s.is_in)

    cut : meets a b ≡ true → not (bit_and a b =? 0) ≡ true
    cut e =
        let p = passing 32 (λ j. member a j and member b j) e in
        let m : member (bit_and a b) p.at ≡ true = member-and a b p.at ∙ p.passes in
        rw (ne_eqb (bit_and a b) 0 (λ z. true≢false (sym m ∙ ap (λ x. member x p.at) z ∙ none_in_empty p.at)))
