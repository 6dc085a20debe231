-- The members of a number that is made by an operation on bits.
use mathlib.Core.Path.{◌≡◌, refl, sym, ◌∙◌}
use mathlib.Core.Bool.{Bool, true, false, not}
use mathlib.Core.Logic.{◌⊎◌, inl, inr}
use Prim.Native.Nat.{ℕ, zero, suc, ◌+◌, ◌*◌, ◌/◌, ◌%◌, ◌^◌, ◌<◌, min, max}
use native.Mathlib.Nat.{pow-suc, mod-eq_of_lt}
use native.Mathlib.Numerals.{one-add}
use native.Mathlib.Omega.{arith}
use lib.Bits.{bit_and, bit_or, bit_xor, differ, and_step, or_step, xor_step, and_shr, or_shr, xor_shr}
use lib.Dec.{eqb-zero-suc, eqb-suc-zero, eqb-suc-suc}
use lib.Pow.{pow-lt, shr-shr}
use Rattle.wire.specs.Choice.{◌=?◌, ◌and◌, ◌or◌}
use Rattle.sets.specs.Sets.{member, Single, Union, Difference}

pub even_or_odd : (x : ℕ) → (x % 2 ≡ 0) ⊎ (x % 2 ≡ 1)
even_or_odd x = go (x % 2) (omega arith)
  where
    go : (r : ℕ) → r < 2 → (r ≡ 0) ⊎ (r ≡ 1)
    go zero h = inl refl
    go (suc zero) h = inr refl
    go (suc (suc r)) h = absurd (let z : ⊥ = omega arith in z)

pub member_zero : (x : ℕ) → member x 0 ≡ (x % 2 =? 1)
member_zero x = let e : x / 1 ≡ x = omega arith in rw e

pub member-suc : (x i : ℕ) → member x (suc i) ≡ member (x / 2) i
member-suc x i = let e : x / 2 / 2 ^ i ≡ x / 2 ^ (1 + i) = shr-shr x 1 i in rw (e, one-add)

-- An operation on the lowest bits of two numbers, and what it does to membership.
module _ (f : ℕ → ℕ → ℕ) (g : Bool → Bool → Bool)
    (e₀₀ : (f 0 0 =? 1) ≡ g false false) (e₀₁ : (f 0 1 =? 1) ≡ g false true)
    (e₁₀ : (f 1 0 =? 1) ≡ g true false) (e₁₁ : (f 1 1 =? 1) ≡ g true true) where
  on_bits : (x y : ℕ) → (f (x % 2) (y % 2) =? 1) ≡ g (x % 2 =? 1) (y % 2 =? 1)
  on_bits x y = go (even_or_odd x) (even_or_odd y)
    where
      go : (x % 2 ≡ 0) ⊎ (x % 2 ≡ 1) → (y % 2 ≡ 0) ⊎ (y % 2 ≡ 1) → (f (x % 2) (y % 2) =? 1) ≡ g (x % 2 =? 1) (y % 2 =? 1)
      go (inl a) (inl b) = rw (a, b) e₀₀
      go (inl a) (inr b) = rw (a, b) e₀₁
      go (inr a) (inl b) = rw (a, b) e₁₀
      go (inr a) (inr b) = rw (a, b) e₁₁

low_and : (x y : ℕ) → bit_and x y % 2 ≡ min (x % 2) (y % 2)
low_and x y = let e : bit_and x y ≡ bit_and (x / 2) (y / 2) * 2 + min (x % 2) (y % 2) = and_step x y in omega arith

low_or : (x y : ℕ) → bit_or x y % 2 ≡ max (x % 2) (y % 2)
low_or x y = let e : bit_or x y ≡ bit_or (x / 2) (y / 2) * 2 + max (x % 2) (y % 2) = or_step x y in omega arith

low_xor : (x y : ℕ) → bit_xor x y % 2 ≡ differ (x % 2) (y % 2)
low_xor x y = go (even_or_odd x) (even_or_odd y)
  where
    e : bit_xor x y ≡ bit_xor (x / 2) (y / 2) * 2 + differ (x % 2) (y % 2)
    e = xor_step x y

    go : (x % 2 ≡ 0) ⊎ (x % 2 ≡ 1) → (y % 2 ≡ 0) ⊎ (y % 2 ≡ 1) → bit_xor x y % 2 ≡ differ (x % 2) (y % 2)
    go (inl a) (inl b) = rw e (rw (a, b) (omega arith))
    go (inl a) (inr b) = rw e (rw (a, b) (omega arith))
    go (inr a) (inl b) = rw e (rw (a, b) (omega arith))
    go (inr a) (inr b) = rw e (rw (a, b) (omega arith))

pub member-and : (a b i : ℕ) → member (bit_and a b) i ≡ (member a i and member b i)
member-and a b i = rw (and_shr, low_and) (on_bits min ◌and◌ refl refl refl refl (a / 2 ^ i) (b / 2 ^ i))

pub union_is : (a b : ℕ) → Union a b (bit_or a b)
union_is a b i = rw (or_shr, low_or) (on_bits max ◌or◌ refl refl refl refl (a / 2 ^ i) (b / 2 ^ i))

pub difference_is : (a b : ℕ) → Difference a b (bit_and a (bit_xor a b))
difference_is a b i =
    rw (and_shr, low_and, xor_shr, low_xor)
    (on_bits (λ x y. min x (differ x y)) (λ x y. x and not y) refl refl refl refl (a / 2 ^ i) (b / 2 ^ i))

-- ---- One member

pub none_in_empty : (i : ℕ) → member 0 i ≡ false
none_in_empty zero = refl
none_in_empty (suc i) = member-suc 0 i ∙ none_in_empty i

pub single_is : (i : ℕ) → Single i (2 ^ i)
single_is zero zero = refl
single_is zero (suc j) = member-suc 1 j ∙ none_in_empty j ∙ sym (eqb-suc-zero j)
single_is (suc i) zero =
    let e : 2 ^ suc i ≡ 2 ^ i * 2 = pow-suc 2 i in
    let z : 2 ^ suc i % 2 ≡ 0 = omega arith in
    member_zero (2 ^ suc i) ∙ (rw z (sym (eqb-zero-suc i)))
single_is (suc i) (suc j) =
    let e : 2 ^ suc i ≡ 2 ^ i * 2 = pow-suc 2 i in
    let h : 2 ^ suc i / 2 ≡ 2 ^ i = omega arith in
    member-suc (2 ^ suc i) j ∙ (rw h (single_is i j)) ∙ sym (eqb-suc-suc j i)

-- The code's 1 << k, at a width of w bits.
pub one_shl : (k w : ℕ) → k < w → (1 * 2 ^ k) % 2 ^ w ≡ 2 ^ k
one_shl k w h = let e : 1 * 2 ^ k ≡ 2 ^ k = omega arith in rw e (mod-eq_of_lt (pow-lt h))
