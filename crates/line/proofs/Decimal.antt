-- The digits that the kit writes are those of `decimal`: at most twenty.
use mathlib.Core.Path.{◌≡◌, ◌∙◌}
use mathlib.Core.List.{List, ◌++◌}
use Prim.Native.Nat.{ℕ, zero, suc, ◌+◌, ◌-◌, ◌/◌, ◌%◌, ◌^◌, ◌<◌, ◌≤◌}
use native.Mathlib.Nat.{pow-suc, one-le-pow}
use native.Mathlib.Omega.{arith}
use borrow.Author.Tests.{lt-ltb, le-ltb}
use lib.ListN.{length, take, length-take}
use Rattle.io.specs.Digits.{last_digits, IsDigitCount}
use Rattle.line.specs.Line.{digits_of, decimal, Puts}
use Rattle.line.proofs.Puts.{puts_both}

two_digits : (r n : ℕ) → 10 ^ suc r ≤ n → 10 ≤ n
two_digits r n low = omega (arith, pow-suc 10 r, one-le-pow r 10 (omega arith))

-- A number that takes r + 1 digits is written so, if there is room for them.
digits_same : (r k n : ℕ) → n < 10 ^ suc r → (1 ≤ r → 10 ^ r ≤ n) → n < 10 ^ suc k → (r ≤ k) × (last_digits 10 (suc r) n ≡ digits_of (suc k) n)
unfolding digits_of
digits_same zero k n high low h =
    let same : n % 10 ≡ n = omega arith in
    (omega arith, rw (lt-ltb n 10 high, same, lt-ltb n 10 high))
digits_same (suc r) zero n high low h = absurd (let z : ⊥ = omega (arith, two_digits r n (low (omega arith))) in z)
digits_same (suc r) (suc k) n high low h =
    let least : 10 ^ suc r ≤ n = low (omega arith) in
    let less : n / 10 < 10 ^ suc r = omega (arith, pow-suc 10 (suc r)) in
    let rest = digits_same r k (n / 10) less (λ more. omega (arith, pow-suc 10 r)) (omega (arith, pow-suc 10 (suc k))) in
    (omega (arith, rest.0), rw (le-ltb n 10 (two_digits r n least), rest.1, lt-ltb (n % 10) 10 (omega arith)))

spelled : (n size : ℕ) → n < 2 ^ 64 → IsDigitCount 10 1 n size → (size ≤ 20) × (last_digits 10 size n ≡ decimal n)
spelled n zero fits fewest = absurd (let z : ⊥ = omega (arith, fewest.0) in z)
spelled n (suc r) fits fewest =
    let one_less : suc r - 1 ≡ r = omega arith in
    let same = digits_same r 19 n fewest.1 (λ more. rw one_less at (fewest.2 (omega arith))) (omega arith) in
    (omega (arith, same.0), same.1)

-- What the kit wrote for a number of 64 bits.
module _ (n size : ℕ) (out : List ℕ) (fits : n < 2 ^ 64) (fewest : IsDigitCount 10 1 n size) (is : take size out ≡ last_digits 10 size n) where
  pub short : length (take size out) ≤ 20
  short = rw length-take (omega (arith, (spelled n size fits fewest).0))

  pub puts_number : {name before : List ℕ} {at : ℕ} {between : List ℕ} {middle : ℕ} {after : List ℕ} {end : ℕ} →
      Puts name before at between middle → Puts (take size out) between middle after end →
      Puts (name ++ decimal n) before at after end × (end ≤ at + length name + 20)
  puts_number p q = (puts_both p (rw (is ∙ (spelled n size fits fewest).1) at q), omega (arith, short))
