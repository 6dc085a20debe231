-- Numbers with their bytes turned round.
use mathlib.Core.Path.{◌≡◌, refl}
use mathlib.Core.List.{[], ◌∷◌}
use Prim.Native.Nat.{ℕ, ◌+◌, ◌*◌, ◌/◌, ◌%◌, ◌^◌, ◌<◌}
use native.Mathlib.Omega.{arith}
use Rattle.wire.specs.Encode.{bytes32}
use Rattle.wire.specs.Turned.{turned32}
use Rattle.wire.proofs.Bytes.{Digits, digits_of}

-- Four bytes are read from their other end.
module _ (a b c d : ℕ) (hb : b < 256) (hc : c < 256) (hd : d < 256) where
  pub read_turned : d * 16777216 + c * 65536 + b * 256 + a ≡ turned32 (a * 16777216 + b * 65536 + c * 256 + d)
  unfolding turned32
  read_turned =
      let n = digits_of a b c d hb hc hd in
      rw (n.first, n.second, n.third, n.fourth) (omega arith)

  pub below_turned : a < 256 → a * 16777216 + b * 65536 + c * 256 + d < 2 ^ 32
  below_turned ha = omega arith

-- The bytes of the turned number are those of the number, from its end on.
pub turned_digits : (x : ℕ) → x < 2 ^ 32 → Digits (turned32 x) (x % 256) (x / 256 % 256) (x / 65536 % 256) (x / 16777216)
unfolding turned32
turned_digits x small =
    let e : turned32 x ≡ x % 256 * 16777216 + x / 256 % 256 * 65536 + x / 65536 % 256 * 256 + x / 16777216 = omega arith in
    rw e (digits_of (x % 256) (x / 256 % 256) (x / 65536 % 256) (x / 16777216) (omega arith) (omega arith) (omega arith))

-- Only 0 is 0 turned round: each of its bytes is 0, from the top on.
pub turned_zero : (x : ℕ) → turned32 x ≡ 0 → x ≡ 0
unfolding turned32
turned_zero x e = all (omega arith) (omega arith) (omega arith) (omega arith)
  where
    byte : (q : ℕ) → q < 256 → q % 256 ≡ 0 → q ≡ 0
    byte q h z = omega arith

    all : x / 16777216 ≡ 0 → x / 65536 % 256 ≡ 0 → x / 256 % 256 ≡ 0 → x % 256 ≡ 0 → x ≡ 0
    all a b c d =
        let two : x / 65536 ≡ 0 = byte (x / 65536) (omega (arith, a)) b in
        let three : x / 256 ≡ 0 = byte (x / 256) (omega (arith, two)) c in
        byte x (omega (arith, three)) d

pub swapped_bytes : (x n : ℕ) → x < 2 ^ 32 → n ≡ turned32 x → n % 256 ∷ n / 256 % 256 ∷ n / 65536 % 256 ∷ n / 16777216 % 256 ∷ [] ≡ bytes32 x
swapped_bytes x n small is =
    let d = turned_digits x small in
    let top : turned32 x / 16777216 % 256 ≡ x % 256 = omega (arith, d.first) in
    rw (is, top, d.second, d.third, d.fourth) refl
