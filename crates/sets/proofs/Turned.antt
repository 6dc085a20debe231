-- Sets whose bytes are turned round.
use mathlib.Core.Path.{◌≡◌, sym, ◌∙◌}
use mathlib.Core.Bool.{true}
use Prim.Native.Nat.{ℕ, ◌+◌, ◌-◌, ◌/◌, ◌%◌, ◌^◌, ◌<◌, ◌≤◌}
use native.Mathlib.Omega.{arith}
use lib.Bits.{and_mask}
use lib.Pow.{shr-shr}
use Rattle.wire.specs.Choice.{◌and◌}
use Rattle.wire.specs.Turned.{turned32}
use Rattle.wire.proofs.Choice.{both}
use Rattle.wire.proofs.Turned.{turned_digits}
use Rattle.sets.specs.Sets.{member}
use Rattle.sets.proofs.Bits.{member-and}
use Rattle.sets.proofs.Members.{contained}

-- Where every member of a set is in another, each run of its bits is no larger a number than the other's.
module _ (x y : ℕ) (all_in : (i : ℕ) → member x i ≡ true → member y i ≡ true) where
  part_within : (k n : ℕ) → x / 2 ^ k % 2 ^ n ≤ y / 2 ^ k % 2 ^ n
  part_within k n = contained (x / 2 ^ k % 2 ^ n) (y / 2 ^ k % 2 ^ n) kept
    where
      low : (z i : ℕ) → member (z % 2 ^ n) i ≡ (member z i and member (2 ^ n - 1) i)
      low z i = rw (← and_mask z n) (member-and z (2 ^ n - 1) i)

      kept : (i : ℕ) → member (x / 2 ^ k % 2 ^ n) i ≡ true → member (y / 2 ^ k % 2 ^ n) i ≡ true
      kept i m =
          let b = both (member (x / 2 ^ k) i) (member (2 ^ n - 1) i) (sym (low (x / 2 ^ k) i) ∙ m) in
          let there : member (y / 2 ^ k) i ≡ true = rw (shr-shr y k i) (all_in (k + i) (rw (shr-shr x k i) at b.0)) in
          low (y / 2 ^ k) i ∙ rw (there, b.1)

lowest : (t y a : ℕ) → t % 256 ≡ a → t / 1 % 256 ≤ y / 1 % 256 → a ≤ y % 256
lowest t y a is l = omega arith

highest : (t y a : ℕ) → t ≡ a → a < 256 → t % 256 ≤ y % 256 → a ≤ y
highest t y a is small l = omega arith

no_larger : (x y : ℕ) → x / 16777216 ≤ y % 256 → x / 65536 % 256 ≤ y / 256 % 256 → x / 256 % 256 ≤ y / 65536 % 256 → x % 256 ≤ y / 16777216 → x ≤ turned32 y
unfolding turned32
no_larger x y a b c d = omega arith

-- So a number that is joined with others while its bytes are turned round is no larger than all of them turned back.
pub turned_within : (x y : ℕ) → x < 2 ^ 32 → ((i : ℕ) → member (turned32 x) i ≡ true → member y i ≡ true) → x ≤ turned32 y
turned_within x y small all_in =
    let d = turned_digits x small in
    let part = part_within (turned32 x) y all_in in
    no_larger x y (lowest _ y _ d.fourth (part 0 8)) (rw d.third at (part 8 8)) (rw d.second at (part 16 8))
    (highest _ (y / 16777216) _ d.first (omega arith) (part 24 8))
