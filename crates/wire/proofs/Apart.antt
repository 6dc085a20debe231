-- Two constructors are never equal: where `cc` finds that, it proves 0 ≡ 1.
use mathlib.Core.Path.{◌≡◌}
use Prim.Native.Nat.{ℕ}
use native.Mathlib.Omega.{arith}

pub apart : {A : Type 0} → ◌≡◌ {A = ℕ} 0 1 → A
apart z = absurd (let f : ⊥ = omega arith in f)
