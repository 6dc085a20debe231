-- A byte of a name, by what the code finds.
use mathlib.Core.Path.{◌≡◌}
use mathlib.Core.Logic.{inl, inr}
use mathlib.Core.List.{List, [], ◌∷◌}
use Prim.Native.Nat.{ℕ}
use native.Mathlib.Omega.{arith}
use borrow.Author.Tests.{lt-ltb, le-ltb, eq-eqb, ne_eqb}
use Rattle.std.specs.Char.{IsAsciiControl, IsNotAsciiControl}
use Rattle.line.specs.Line.{Puts}
use Rattle.sheet.specs.Sheet.{quoted_byte}

module _ {b : ℕ} {before : List ℕ} {at : ℕ} {after : List ℕ} {end : ℕ} where
  pub quote_put : b ≡ 34 → Puts (b ∷ b ∷ []) before at after end → Puts (quoted_byte b) before at after end
  unfolding quoted_byte
  quote_put e p = rw (eq-eqb b 34 e) p

  module _ (other : b ≡ 34 → ⊥) where
    pub control_put : IsAsciiControl b → Puts (63 ∷ []) before at after end → Puts (quoted_byte b) before at after end
    unfolding quoted_byte
    control_put (inl low) p = rw (ne_eqb b 34 other, lt-ltb b 32 (omega (arith, low.1))) p
    control_put (inr delete) p =
        rw (ne_eqb b 34 other, le-ltb b 32 (omega (arith, delete.0)), eq-eqb b 127 (omega (arith, delete.0, delete.1))) p

    pub sign_put : IsNotAsciiControl b → Puts (b ∷ []) before at after end → Puts (quoted_byte b) before at after end
    unfolding quoted_byte
    sign_put (inr high, other_sign) p =
        rw (ne_eqb b 34 other, le-ltb b 32 (omega (arith, high)), ne_eqb b 127 (λ e. elim other_sign [ inl h ↦ omega (arith, e, h) | inr h ↦ omega (arith, e, h) ])) p
    sign_put (inl none, other_sign) p = absurd (omega (arith, none))
