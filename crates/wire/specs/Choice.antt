-- Tests and choices, written as a reader expects them. Each test is the library's own, under a sign of its own.
use Rattle.std.specs.Prelude.{ℕ, Bool, true, false, ltb, leb, eqb}

infix 50 ◌<?◌
infix 50 ◌≤?◌
infix 50 ◌=?◌
infixr 30 ◌and◌
infixr 25 ◌or◌
abbrev pub ◌<?◌ : ℕ → ℕ → Bool
a <? b = ltb a b

abbrev pub ◌≤?◌ : ℕ → ℕ → Bool
a ≤? b = leb a b

abbrev pub ◌=?◌ : ℕ → ℕ → Bool
a =? b = eqb a b

abbrev pub ◌and◌ : Bool → Bool → Bool
true and b = b
false and b = false

abbrev pub ◌or◌ : Bool → Bool → Bool
true or b = true
false or b = b
