-- What a test that came out true says.
use mathlib.Core.Path.{◌≡◌, refl, sym}
use mathlib.Core.Bool.{Bool, true, false}
use mathlib.Core.Logic.{◌⊎◌, inl, inr}
use Rattle.wire.specs.Choice.{◌and◌, ◌or◌}
use Rattle.wire.proofs.Apart.{apart}

pub never : {A : Type 0} → false ≡ true → A
never e = apart cc

pub both : (a b : Bool) → (a and b) ≡ true → (a ≡ true) × (b ≡ true)
both true b e = (refl, e)
both false b e = never e

pub and_both : (a b : Bool) → a ≡ true → b ≡ true → (a and b) ≡ true
and_both true b e f = f
and_both false b e f = never e

pub or_first : (a b : Bool) → a ≡ true → (a or b) ≡ true
or_first true b e = refl
or_first false b e = never e

pub or_second : (a b : Bool) → b ≡ true → (a or b) ≡ true
or_second true b e = refl
or_second false b e = e

pub either : (a b : Bool) → (a or b) ≡ true → (a ≡ true) ⊎ (b ≡ true)
either true b e = inl refl
either false b e = inr e

-- Two tests that say the same.
pub same_test : (a b : Bool) → (a ≡ true → b ≡ true) → (b ≡ true → a ≡ true) → a ≡ b
same_test true b f g = sym (f refl)
same_test false true f g = g refl
same_test false false f g = refl
