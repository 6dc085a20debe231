-- What is known of a refusal's reply by the law of `Refused`.
use mathlib.Core.Path.{◌≡◌, refl}
use mathlib.Core.List.{[]}
use mathlib.Core.Bool.{false}
use Prim.Native.Nat.{◌^◌, ◌<◌, ◌≤◌}
use native.Mathlib.Omega.{arith}
use borrow.Author.Tests.{ne_eqb}
use Rattle.wire.specs.Choice.{◌=?◌}
use Rattle.wire.specs.Reply.{Reply, gives, refuses, Ruled, number_in, place_in, values_in}
use Rattle.krossvil.specs.Small.{Fits}

-- Its number is no success's.
abbrev pub Numbered : Reply → Type 0
Numbered (gives values) = Unit
Numbered (refuses number place) = (number =? 0) ≡ false

pub few : (reply : Reply) → Ruled reply → number_in reply ≤ 36
few (gives values) h = absurd h
few (refuses number place) h = h.1

pub none : (reply : Reply) → Ruled reply → values_in reply ≡ []
none (gives values) h = absurd h
none (refuses number place) h = refl

pub some : (reply : Reply) → Ruled reply → (number_in reply =? 0) ≡ false
some (gives values) h = absurd h
some (refuses number place) h = ne_eqb number 0 (λ zero. omega (arith, h.0))

pub numbered : (reply : Reply) → Ruled reply → Numbered reply
numbered (gives values) h = absurd h
numbered (refuses number place) h = ne_eqb number 0 (λ zero. omega (arith, h.0))

-- What an entry turns down: it fits.
pub record Refuses (reply : Reply) : Type 0 where
  pub ruled : Ruled reply
  pub place : place_in reply < 2 ^ 32

pub fits_of : (reply : Reply) → Refuses reply → Fits reply
fits_of reply r = record { number = few reply r.ruled; place = r.place }
