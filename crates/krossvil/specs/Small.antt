-- What the entries turn down themselves, what fits into one number of 64 bits, and what salvage passes up: helpers of contracts, no rules.
use Rattle.std.proofs.Common.{arith}
use Rattle.std.specs.Prelude.{Bool, true, false, ℕ, ◌^◌, ◌<◌, ◌≤◌, [], ◌∷◌, Result, Ok, Err, if◌then◌else◌}
use Rattle.wire.specs.Choice.{◌<?◌, ◌=?◌}
use Rattle.wire.specs.Reply.{Reply, gives, refuses, Ruled, number_in, place_in}
use Rattle.live.specs.Answer.{Watched, not_taken_reply}
use Rattle.krossvil.specs.declared.telling.Refusal.{Refusal}
use Rattle.krossvil.specs.declared.telling.Refusal.TheVariants.{BufferTooShort, Full}

abbrev pub krossvil_refusal : Refusal → Reply
krossvil_refusal BufferTooShort = refuses 30 0
krossvil_refusal Full = refuses 35 0

pub krossvil_ruled : (refusal : Refusal) → Ruled (krossvil_refusal refusal)
krossvil_ruled BufferTooShort = omega arith
krossvil_ruled Full = omega arith

abbrev pub reply_of : Result Unit Refusal → Reply
reply_of (Ok passed) = gives []
reply_of (Err refusal) = krossvil_refusal refusal

-- What an entry replies that makes so many bytes.
abbrev pub sized : {R : Type 0} → (R → Reply) → Result ℕ R → Reply
sized refused (Ok size) = gives (size ∷ [])
sized refused (Err refusal) = refused refusal

-- What is told of that fits. That a refusal's number does is a law of `Refused`.
abbrev pub Tellable : {R : Type 0} → (R → Reply) → Result ℕ R → Type 0
Tellable refused (Ok size) = size < 2 ^ 32
Tellable refused (Err refusal) = place_in (refused refusal) < 2 ^ 32

pub record Fits (reply : Reply) : Type 0 where
  pub number : number_in reply ≤ 36
  pub place : place_in reply < 2 ^ 32

-- A refusal of the table, of the length or of the opening field.
unfoldable pub passed_up : (number place : ℕ) → Bool
passed_up number place = if number =? 0 then false else if number <? 20 then true else place =? 0

-- The room in a buffer beside the answer: none where the answer lacks room for its numbers.
unfoldable pub room_beside : (answer needs buffer : ℕ) → ℕ
room_beside answer needs buffer = if answer <? needs then 0 else buffer

-- What the live check turns down fits.
abbrev pub Refusing : Watched → Type 0
Refusing (Ok numbers) = Unit
Refusing (Err refusal) = place_in (not_taken_reply refusal) < 2 ^ 32
