-- The line of an answer: the numbers of a success, or a refusal's number and place.
use mathlib.Core.Path.{◌≡◌}
use mathlib.Core.List.{List, [], ◌∷◌}
use Prim.Native.Nat.{ℕ, ◌<◌}
use native.Mathlib.Omega.{arith}
use borrow.Author.Tests.{ne_eqb}
use Rattle.std.specs.Prelude.{Ok, Err}
use Rattle.wire.specs.Reply.{Reply, gives, refuses, number_in, place_in, Ruled}
use Rattle.journal.specs.declared.Numbers.{Numbers}
use Rattle.journal.specs.declared.Refusal.{Refusal}
use Rattle.journal.specs.Answer.{JournalAnswer, listed, journal_refusal, journal_ruled}
use Rattle.io.specs.Counts.{IsPrefixLen}
use Rattle.line.specs.Line.{line_with, accepted_names, refused_names, line_for, line_of, Puts}
use Rattle.line.proofs.Puts.{puts_counts}

-- A refusal's number is no success's.
numbered : (reply : Reply) → Ruled reply → 0 < number_in reply
numbered (gives values) h = elim h [ ]
numbered (refuses number place) h = h.0

module _ {answer : JournalAnswer} {before after : List ℕ} {size : ℕ} where
  pub puts_accepted : {n : Numbers} → answer ≡ Ok n → Puts (line_with accepted_names (listed n)) before 0 after size →
      Puts (line_of answer) before 0 after size × IsPrefixLen size after
  unfolding line_for
  puts_accepted is puts = (rw is puts, puts_counts puts)

  pub puts_refused : {refusal : Refusal} → answer ≡ Err refusal → {number place : ℕ} → number ≡ number_in (journal_refusal refusal) →
      place ≡ place_in (journal_refusal refusal) → Puts (line_with refused_names (number ∷ place ∷ [])) before 0 after size →
      Puts (line_of answer) before 0 after size × IsPrefixLen size after
  unfolding line_for
  puts_refused {refusal} is {number} n p puts =
      let some : number ≡ 0 → ⊥ = λ none. omega (arith, none, n, numbered (journal_refusal refusal) (journal_ruled refusal)) in
      (rw (is, ← n, ne_eqb number 0 some, ← p) puts, puts_counts puts)
