-- What the calculator of one move gives, said without computing it; proofs/Calculators proves each.
use Rattle.std.specs.Prelude.{◌≡◌, List, false, ◌↔◌, ℕ, Ok, Err}
use Rattle.sets.specs.Sets.{member}
use Rattle.table.specs.declared.Table.{Table}
use Rattle.table.specs.Table.{next_of, WellFormed}
use Rattle.table.specs.Check.{table_answer, table_in}
use Rattle.reaction.specs.declared.Refusal.TheVariants.{HasTimers, LeavesStates}
use Rattle.reaction.specs.Answer.{ReactionAnswer}
use Rattle.reaction.specs.Reaction.{reaction_of, react_of}
use Rattle.reaction.specs.Meaning.{Known, Pairs, Means}

-- Under a table the answer that is given means what it should, and no other answer does.
abbrev pub AnswerMeans : Type 0
AnswerMeans = (t : Table) → WellFormed t → (P A : ℕ) (r : ReactionAnswer) → (r ≡ reaction_of t P A) ↔ Means t P A r

-- On the bytes of a table with holds the same ..
abbrev pub EntryMeans : Type 0
EntryMeans = (s : List ℕ) → table_answer s ≡ Ok tt → (table_in s).timers ≡ 0 → (P A : ℕ) (r : ReactionAnswer) → (r ≡ react_of s P A) ↔ Means (table_in s) P A r

-- .. and on those of one with timers 14.
abbrev pub FourteenComes : Type 0
FourteenComes = (s : List ℕ) → table_answer s ≡ Ok tt → ((table_in s).timers ≡ 0 → ⊥) → (P A : ℕ) → react_of s P A ≡ Err HasTimers

-- 10 comes wherever 9 does not and some next(p, a) is outside P.
abbrev pub TenComes : Type 0
TenComes =
    (t : Table) → WellFormed t → (P A : ℕ) → Known t.states P → Known t.inputs A →
    (p a : ℕ) → Pairs P A p a → member P (next_of t p a) ≡ false → (place : ℕ) × (Err (LeavesStates place) ≡ reaction_of t P A)
