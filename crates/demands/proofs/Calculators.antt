-- What the calculator gives, as specs/Calculators states it.
use mathlib.Core.Path.{◌≡◌, refl, sym, ◌∙◌}
use mathlib.Core.List.{List}
use Prim.Native.Nat.{ℕ}
use Rattle.std.specs.Prelude.{Ok}
use Rattle.table.specs.Check.{table_answer, table_in}
use Rattle.table.proofs.WellFormed.{well_formed}
use Rattle.reaction.specs.Reaction.{reaction_of, react_of}
use Rattle.reaction.proofs.Meaning as reaction
use Rattle.reaction.proofs.Meaning.{means, only_answer}
use Rattle.reaction.proofs.Entry as entry
use Rattle.reaction.proofs.Entry.{entry_refuses}
use Rattle.demands.specs.Calculators.{AnswerMeans, EntryMeans, FourteenComes, TenComes}

pub answer_means : AnswerMeans
answer_means t ok P A r = (means t ok P A r, only_answer t ok P A r)

-- The entry gives what the table does.
same_answer : (s : List ℕ) → table_answer s ≡ Ok tt → (table_in s).timers ≡ 0 → (P A : ℕ) → react_of s P A ≡ reaction_of (table_in s) P A
same_answer s e none P A = only_answer (table_in s) (well_formed s e) P A _ (entry.entry_means s e P A none _ refl)

pub entry_means : EntryMeans
entry_means s e none P A r =
    (entry.entry_means s e P A none r, λ means. only_answer (table_in s) (well_formed s e) P A r means ∙ sym (same_answer s e none P A))

pub fourteen_comes : FourteenComes
fourteen_comes s e some P A = entry_refuses s e P A some

pub ten_comes : TenComes
ten_comes t ok P A = reaction.ten_comes t ok P A
