-- The entry on bytes: where the table passes and has holds, the answer means what it should; with timers it is 14.
use mathlib.Core.Path.{◌≡◌, refl, sym, ap, ◌∙◌}
use mathlib.Core.Bool.{Bool, true, false, not}
use mathlib.Core.List.{List}
use Prim.Native.Nat.{ℕ, zero, suc, ◌*◌, ◌^◌}
use native.Mathlib.Omega.{arith}
use borrow.Author.Tests.{eq-eqb, ne_eqb}
use Rattle.std.specs.Prelude.{if◌then◌else◌, Ok, Err}
use Rattle.wire.specs.Choice.{◌<?◌}
use Rattle.wire.proofs.Apart.{apart}
use Rattle.table.specs.declared.Refusal.{Refusal}
use Rattle.table.specs.declared.Table.{Table}
use Rattle.table.specs.Check.{table_answer, table_in}
use Rattle.table.specs.Under.{under_table}
use Rattle.table.specs.Answer as checked
use Rattle.table.proofs.Under.{under_passes, under_passed, passed_up, goes_under}
use Rattle.table.proofs.WellFormed.{well_formed}
use Rattle.reaction.specs.declared.Refusal.TheVariants as why
use Rattle.reaction.specs.Answer.{ReactionAnswer, Reacts}
use Rattle.reaction.specs.Reaction.{next_set, reaction_time, first_leaving, for_holds, reaction_of, react_of}
use Rattle.reaction.specs.Meaning.{Reaction, Means}
use Rattle.reaction.proofs.Meaning.{means}

module _ {A : Type 0} (timers : A) (under : Table → A) (t : Table) where
  pub has_holds : t.timers ≡ 0 → for_holds timers under t ≡ under t
  unfolding for_holds
  has_holds e = rw (eq-eqb t.timers 0 e)

  pub has_timers : (t.timers ≡ 0 → ⊥) → for_holds timers under t ≡ timers
  unfolding for_holds
  has_timers other = rw (ne_eqb t.timers 0 other)

-- What was tested with a count that was read is so of the table's.
pub limit : (n m set : ℕ) {b : Bool} → n ≡ m → b ≡ (set <? 2 ^ n) → (set <? 2 ^ m) ≡ b
limit n m set e is = ap (λ k. set <? 2 ^ k) (sym e) ∙ sym is

-- An entry that is what is made under a table, by what the table's check answered.
module _ {A : Type 0} (refused : Refusal → A) (under : Table → A) (s : List ℕ) (entry : A) (on : entry ≡ under_table refused under s)
    {x : checked.TableAnswer} (is : x ≡ table_answer s) where
  pub table_refused : {refusal : Refusal} → x ≡ Err refusal → refused refusal ≡ entry
  table_refused h = passed_up refused under s is h ∙ sym on

  pub table_passed : x ≡ Ok tt → {a : A} → a ≡ under (table_in s) → a ≡ entry
  table_passed h e = goes_under refused under s is h e ∙ sym on

pub reacts_on : (s : List ℕ) (P A : ℕ) → react_of s P A ≡ under_table (λ refusal. Err (why.Table refusal)) (for_holds (Err why.HasTimers) (λ t. reaction_of t P A)) s
unfolding react_of
reacts_on s P A = refl

module _ (s : List ℕ) (e : table_answer s ≡ Ok tt) (P A : ℕ) where
  pub entry_means : (table_in s).timers ≡ 0 → (r : ReactionAnswer) → r ≡ react_of s P A → Means (table_in s) P A r
  unfolding react_of
  entry_means none r is =
      means (table_in s) (well_formed s e) P A r
      (is ∙ under_passes (λ refusal. Err (why.Table refusal)) (for_holds (Err why.HasTimers) (λ t. reaction_of t P A)) s e ∙ has_holds (Err why.HasTimers) (λ t. reaction_of t P A) (table_in s) none)

  pub entry_refuses : ((table_in s).timers ≡ 0 → ⊥) → react_of s P A ≡ Err why.HasTimers
  unfolding react_of
  entry_refuses some =
      under_passes (λ refusal. Err (why.Table refusal)) (for_holds (Err why.HasTimers) (λ t. reaction_of t P A)) s e ∙ has_timers (Err why.HasTimers) (λ t. reaction_of t P A) (table_in s) some

-- Where a time and a target are given the table passes and has holds, and they are its reaction time and its next states.
pub record Reacted (s : List ℕ) (P A time target : ℕ) : Type 0 where
  pub passes : table_answer s ≡ Ok tt
  pub no_timers : (table_in s).timers ≡ 0
  pub means : Reaction (table_in s) P A time target
  pub time_is : time ≡ reaction_time (table_in s) P A
  pub target_is : target ≡ next_set (table_in s) P A

time_in : ReactionAnswer → ℕ
time_in (Ok r) = r.time
time_in (Err refusal) = 0

target_in : ReactionAnswer → ℕ
target_in (Ok r) = r.target
target_in (Err refusal) = 0

computed : (t : Table) (P A time target : ℕ) → reaction_of t P A ≡ Reacts time target → (time ≡ reaction_time t P A) × (target ≡ next_set t P A)
unfolding reaction_of time_in reaction_time target_in next_set
computed t P A time target = go (P <? 2 ^ t.states) (A <? 2 ^ t.inputs) (first_leaving t P A <? t.states * t.inputs)
  where
    go : (a b c : Bool) →
        (if not a then Err why.UnknownState
        else if not b then Err why.UnknownInput
        else if c then Err (why.LeavesStates (first_leaving t P A))
        else Reacts (reaction_time t P A) (next_set t P A)) ≡ Reacts time target → (time ≡ reaction_time t P A) × (target ≡ next_set t P A)
    go false b c e = apart cc
    go true false c e = apart cc
    go true true true e = apart cc
    go true true false e = (sym (ap time_in e), sym (ap target_in e))

pub reacted : (s : List ℕ) (P A time target : ℕ) → react_of s P A ≡ Reacts time target → Reacted s P A time target
unfolding react_of
reacted s P A time target e =
    let passes = under_passed (λ refusal. Err (why.Table refusal)) (for_holds (Err why.HasTimers) (λ t. reaction_of t P A)) s (Reacts time target) (λ a f. apart cc) e in
    let under = under_passes (λ refusal. Err (why.Table refusal)) (for_holds (Err why.HasTimers) (λ t. reaction_of t P A)) s passes in
    let none = no_timers (table_in s).timers (λ some. let f = sym (entry_refuses s passes P A some) ∙ e in apart cc) in
    let is = computed (table_in s) P A time target (sym (under ∙ has_holds (Err why.HasTimers) (λ t. reaction_of t P A) (table_in s) none) ∙ e) in
    record {
      passes = passes;
      no_timers = none;
      means = entry_means s passes P A none (Reacts time target) (sym e);
      time_is = is.0;
      target_is = is.1;
    }
  where
    no_timers : (n : ℕ) → ((n ≡ 0 → ⊥) → ⊥) → n ≡ 0
    no_timers zero h = refl
    no_timers (suc n) h = absurd (h (λ is. omega arith))
