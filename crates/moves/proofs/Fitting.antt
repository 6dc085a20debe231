-- What it takes for the calculator of several moves to turn nothing down, and what it then answers.
use mathlib.Core.Path.{◌≡◌, refl}
use mathlib.Core.Bool.{Bool, true, false, not}
use mathlib.Core.List.{List}
use mathlib.Core.Logic.{◌⊎◌, inl, inr}
use Prim.Native.Nat.{ℕ, ◌-◌, ◌*◌, ◌^◌, ◌≤◌}
use native.Mathlib.Nat.{eq-zero-or-pos}
use native.Mathlib.Omega.{arith}
use borrow.Author.Tests.{ltb-false}
use Rattle.std.specs.Prelude.{Ok, Err, if◌then◌else◌}
use Rattle.wire.specs.Choice.{◌<?◌, ◌or◌}
use Rattle.wire.proofs.Choice.{never}
use Rattle.table.specs.declared.Table.{Table}
use Rattle.table.specs.Table.{WellFormed}
use Rattle.table.specs.Check.{table_answer, table_in}
use Rattle.table.specs.Under.{under_table}
use Rattle.table.proofs.Answers.{decided}
use Rattle.table.proofs.Under.{under_passes}
use Rattle.table.proofs.WellFormed.{well_formed}
use Rattle.reaction.specs.Reaction.{first_leaving, for_holds}
use Rattle.reaction.proofs.Entry.{has_holds, has_timers}
use Rattle.reaction.proofs.Meaning.{AllExist, known}
use Rattle.moves.specs.declared.Refusal.TheVariants as why
use Rattle.moves.specs.Answer.{judged_passes?}
use Rattle.moves.specs.Moves.{judge, judge_of}

pub record Fits (t : Table) (P A n sums path : ℕ) : Type 0 where
  pub no_timers : t.timers ≡ 0
  pub all : AllExist t P A
  pub few : n ≤ 32
  pub search : (first_leaving t P A <? t.states * t.inputs) ≡ false
  pub sums_fit : n * t.states ≤ sums
  pub path_fits : 2 * n - 1 ≤ path

module _ (t : Table) (table : WellFormed t) (none : t.timers ≡ 0) (P A n sums path : ℕ) where
  judged : judged_passes? (judge t P A n sums path) ≡ true → Fits t P A n sums path
  unfolding judge
  judged = go (P <? 2 ^ t.states) refl (A <? 2 ^ t.inputs) refl (32 <? n) refl (first_leaving t P A <? t.states * t.inputs) refl
      (sums <? n * t.states) refl (path <? 2 * n - 1) refl
    where
      go : (a : Bool) → (P <? 2 ^ t.states) ≡ a → (b : Bool) → (A <? 2 ^ t.inputs) ≡ b → (c : Bool) → (32 <? n) ≡ c →
          (d : Bool) → (first_leaving t P A <? t.states * t.inputs) ≡ d → (e : Bool) → (sums <? n * t.states) ≡ e → (f : Bool) → (path <? 2 * n - 1) ≡ f →
          judged_passes?
          (if not a then Err why.UnknownState
          else if not b then Err why.UnknownInput
          else if c then Err why.TooManyMoves
          else if d then Err (why.LeavesStates (first_leaving t P A))
          else if e or f then Err why.NoRoom
          else Ok tt) ≡ true → Fits t P A n sums path
      go false _ b _ c _ d _ e _ f _ p = never p
      go true _ false _ c _ d _ e _ f _ p = never p
      go true _ true _ true _ d _ e _ f _ p = never p
      go true _ true _ false _ true _ e _ f _ p = never p
      go true _ true _ false _ false _ true _ f _ p = never p
      go true _ true _ false _ false _ false _ true _ p = never p
      go true a true b false c false d false e false f p = record {
        no_timers = none;
        all = record { table = table; states = known t.states P a; inputs = known t.inputs A b };
        few = ltb-false 32 n c;
        search = d;
        sums_fit = ltb-false sums (n * t.states) e;
        path_fits = ltb-false path (2 * n - 1) f;
      }

module _ (s : List ℕ) (P A n sums path : ℕ) where
  pub table_passed : judged_passes? (judge_of s P A n sums path) ≡ true → table_answer s ≡ Ok tt
  unfolding judge_of under_table
  table_passed e = decided (table_answer s) (λ p. p) (λ refusal r. never (rw r at e))

  pub fits : judged_passes? (judge_of s P A n sums path) ≡ true → Fits (table_in s) P A n sums path
  unfolding judge_of
  fits e = go (eq-zero-or-pos t.timers) (rw under at e)
    where
      t : Table
      t = table_in s

      under : under_table (λ refusal. Err (why.Table refusal)) (for_holds (Err why.HasTimers) (λ t. judge t P A n sums path)) s ≡ for_holds (Err why.HasTimers) (λ t. judge t P A n sums path) t
      under = under_passes (λ refusal. Err (why.Table refusal)) _ s (table_passed e)

      go : (t.timers ≡ 0) ⊎ (1 ≤ t.timers) → judged_passes? (for_holds (Err why.HasTimers) (λ t. judge t P A n sums path) t) ≡ true → Fits t P A n sums path
      go (inl none) p = judged t (well_formed s (table_passed e)) none P A n sums path (rw (has_holds (Err why.HasTimers) (λ t. judge t P A n sums path) t none) at p)
      go (inr some) p = never (rw (has_timers (Err why.HasTimers) (λ t. judge t P A n sums path) t (λ z. omega arith)) at p)
