-- For one move the calculator of several moves replies as that of one, as specs/Moves states it.
use mathlib.Core.Path.{◌≡◌, refl, ap, ◌∙◌}
use mathlib.Core.Bool.{Bool, true, false, not}
use mathlib.Core.Logic.{◌⊎◌, inl, inr}
use Prim.Native.Nat.{ℕ, ◌+◌, ◌-◌, ◌*◌, ◌^◌, ◌≤◌}
use native.Mathlib.Nat.{eq-zero-or-pos}
use native.Mathlib.Omega.{arith}
use borrow.Author.Tests.{le-ltb}
use lib.ListN.{get_or}
use Rattle.std.specs.Prelude.{if◌then◌else◌, Ok, Err}
use Rattle.wire.specs.Choice.{◌<?◌, ◌or◌}
use Rattle.wire.specs.Reply.{Reply, gives, refuses, Ruled}
use Rattle.table.specs.declared.Table.{Table}
use Rattle.table.specs.Table.{WellFormed}
use Rattle.table.specs.Answer as table_answers
use Rattle.table.specs.Check.{table_answer, table_in}
use Rattle.table.specs.Under.{under_table}
use Rattle.table.proofs.Answers.{decided}
use Rattle.table.proofs.WellFormed.{well_formed}
use Rattle.reaction.specs.declared.Refusal.TheVariants as one
use Rattle.reaction.specs.Answer as reaction
use Rattle.reaction.specs.Reaction.{next_set, off_target, weight, reaction_time, first_leaving, reaction_of, for_holds, react_of}
use Rattle.reaction.proofs.Entry.{has_holds, has_timers}
use Rattle.reaction.proofs.Meaning.{AllExist, known}
use Rattle.moves.specs.declared.Refusal.TheVariants as several
use Rattle.moves.specs.Answer as moves
use Rattle.moves.specs.Answer.{Judged, judged_then}
use Rattle.moves.specs.Moves.{next_times, sums_of, largest_sum, judge, judge_of, reaction_over, moves_of}
use Rattle.moves.proofs.Rows.{same_largest}
use Rattle.laws.specs.Moves.{without_length, OneMove}
use Rattle.laws.proofs.Rounds.{exists, passed, on_path, none_ahead}

-- ---- Time and target

module _ {t : Table} {P A : ℕ} (all : AllExist t P A) where
  pub row_of_weights : (N : ℕ) (w : ℕ → ℕ) (q : ℕ) → off_target P N q ≡ true → get_or (sums_of t P A N w 1) q 0 ≡ w q
  row_of_weights N w q e =
      let on = passed all N q e in
      let none = none_ahead all N w q (exists all N on) in
      on_path all N w 0 q on ∙ omega arith

  same_time : (reaction_over t P A 1).time ≡ reaction_time t P A
  unfolding reaction_over reaction_time next_times largest_sum
  same_time = ap (λ n. t.bound + n) (same_largest t.states (off_target P (next_set t P A)) _ (weight t A) (row_of_weights (next_set t P A) (weight t A)))

  same_target : (reaction_over t P A 1).target ≡ next_set t P A
  unfolding reaction_over next_times
  same_target = refl

-- ---- The reply

abbrev reply : Judged → Table → ℕ → ℕ → Reply
reply j t P A = without_length (moves.reply_of (judged_then j (reaction_over t P A 1)))

refusal_kept : (r : Reply) → Ruled r → without_length r ≡ r
refusal_kept (gives values) rules = absurd rules
refusal_kept (refuses number place) rules = refl

module _ (P A sums path : ℕ) (t : Table) (row : t.states ≤ sums) (byte : 1 ≤ path) (good : WellFormed t) where
  room : ((sums <? 1 * t.states) or (path <? 2 * 1 - 1)) ≡ false
  room = rw (le-ltb sums (1 * t.states) (omega arith), le-ltb path 1 byte)

  under_table_lem : reply (judge t P A 1 sums path) t P A ≡ reaction.reply_of (reaction_of t P A)
  unfolding judge reaction_of
  under_table_lem = rw room (go (P <? 2 ^ t.states) refl (A <? 2 ^ t.inputs) refl (first_leaving t P A <? t.states * t.inputs))
    where
      go : (a : Bool) → (P <? 2 ^ t.states) ≡ a → (b : Bool) → (A <? 2 ^ t.inputs) ≡ b → (c : Bool) →
          reply
          (if not a then Err several.UnknownState
          else if not b then Err several.UnknownInput
          else if c then Err (several.LeavesStates (first_leaving t P A))
          else Ok tt) t P A
          ≡ reaction.reply_of
          (if not a then Err one.UnknownState
          else if not b then Err one.UnknownInput
          else if c then Err (one.LeavesStates (first_leaving t P A))
          else reaction.Reacts (reaction_time t P A) (next_set t P A))
      go false _ b _ c = refl
      go true _ false _ c = refl
      go true _ true _ true = refl
      go true a true b false =
          let all : AllExist t P A = record { table = good; states = known t.states P a; inputs = known t.inputs A b } in
          rw (same_time all, same_target all)

  by_timers : reply (for_holds (Err several.HasTimers) (λ t. judge t P A 1 sums path) t) t P A ≡ reaction.reply_of (for_holds (Err one.HasTimers) (λ t. reaction_of t P A) t)
  by_timers = go (eq-zero-or-pos t.timers)
    where
      go : (t.timers ≡ 0) ⊎ (1 ≤ t.timers) →
          reply (for_holds (Err several.HasTimers) (λ t. judge t P A 1 sums path) t) t P A ≡ reaction.reply_of (for_holds (Err one.HasTimers) (λ t. reaction_of t P A) t)
      go (inl none) = rw (has_holds (Err several.HasTimers) (λ t. judge t P A 1 sums path) t none, has_holds (Err one.HasTimers) (λ t. reaction_of t P A) t none) under_table_lem
      go (inr some) =
          let other : t.timers ≡ 0 → ⊥ = λ z. omega arith in
          rw (has_timers (Err several.HasTimers) (λ t. judge t P A 1 sums path) t other, has_timers (Err one.HasTimers) (λ t. reaction_of t P A) t other)

pub one_move : OneMove
unfolding moves_of judge_of react_of under_table
one_move s P A sums path row byte =
    decided (table_answer s) (λ e. rw e (by_timers P A sums path (table_in s) (row e) byte (well_formed s e)))
    (λ refusal e. rw e (refusal_kept (table_answers.table_refusal refusal) (table_answers.table_ruled refusal)))
