-- What the entry over several moves makes of what the judge says; and that it never lacks room.
use mathlib.Core.Path.{◌≡◌, refl, sym, ap, ◌∙◌}
use mathlib.Core.Bool.{true}
use mathlib.Core.List.{List}
use Prim.Native.Nat.{ℕ}
use Rattle.std.specs.Prelude.{Ok, Err}
use Rattle.std.specs.Result.{IsErrAnd}
use Rattle.std.proofs.lemmas.Result.{err_from_is_err_and}
use Rattle.wire.proofs.Apart.{apart}
use Rattle.table.specs.Check.{table_in}
use Rattle.moves.specs.declared.Refusal.{Refusal}
use Rattle.moves.specs.Answer.{Judged, judged_passes?, judged_then}
use Rattle.moves.specs.Moves.{next_times, judge_of, reaction_over}
use Rattle.tight.specs.declared.Tight.{Tight}
use Rattle.tight.specs.Answer.{Over, ReactsTight}
use Rattle.tight.proofs.Told.{time_in, target_in, tight_in}
use Rattle.tight.specs.Several.{tight_time_over, room_for_sums, room_for_path, times_over, tight_moves_of}

module _ (s : List ℕ) (P A n : ℕ) {x : Judged} (is : x ≡ judge_of s P A n room_for_sums room_for_path) where
  pub turned_down : {refusal : Refusal} → x ≡ Err refusal → (r : Over) → IsErrAnd r (λ e. e ≡ refusal) → r ≡ tight_moves_of s P A n
  unfolding tight_moves_of
  turned_down h r same =
      let j = sym is ∙ h in
      let e = err_from_is_err_and r same in
      rw (j, e.1, e.2)

  pub passed_up : {refusal : Refusal} → x ≡ Err refusal → Err refusal ≡ tight_moves_of s P A n
  unfolding tight_moves_of
  passed_up h = let j = sym is ∙ h in rw j refl

  pub reacts : x ≡ Ok tt → {r : Tight} → r ≡ times_over (table_in s) P A n → Ok r ≡ tight_moves_of s P A n
  unfolding tight_moves_of
  reacts h e = let j = sym is ∙ h in rw (j, e)

-- Where times are given nothing was turned down, and they are those of the table.
pub record Answered (s : List ℕ) (P A n time target tight : ℕ) : Type 0 where
  pub passes : judged_passes? (judge_of s P A n room_for_sums room_for_path) ≡ true
  pub time_is : time ≡ (reaction_over (table_in s) P A n).time
  pub target_is : target ≡ next_times (table_in s) P A n
  pub tight_is : tight ≡ tight_time_over (table_in s) P A n

pub answered : (s : List ℕ) (P A n time target tight : ℕ) → tight_moves_of s P A n ≡ ReactsTight time target tight → Answered s P A n time target tight
unfolding tight_moves_of times_over reaction_over
answered s P A n time target tight e = go (judge_of s P A n room_for_sums room_for_path) refl e
  where
    go : (j : Judged) → judge_of s P A n room_for_sums room_for_path ≡ j → judged_then j (times_over (table_in s) P A n) ≡ ReactsTight time target tight →
        Answered s P A n time target tight
    go (Ok passed) p f = record { passes = ap judged_passes? p; time_is = sym (ap time_in f); target_is = sym (ap target_in f); tight_is = sym (ap tight_in f) }
    go (Err refusal) p f = apart cc
