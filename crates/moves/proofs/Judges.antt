-- What the entry makes of what the judge says.
use mathlib.Core.Path.{◌≡◌, refl, sym, ◌∙◌}
use mathlib.Core.List.{List}
use Prim.Native.Nat.{ℕ}
use lib.ListN.{length}
use Rattle.std.specs.Prelude.{Ok, Err}
use Rattle.std.specs.Result.{IsErrAnd}
use Rattle.std.proofs.lemmas.Result.{err_from_is_err_and}
use Rattle.table.specs.Check.{table_in}
use Rattle.table.specs.Under.{under_table}
use Rattle.reaction.specs.Reaction.{for_holds}
use Rattle.moves.specs.declared.Reaction.{Reaction}
use Rattle.moves.specs.declared.Refusal.{Refusal}
use Rattle.moves.specs.declared.Refusal.TheVariants as why
use Rattle.moves.specs.Answer.{Judged, MovesAnswer}
use Rattle.moves.specs.Moves.{judge, judge_of, reaction_over, sums_over, path_over, moves_of, sums_after, path_after}

pub judges_on : (s : List ℕ) (P A n sums path : ℕ) →
    judge_of s P A n sums path ≡ under_table (λ refusal. Err (why.Table refusal)) (for_holds (Err why.HasTimers) (λ t. judge t P A n sums path)) s
unfolding judge_of
judges_on s P A n sums path = refl

pub let_pass : {j x : Judged} → x ≡ j → x ≡ Ok tt → j ≡ Ok tt
let_pass is h = sym is ∙ h

module _ (s : List ℕ) (P A n : ℕ) (sums path : List ℕ) {x : Judged} (is : x ≡ judge_of s P A n (length sums) (length path)) where
  module _ {refusal : Refusal} (h : x ≡ Err refusal) where
    pub turned_down : (r : MovesAnswer) → IsErrAnd r (λ e. e ≡ refusal) → r ≡ moves_of s P A n (length sums) (length path)
    unfolding moves_of
    turned_down r same =
        let j = sym is ∙ h in
        let e = err_from_is_err_and r same in
        rw (j, e.1, e.2)

    pub passed_up : Err refusal ≡ moves_of s P A n (length sums) (length path)
    unfolding moves_of
    passed_up = let j = sym is ∙ h in rw j refl

    pub sums_kept : sums ≡ sums_after s P A n sums (length path)
    unfolding sums_after
    sums_kept = let j = sym is ∙ h in rw j

    pub path_kept : path ≡ path_after s P A n (length sums) path
    unfolding path_after
    path_kept = let j = sym is ∙ h in rw j

  module _ (h : x ≡ Ok tt) where
    pub reacts : {r : Reaction} → r ≡ reaction_over (table_in s) P A n → Ok r ≡ moves_of s P A n (length sums) (length path)
    unfolding moves_of
    reacts e = let j = sym is ∙ h in rw (j, e)

    pub sums_written : {new : List ℕ} → new ≡ sums_over (table_in s) P A n sums → new ≡ sums_after s P A n sums (length path)
    unfolding sums_after
    sums_written e = let j = sym is ∙ h in rw (j, e)

    pub path_written : {new : List ℕ} → new ≡ path_over (table_in s) P A n path → new ≡ path_after s P A n (length sums) path
    unfolding path_after
    path_written e = let j = sym is ∙ h in rw (j, e)
