-- Where the entry refuses, both slices that were lent are as they were.
use mathlib.Core.Path.{◌≡◌, refl}
use mathlib.Core.List.{List}
use Prim.Native.Nat.{ℕ}
use lib.ListN.{length}
use Rattle.std.specs.Prelude.{Ok, Err, if◌then◌else◌}
use Rattle.wire.specs.Reply.{number_in}
use Rattle.table.specs.Check.{table_in}
use Rattle.moves.specs.Answer.{Judged, judged_passes?, judged_then, reply_of}
use Rattle.moves.specs.Moves.{judge_of, reaction_over, sums_over, path_over, moves_of, sums_after, path_after}

module _ (s : List ℕ) (P A n : ℕ) (sums path : List ℕ) where
  pub refusal_keeps : (number_in (reply_of (moves_of s P A n (length sums) (length path))) ≡ 0 → ⊥) →
      (sums_after s P A n sums (length path) ≡ sums) × (path_after s P A n (length sums) path ≡ path)
  unfolding moves_of sums_after path_after
  refusal_keeps = go (judge_of s P A n (length sums) (length path))
    where
      go : (j : Judged) → (number_in (reply_of (judged_then j (reaction_over (table_in s) P A n))) ≡ 0 → ⊥) →
          ((if judged_passes? j then sums_over (table_in s) P A n sums else sums) ≡ sums) × ((if judged_passes? j then path_over (table_in s) P A n path else path) ≡ path)
      go (Ok passed) other = absurd (other refl)
      go (Err refusal) other = (refl, refl)
