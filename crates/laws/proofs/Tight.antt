-- Tight times over several moves, as specs/Tight states them.
use mathlib.Core.Path.{◌≡◌, refl, sym, ap, ◌∙◌}
use mathlib.Core.Bool.{Bool}
use mathlib.Core.List.{List, [], ◌∷◌}
use mathlib.Core.Logic.{◌⊎◌, inl, inr}
use Prim.Native.Nat.{ℕ, ◌+◌, ◌<◌, ◌≤◌}
use native.Mathlib.Nat.{le_antisymm}
use native.Mathlib.Omega.{arith}
use lib.ListN.{length}
use Rattle.wire.proofs.Choice.{never, both}
use Rattle.sets.specs.Sets.{member, largest}
use Rattle.sets.proofs.Members.{largest_covers, largest_reached, Reaching}
use Rattle.table.specs.declared.Table.{Table}
use Rattle.table.specs.Table.{WellFormed}
use Rattle.reaction.specs.Reaction.{next_set, off_target, weight}
use Rattle.reaction.specs.Meaning.{Known}
use Rattle.reaction.proofs.Meaning.{AllExist}
use Rattle.moves.specs.Moves.{next_times, largest_sum, reaction_over}
use Rattle.moves.proofs.Rows.{same_largest}
use Rattle.tight.specs.Tight.{tight_time}
use Rattle.tight.specs.Several.{tight_weight, tight_time_over}
use Rattle.tight.proofs.Time.{Slowest, NoneOutside, slowest, tight_covers}
use Rattle.tight.proofs.Several.{one_below, need_by_weight, tight_positive, without_path, with_path, over_covers}
use Rattle.laws.specs.Paths.{sum_of, Largest}
use Rattle.laws.specs.Tight.{holds_on, NoPath, TightMeans, BelowOver, TightOverMeans, TightOverBelow, TightOfNone, TightOfOne}
use Rattle.laws.proofs.Rounds.{weight_positive}
use Rattle.laws.proofs.Paths.{only_empty, largest_is_of_all}
use Rattle.laws.proofs.OneMove.{row_of_weights}

-- On one path the two sums are apart by the states with a weight from a hold.
apart_by_holds : (t : Table) (A : ℕ) (path : List ℕ) → sum_of (tight_weight t A) path + holds_on t A path ≡ sum_of (weight t A) path
unfolding sum_of holds_on
apart_by_holds t A [] = refl
apart_by_holds t A (q ∷ rest) = omega (arith, one_below t A q, apart_by_holds t A rest)

module _ {t : Table} {P A : ℕ} (all : AllExist t P A) (N n : ℕ) where
  -- There is no path where the largest sum is 0, and only there.
  module _ (w : ℕ → ℕ) (positive : (q : ℕ) → 0 < w q) where
    largest_is : Largest t P A N w n (largest_sum t P A N w n)
    largest_is = largest_is_of_all t all.table P A N w positive all.states all.inputs n

    no_sum : NoPath t P A N n → largest_sum t P A N w n ≡ 0
    unfolding sum_of
    no_sum none = let some = largest_is.some in sym some.2 ∙ ap (sum_of w) (none some.0 some.1)

    no_path : largest_sum t P A N w n ≡ 0 → NoPath t P A N n
    no_path z path is = only_empty all N w positive path (omega (arith, largest_is.none_larger path is))

module _ {t : Table} {P A : ℕ} (all : AllExist t P A) (n : ℕ) where
  abbrev N : ℕ
  N = next_times t P A n

  abbrev positive : (q : ℕ) → 0 < tight_weight t A q
  positive q = tight_positive t A q all.table.bound.0

  with_sum : (NoPath t P A N n → ⊥) → tight_time_over t P A n + 1 ≡ t.bound + largest_sum t P A N (tight_weight t A) n
  with_sum some = omega (arith, with_path t P A n (λ z. some (no_path all N n (tight_weight t A) positive z)), all.table.bound)

  means : TightMeans t P A N n (tight_time_over t P A n)
  means = record {
    sum = largest_sum t P A N (tight_weight t A) n;
    largest = largest_is all N n (tight_weight t A) positive;
    without = λ none. without_path t P A n (no_sum all N n (tight_weight t A) positive none);
    with = with_sum;
  }

  below : BelowOver t P A N n (reaction_over t P A n).time (tight_time_over t P A n)
  unfolding reaction_over
  below = record {
    same = λ none. omega (arith, means.without none, no_sum all N n (weight t A) (weight_positive all) none);
    at_least = λ other.
        let some = tights.some in
        omega (arith, with_sum other, some.2, apart_by_holds t A some.0, olds.none_larger some.0 some.1);
    at_most = λ path is largest.
        let some = olds.some in
        omega (arith, largest.none_larger some.0 some.1, some.2, apart_by_holds t A path, tights.none_larger path is, over_covers t P A n);
  }
    where
      tights : Largest t P A N (tight_weight t A) n (largest_sum t P A N (tight_weight t A) n)
      tights = largest_is all N n (tight_weight t A) positive

      olds : Largest t P A N (weight t A) n (largest_sum t P A N (weight t A) n)
      olds = largest_is all N n (weight t A) (weight_positive all)

-- ---- One move

module _ {t : Table} {P A : ℕ} (all : AllExist t P A) where
  abbrev outside : ℕ → Bool
  outside q = off_target P (next_set t P A) q

  one_sum : largest_sum t P A (next_times t P A 1) (tight_weight t A) 1 ≡ largest t.states outside (tight_weight t A)
  unfolding next_times largest_sum
  one_sum = same_largest t.states outside _ (tight_weight t A) (row_of_weights all (next_set t P A) (tight_weight t A))

  one : tight_time_over t P A 1 ≡ tight_time t P A
  one = go (slowest t P A all.table.bound.0)
    where
      go : NoneOutside t P A ⊎ Slowest t P A → tight_time_over t P A 1 ≡ tight_time t P A
      go (inl n) = without_path t P A 1 (one_sum ∙ none (largest_reached t.states outside (tight_weight t A))) ∙ sym n.tight_is
        where
          none : {m : ℕ} → (m ≡ 0) ⊎ Reaching t.states outside (tight_weight t A) m → m ≡ 0
          none (inl z) = z
          none (inr r) = never (sym (n.none r.at r.below) ∙ r.passes)
      go (inr s) = omega (arith, with_path t P A 1 (λ z. omega (arith, is, positive all 1 q)), is, need_by_weight t A q all.table.bound.0, s.tight_is)
        where
          q : ℕ
          q = s.state

          at_most : {m : ℕ} → (m ≡ 0) ⊎ Reaching t.states outside (tight_weight t A) m → m ≤ tight_weight t A q
          at_most (inl z) = omega arith
          at_most (inr r) =
              let covered = tight_covers t P A all.table.bound.0 r.at r.below r.passes in
              omega (arith, r.is, s.tight_is, need_by_weight t A r.at all.table.bound.0, need_by_weight t A q all.table.bound.0)

          is : largest_sum t P A (next_times t P A 1) (tight_weight t A) 1 ≡ tight_weight t A q
          is =
              one_sum
              ∙ le_antisymm (at_most (largest_reached t.states outside (tight_weight t A)))
              (largest_covers t.states outside (tight_weight t A) q (all.states q (both (member P q) _ s.is_outside).0) s.is_outside)

-- ---- The theorems

abbrev known : {t : Table} {P A : ℕ} → WellFormed t → Known t.states P → Known t.inputs A → AllExist t P A
known table states inputs = record { table = table; states = states; inputs = inputs }

pub tight_over_means : TightOverMeans
tight_over_means t table P A states inputs n = means (known table states inputs) n

pub tight_over_below : TightOverBelow
tight_over_below t table P A states inputs n = below (known table states inputs) n

pub tight_of_none : TightOfNone
tight_of_none t table P A states inputs = (means (known table states inputs) 0).without (λ path is. none path is.1)
  where
    none : (path : List ℕ) → length path ≤ 0 → path ≡ []
    none [] l = refl
    none (q ∷ rest) l = absurd (let z : ⊥ = omega arith in z)

pub tight_of_one : TightOfOne
tight_of_one t table P A states inputs = one (known table states inputs)
